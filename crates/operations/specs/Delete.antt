-- delete: 12, 3, 8. begin_expiration: 12, "absent gives Stale, expires > now gives NotDue with the time, else as delete".
use Rattle.std.specs.Prelude.{cond, List, [], ℕ, ◌+◌, ltb, length}
use Rattle.std.specs.Prelude.{Option, None, Some}
use Rattle.lists.specs.Lists.{find}
use Rattle.lists.specs.Places.{in_places}
use Rattle.ids.specs.declared.LockId.{LockId}
use Rattle.state.specs.declared.ActiveLock.{ActiveLock}
use Rattle.state.specs.declared.LockState.{LockState}
use Rattle.state.specs.Locks.{has_id, blank_active}
use Rattle.state.specs.Model.{Model, model_of, state_of}
use Rattle.lookups.specs.Reads.{on_sound}
use Rattle.std.specs.Prelude.{Result, Ok, Err, ⊤}
use Rattle.operations.specs.declared.answers.DeletionRefusal.{DeletionRefusal}
use Rattle.operations.specs.declared.answers.DeletionRefusal.TheVariants as deletion
use Rattle.operations.specs.declared.answers.StateRefusal.{StateRefusal}
use Rattle.operations.specs.declared.answers.StateRefusal.TheVariants as unsound
use Rattle.operations.specs.declared.answers.Expiration.{Expiration}
use Rattle.operations.specs.declared.answers.Expiration.TheVariants.{Done, Stale, NotDue}
use Rattle.operations.specs.Answers.{Deleted}
use Rattle.operations.specs.Answers.{Expired}
use Rattle.operations.specs.Trees.{Parts, start_parts, tree_parts}
use Rattle.operations.specs.Checks.{at_last_lem}

-- the tree of the root out of the active locks
abbrev pub tree_out : Model → ActiveLock → Parts
tree_out m root = tree_parts root (start_parts m.active)

unfoldable pub without_tree : Model → ActiveLock → Model
without_tree m root = record { revision = m.revision + 1; active = (tree_out m root).kept; defunct = m.defunct }

-- ---- delete
abbrev pub deleted : Result ⊤ DeletionRefusal → List ActiveLock → LockState → Deleted
deleted answer gone state = record { told = record { answer = answer; gone = length gone; removed = in_places 64 blank_active gone }; state = state }

-- 3 where there is no such lock; 8 at the last revision; else its tree goes
unfoldable pub delete_found : LockState → LockId → Option ActiveLock → Deleted
delete_found state id None = deleted (Err (deletion.ActiveLockNotFound id)) [] state
delete_found state id (Some root) =
    cond (at_last_lem state.revision) (deleted (Err deletion.RevisionOverflow) [] state)
    (deleted (Ok tt) (tree_out (model_of state) root).gone (state_of (without_tree (model_of state) root)))

unfoldable pub delete_on : LockState → LockId → Deleted
delete_on state id = on_sound state (λ rule. deleted (Err (deletion.UnsoundState rule)) [] state) (delete_found state id (find (has_id id) (model_of state).active))

-- ---- begin_expiration
abbrev pub expired : Result Expiration StateRefusal → List ActiveLock → LockState → Expired
expired answer gone state = record { told = record { answer = answer; gone = length gone; removed = in_places 64 blank_active gone }; state = state }

-- "as delete": a deletion's answer in an expiration's words; the lock was found, so the case of 3 doesn't come up
abbrev pub as_expiration : Result ⊤ DeletionRefusal → Result Expiration StateRefusal
as_expiration (Ok _) = Ok Done
as_expiration (Err (deletion.ActiveLockNotFound id)) = Ok Stale
as_expiration (Err deletion.RevisionOverflow) = Err unsound.RevisionOverflow
as_expiration (Err (deletion.UnsoundState rule)) = Err (unsound.UnsoundState rule)

abbrev pub as_expired : Deleted → Expired
as_expired result = record { told = record { answer = as_expiration result.told.answer; gone = result.told.gone; removed = result.told.removed }; state = result.state }

-- Stale, NotDue with the time, "else as delete"
unfoldable pub expire_found : LockState → LockId → ℕ → Option ActiveLock → Expired
expire_found state id now None = expired (Ok Stale) [] state
expire_found state id now (Some lock) = cond (ltb now lock.expires) (expired (Ok (NotDue lock.expires)) [] state) (as_expired (delete_on state id))

unfoldable pub begin_expiration_on : LockState → LockId → ℕ → Expired
begin_expiration_on state id now = on_sound state (λ rule. expired (Err (unsound.UnsoundState rule)) [] state) (expire_found state id now (find (has_id id) (model_of state).active))
