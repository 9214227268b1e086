-- renew: 12, 3, 9 (expires <= now), 10 (new <= old), 8. "Metadata changes only if given."
use Rattle.std.specs.Prelude.{Bool, cond, map, ℕ, ◌+◌, leb}
use Rattle.std.specs.Prelude.{Option, None, Some}
use Rattle.lists.specs.Lists.{find}
use Rattle.ids.specs.declared.LockId.{LockId}
use Rattle.state.specs.declared.ActiveLock.{ActiveLock}
use Rattle.state.specs.declared.LockState.{LockState}
use Rattle.state.specs.Locks.{has_id, with_metadata}
use Rattle.state.specs.Model.{Model, model_of, state_of}
use Rattle.lookups.specs.Reads.{on_sound}
use Rattle.std.specs.Prelude.{Result, Ok, Err, ⊤}
use Rattle.operations.specs.declared.answers.RenewalRefusal.{RenewalRefusal}
use Rattle.operations.specs.declared.answers.RenewalRefusal.TheVariants.{ActiveLockNotFound, RevisionOverflow, LockExpired, RenewalNotExtension, UnsoundState}
use Rattle.operations.specs.Answers.{Renewed}
use Rattle.operations.specs.Answers.{refuse_if}
use Rattle.operations.specs.Checks.{at_last_lem}

-- the lock with its new expiry, and the metadata where some is given
unfoldable pub extended : ℕ → Bool → ℕ → ActiveLock → ActiveLock
extended expires given metadata lock =
    record {
      lock = with_metadata (cond given metadata lock.lock.metadata) lock.lock;
      parent = lock.parent;
      expires = expires;
      child = lock.child;
    }

unfoldable pub extend_at : LockId → ℕ → Bool → ℕ → ActiveLock → ActiveLock
extend_at id expires given metadata lock = cond (has_id id lock) (extended expires given metadata lock) lock

unfoldable pub renewed_in : Model → LockId → ℕ → Bool → ℕ → Model
renewed_in m id expires given metadata = record { revision = m.revision + 1; active = map (extend_at id expires given metadata) m.active; defunct = m.defunct }

-- 9, 10, 8 of the lock that was found
abbrev pub judge_lock : ℕ → ℕ → ℕ → ActiveLock → Result ⊤ RenewalRefusal
judge_lock revision expires now lock =
    -- 9
    refuse_if (leb lock.expires now) (Err LockExpired)
    -- 10
    (refuse_if (leb expires lock.expires) (Err RenewalNotExtension)
    -- 8
    (refuse_if (at_last_lem revision) (Err RevisionOverflow) (Ok tt)))

-- 3, and then
abbrev pub judge_found : Model → LockId → ℕ → ℕ → Option ActiveLock → Result ⊤ RenewalRefusal
judge_found m id expires now None = Err (ActiveLockNotFound id)
judge_found m id expires now (Some lock) = judge_lock m.revision expires now lock

unfoldable pub judge_renew : Model → LockId → ℕ → ℕ → Result ⊤ RenewalRefusal
judge_renew m id expires now = judge_found m id expires now (find (has_id id) m.active)

abbrev pub renewed : Result ⊤ RenewalRefusal → LockState → Renewed
renewed answer state = record { told = answer; state = state }

abbrev pub settled_renew : Result ⊤ RenewalRefusal → LockState → Model → Renewed
settled_renew (Ok _) state next = renewed (Ok tt) (state_of next)
settled_renew (Err refusal) state next = renewed (Err refusal) state

unfoldable pub renew_on : LockState → LockId → ℕ → ℕ → Bool → ℕ → Renewed
renew_on state id expires now given metadata =
    on_sound state (λ rule. renewed (Err (UnsoundState rule)) state)
    (settled_renew (judge_renew (model_of state) id expires now) state (renewed_in (model_of state) id expires given metadata))
