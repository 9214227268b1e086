-- Source document 001's five functions. Document 01, "What is carried over", "Order of checks" and the response classes.
use Rattle.std.specs.Prelude.{Bool, cond, List, [], ◌∷◌, ℕ, ◌+◌, eqb}
use Rattle.std.specs.Prelude.{Option, None, Some}
use Rattle.lists.specs.Tests.{◌and◌, non}
use Rattle.lists.specs.Lists.{any, find}
use Rattle.ids.specs.declared.LockId.{LockId}
use Rattle.state.specs.declared.ScopeKey.{ScopeKey}
use Rattle.state.specs.declared.ScopeKey.TheVariants.{Vehicle}
use Rattle.state.specs.declared.ActiveLock.{ActiveLock}
use Rattle.state.specs.declared.DefunctLock.{DefunctLock}
use Rattle.state.specs.declared.LockState.{LockState}
use Rattle.state.specs.Locks.{is_vehicle, is_group, same_scope, has_id_d}
use Rattle.state.specs.Model.{model_of}
use Rattle.std.specs.Prelude.{Result, Ok, Err, true, false}
use Rattle.rules.specs.declared.Unsound.{Unsound}
use Rattle.rules.specs.declared.Unsound.TheVariants.{Rule}
use Rattle.lists.specs.Papers.{Paper, paper}
use Rattle.std.specs.Option.{option_map}
use Rattle.lookups.specs.Reads.{on_sound, read, on_scope}
use Rattle.operations.specs.declared.answers.StateRefusal.{StateRefusal}
use Rattle.operations.specs.declared.answers.StateRefusal.TheVariants as state_refusal
use Rattle.operations.specs.declared.answers.Left.{Left}
use Rattle.operations.specs.Answers.{Acknowledged}
use Rattle.operations.specs.Acknowledge.{acknowledge_on}
use Rattle.locks.specs.declared.Response.{Response}
use Rattle.locks.specs.declared.Response.TheVariants as response
use Rattle.locks.specs.declared.UpdateRefusal.{UpdateRefusal}
use Rattle.locks.specs.declared.UpdateRefusal.TheVariants as update
use Rattle.locks.specs.declared.DroppingRefusal.{DroppingRefusal}
use Rattle.locks.specs.declared.DroppingRefusal.TheVariants as dropping

-- ---- map_state_error: "10 BadRequest; 2, 6, 7, 9 Conflict; 1, 3, 4, 5, 8, 11 InternalServerError; 26 Forbidden; others none"
abbrev pub one_of : List ℕ → ℕ → Bool
one_of l n = any (eqb n) l

unfoldable pub response_of : ℕ → Option Response
response_of n =
    cond (one_of (10 ∷ []) n) (Some response.BadRequest)
    (cond (one_of (2 ∷ (6 ∷ (7 ∷ (9 ∷ [])))) n) (Some response.Conflict)
    (cond (one_of (1 ∷ (3 ∷ (4 ∷ (5 ∷ (8 ∷ (11 ∷ [])))))) n) (Some response.InternalServerError)
    (cond (one_of (26 ∷ []) n) (Some response.Forbidden) None)))

-- ---- vehicle_lock_owner_sub, has_non_vehicle_locks
unfoldable pub vehicle_owner_on : LockState → Result (Option ℕ) Unsound
vehicle_owner_on state = read state (option_map (λ (lock : ActiveLock). lock.lock.subject) (find (on_scope Vehicle) (model_of state).active))

-- nobody, or the subject
unfoldable pub owner_paper : Result (Option ℕ) Unsound → Paper
owner_paper (Err (Rule n)) = paper 12 (n ∷ [])
owner_paper (Ok None) = paper 0 (0 ∷ [])
owner_paper (Ok (Some u)) = paper 0 (1 ∷ (u ∷ []))

unfoldable pub non_vehicle : ActiveLock → Bool
non_vehicle lock = non (is_vehicle lock.lock.scope)

unfoldable pub has_non_vehicle_on : LockState → Result Bool Unsound
has_non_vehicle_on state = read state (any non_vehicle (model_of state).active)

-- ---- prepare_runtime_update: "25, then 24; else the generation (u64, kept outside state and image) rises by 1,
-- saturating; the revision stays"
unfoldable pub group_lock : ActiveLock → Bool
group_lock lock = is_group lock.lock.scope

unfoldable pub ecu_lock : ActiveLock → Bool
ecu_lock lock = non (is_vehicle lock.lock.scope) and non (is_group lock.lock.scope)

unfoldable pub raised : ℕ → ℕ
raised generation = cond (eqb generation 18446744073709551615) generation (generation + 1)

unfoldable pub prepare_update_on : LockState → ℕ → Result ℕ UpdateRefusal
prepare_update_on state generation =
    on_sound state (λ rule. Err (update.UnsoundState rule))
    (cond (any group_lock (model_of state).active) (Err update.FunctionalGroupLocksHeld)
    (cond (any ecu_lock (model_of state).active) (Err update.EcuLocksHeld)
    (Ok (raised generation))))

-- a refusal keeps the generation
unfoldable pub update_paper : Result ℕ UpdateRefusal → Paper
update_paper (Err (update.UnsoundState n)) = paper 12 (n ∷ [])
update_paper (Err update.FunctionalGroupLocksHeld) = paper 25 []
update_paper (Err update.EcuLocksHeld) = paper 24 []
update_paper (Ok g) = paper 0 (g ∷ [])

-- what is told, and the state that is left
abbrev pub Dropped : Type 0
Dropped = Left (Result Bool DroppingRefusal)

-- ---- delete_defunct: "absent or another scope gives false; then 26; then as acknowledgement"
abbrev pub dropped : Result Bool DroppingRefusal → LockState → Dropped
dropped answer state = record { told = answer; state = state }

abbrev pub as_dropping : Result Bool StateRefusal → Result Bool DroppingRefusal
as_dropping (Ok gone) = Ok gone
as_dropping (Err state_refusal.RevisionOverflow) = Err dropping.RevisionOverflow
as_dropping (Err (state_refusal.UnsoundState n)) = Err (dropping.UnsoundState n)

abbrev pub as_dropped : Acknowledged → Dropped
as_dropped result = dropped (as_dropping result.told) result.state

unfoldable pub drop_found_on : LockState → LockId → ScopeKey → ℕ → Option DefunctLock → Dropped
drop_found_on state id scope subject None = dropped (Ok false) state
drop_found_on state id scope subject (Some broken) =
    cond (same_scope broken.lock.scope scope)
    (cond (eqb broken.lock.subject subject) (as_dropped (acknowledge_on state id)) (dropped (Err dropping.Forbidden) state))
    (dropped (Ok false) state)

unfoldable pub delete_defunct_on : LockState → LockId → ScopeKey → ℕ → Dropped
delete_defunct_on state id scope subject =
    on_sound state (λ rule. dropped (Err (dropping.UnsoundState rule)) state)
    (drop_found_on state id scope subject (find (has_id_d id) (model_of state).defunct))

-- true and false are no refusals: number 0 and a value, 1 or 0
unfoldable pub dropping_paper : Result Bool DroppingRefusal → Paper
dropping_paper (Ok true) = paper 0 (1 ∷ [])
dropping_paper (Ok false) = paper 0 (0 ∷ [])
dropping_paper (Err dropping.RevisionOverflow) = paper 8 []
dropping_paper (Err (dropping.UnsoundState n)) = paper 12 (n ∷ [])
dropping_paper (Err dropping.Forbidden) = paper 26 []
