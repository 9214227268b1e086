-- Demand 2: "On every sound state each operation gives the Rust's next state, removed locks and error." What the one call
-- (crates/calls, perform_on) gives on a sound state, all eight in one form: the answer, the locks removed (and the ids of the
-- entries that lapsed), the next state. They are judged and changed on the lists, over any limits k, with no test before and
-- no check after; the next state is `step` of Steps.antt.
use Rattle.std.specs.Prelude.{cond, List, [], ℕ, ltb, length}
use Rattle.std.specs.Prelude.{Option, None, Some}
use Rattle.lists.specs.Tests.{◌and◌}
use Rattle.lists.specs.Lists.{any, find}
use Rattle.lists.specs.Places.{in_places}
use Rattle.ids.specs.declared.LockId.{LockId}
use Rattle.ids.specs.Order.{no_id}
use Rattle.state.specs.declared.ActiveLock.{ActiveLock}
use Rattle.state.specs.declared.LockState.{LockState}
use Rattle.state.specs.Locks.{has_id, has_id_d, blank_active, normal}
use Rattle.state.specs.Model.{Model, Limits}
use Rattle.std.specs.Prelude.{Result, Ok, Err, ⊤, Bool, true, false}
use Rattle.operations.specs.declared.answers.DeletionRefusal.{DeletionRefusal}
use Rattle.operations.specs.declared.answers.DeletionRefusal.TheVariants.{ActiveLockNotFound, RevisionOverflow}
use Rattle.operations.specs.declared.answers.StateRefusal.{StateRefusal}
use Rattle.operations.specs.declared.answers.StateRefusal.TheVariants as state_refusal
use Rattle.operations.specs.declared.answers.Expiration.{Expiration}
use Rattle.operations.specs.declared.answers.Expiration.TheVariants.{Stale, NotDue}
use Rattle.operations.specs.Answers.{is_done}
use Rattle.operations.specs.Checks.{at_last_lem}
use Rattle.operations.specs.Insert.{judge_insert}
use Rattle.operations.specs.Vehicle.{judge_vehicle}
use Rattle.operations.specs.Renew.{judge_renew}
use Rattle.operations.specs.Delete.{tree_out, as_expiration}
use Rattle.operations.specs.Replace.{cut_of, judge_replace}
use Rattle.operations.specs.Acknowledge.{lapsed, lapsed_of, ids_of_entries}
use Rattle.records.specs.declared.requests.Request.{Request}
use Rattle.records.specs.declared.requests.Request.TheVariants.{Insert, InsertVehicle, Renew, Delete, BeginExpiration, Replace, Acknowledge, ExpireDefunct}
use Rattle.calls.specs.declared.Outcome.{Outcome}
use Rattle.calls.specs.declared.Outcome.TheVariants as O
use Rattle.calls.specs.declared.Performed.{Performed}
use Rattle.promises.specs.Steps.{Op, insert_active, insert_vehicle, renew, delete, begin_expiration, commit_replacement, acknowledge, expire_defunct}

-- a request, and the ids that go with it, as an operation with its arguments
abbrev pub op_of : Request → List ℕ → Op
op_of (Insert x) ws = insert_active x
op_of (InsertVehicle x) ws = insert_vehicle x ws
op_of (Renew r) ws = renew r.id r.expires r.now r.given r.metadata
op_of (Delete i) ws = delete i
op_of (BeginExpiration e) ws = begin_expiration e.id e.now
op_of (Replace r) ws = commit_replacement ws r.lock r.breaker r.broken
op_of (Acknowledge i) ws = acknowledge i
op_of (ExpireDefunct now) ws = expire_defunct now

-- the one form: each list in its places, with its count
abbrev pub performed : Outcome → List ActiveLock → List LockId → LockState → Performed
performed outcome out ids state =
    record { outcome = outcome; gone = length out; removed = in_places 64 blank_active out; lapsed = length ids; ids = in_places 128 no_id ids; state = state }

-- ---- the answer
-- 3 where there is no such lock; 8 at the last revision
abbrev pub judge_delete : Model → LockId → Option ActiveLock → Result ⊤ DeletionRefusal
judge_delete m i None = Err (ActiveLockNotFound i)
judge_delete m i (Some r) = cond (at_last_lem m.revision) (Err RevisionOverflow) (Ok tt)

-- Stale, NotDue with the time, "else as delete"
abbrev pub judge_expiration : Model → LockId → ℕ → Option ActiveLock → Result Expiration StateRefusal
judge_expiration m i now None = Ok Stale
judge_expiration m i now (Some r) = cond (ltb now r.expires) (Ok (NotDue r.expires)) (as_expiration (judge_delete m i (Some r)))

-- 8 where something goes at the last revision
abbrev pub judge_acknowledge : Model → LockId → Result Bool StateRefusal
judge_acknowledge m i = cond (any (has_id_d i) m.defunct) (cond (at_last_lem m.revision) (Err state_refusal.RevisionOverflow) (Ok true)) (Ok false)

abbrev pub judge_expiry : Model → ℕ → Result ⊤ StateRefusal
judge_expiry m now = cond (any (lapsed now) m.defunct and at_last_lem m.revision) (Err state_refusal.RevisionOverflow) (Ok tt)

unfoldable pub outcome_in : Limits → Model → Op → Outcome
outcome_in k m (insert_active y) = O.Inserted (judge_insert k m (normal y))
outcome_in k m (insert_vehicle y ws) = O.VehicleInserted (judge_vehicle k m (normal y) ws)
outcome_in k m (renew i e now has d) = O.Renewed (judge_renew m i e now)
outcome_in k m (delete i) = O.Deleted (judge_delete m i (find (has_id i) m.active))
outcome_in k m (begin_expiration i now) = O.ExpirationBegun (judge_expiration m i now (find (has_id i) m.active))
outcome_in k m (commit_replacement ws y by at) = O.Replaced (judge_replace k m ws (normal y) by at)
outcome_in k m (acknowledge i) = O.Acknowledged (judge_acknowledge m i)
outcome_in k m (expire_defunct now) = O.DefunctsExpired (judge_expiry m now)

-- ---- the locks removed: a tree that went, or the trees replaced
abbrev pub out_of : Model → Option ActiveLock → List ActiveLock
out_of m None = []
out_of m (Some r) = cond (at_last_lem m.revision) [] (tree_out m r).gone

abbrev pub due_out_of : ℕ → Model → Option ActiveLock → List ActiveLock
due_out_of now m None = []
due_out_of now m (Some r) = cond (ltb now r.expires) [] (out_of m (Some r))

unfoldable pub removed_in : Limits → Model → Op → List ActiveLock
removed_in k m (insert_active y) = []
removed_in k m (insert_vehicle y ws) = []
removed_in k m (renew i e now has d) = []
removed_in k m (delete i) = out_of m (find (has_id i) m.active)
removed_in k m (begin_expiration i now) = due_out_of now m (find (has_id i) m.active)
removed_in k m (commit_replacement ws y by at) = cond (is_done (judge_replace k m ws (normal y) by at)) (cut_of m ws).gone []
removed_in k m (acknowledge i) = []
removed_in k m (expire_defunct now) = []

-- ---- the ids of the entries that lapsed; 8 tells none
unfoldable pub lapsed_in : Model → Op → List LockId
lapsed_in m (insert_active y) = []
lapsed_in m (insert_vehicle y ws) = []
lapsed_in m (renew i e now has d) = []
lapsed_in m (delete i) = []
lapsed_in m (begin_expiration i now) = []
lapsed_in m (commit_replacement ws y by at) = []
lapsed_in m (acknowledge i) = []
lapsed_in m (expire_defunct now) = cond (at_last_lem m.revision) [] (ids_of_entries (lapsed_of now m))
