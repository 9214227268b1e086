-- The checks of insertions and replacement, each a definition with the number that it refuses by; the order in which they
-- are made stands in Insert.antt, Vehicle.antt and Replace.antt. Document 01, "Order of checks".
--     active, defunct   the active locks and the defunct entries
--     new               the lock that is put in
--     ids               an id list's words
use Rattle.std.specs.Prelude.{Bool, true, false, List, ℕ, eqb}
use Rattle.std.specs.Prelude.{Option, None, Some}
use Rattle.lists.specs.Tests.{◌and◌, ◌or◌, non}
use Rattle.lists.specs.Lists.{any, find}
use Rattle.ids.specs.declared.LockId.{LockId}
use Rattle.ids.specs.Words.{odd_words}
use Rattle.coverage.specs.Coverage.{overlap, spot_of, within}
use Rattle.state.specs.declared.ActiveLock.{ActiveLock}
use Rattle.state.specs.declared.DefunctLock.{DefunctLock}
use Rattle.state.specs.Locks.{is_vehicle, has_id, has_id_d}
use Rattle.state.specs.Model.{Model, Limits, fits}
use Rattle.lookups.specs.Reads.{on_scope}
use Rattle.std.specs.Prelude.{Result, Ok, Err, ⊤}
use Rattle.operations.specs.declared.answers.Refusal.{Refusal}
use Rattle.operations.specs.declared.answers.Refusal.TheVariants.{DuplicateId, DuplicateScope, ActiveLockNotFound, ParentNotFound, ParentNotVehicle, ReplacementScopeConflict, CoverageConflict, RevisionOverflow, NotRootVehicle, BadChild, OtherOwner, NotCovered, NoRoom, BadList}
use Rattle.operations.specs.Answers.{refuse_if, and_then}
use Rattle.operations.specs.Trees.{in_trees}

-- ---- 14: "an id list with an odd number of 64-bit words"
unfoldable pub check_list : List ℕ → Result ⊤ Refusal
check_list ids = refuse_if (odd_words ids) (Err BadList) (Ok tt)

-- ---- 1
unfoldable pub check_id : List ActiveLock → List DefunctLock → ActiveLock → Result ⊤ Refusal
check_id active defunct new = refuse_if (any (has_id new.lock.id) active or any (has_id_d new.lock.id) defunct) (Err (DuplicateId new.lock.id)) (Ok tt)

-- ---- 2
unfoldable pub check_scope : List ActiveLock → ActiveLock → Result ⊤ Refusal
check_scope active new = refuse_if (any (on_scope new.lock.scope) active) (Err DuplicateScope) (Ok tt)

-- ---- 4, 5, 11.3, 11.4 of a lock that has a parent, "child's and parent's id"
abbrev pub parent_of : List ActiveLock → ActiveLock → Option ActiveLock
parent_of active new = find (has_id new.parent) active

abbrev pub absent : Option ActiveLock → Bool
absent None = true
absent (Some parent) = false

abbrev pub present : (ActiveLock → Bool) → Option ActiveLock → Bool
present test None = false
present test (Some parent) = test parent

-- 4
unfoldable pub check_parent_active : List ActiveLock → ActiveLock → Result ⊤ Refusal
check_parent_active active new = refuse_if (new.child and absent (parent_of active new)) (Err (ParentNotFound new.parent)) (Ok tt)

-- 5
unfoldable pub check_parent_vehicle : List ActiveLock → ActiveLock → Result ⊤ Refusal
check_parent_vehicle active new = refuse_if (new.child and present (λ parent. non (is_vehicle parent.lock.scope)) (parent_of active new)) (Err (ParentNotVehicle new.parent)) (Ok tt)

-- 11.3
unfoldable pub check_parent_owner : List ActiveLock → ActiveLock → Result ⊤ Refusal
check_parent_owner active new =
    refuse_if (new.child and present (λ parent. non (eqb parent.lock.subject new.lock.subject)) (parent_of active new)) (Err (OtherOwner new.lock.id new.parent)) (Ok tt)

-- 11.4
unfoldable pub check_parent_cover : List ActiveLock → ActiveLock → Result ⊤ Refusal
check_parent_cover active new =
    refuse_if (new.child and present (λ parent. non (within new.lock.coverage parent.lock.coverage)) (parent_of active new)) (Err (NotCovered new.lock.id new.parent)) (Ok tt)

-- ---- 7: "Conflict: another subject, overlapping coverage, the new lock not a vehicle lock; lowest such id."
unfoldable pub conflicts : ActiveLock → ActiveLock → Bool
conflicts new lock = overlap lock.lock.coverage new.lock.coverage and non (eqb lock.lock.subject new.lock.subject) and non (is_vehicle new.lock.scope)

-- 02, C-13: "CoverageConflict carries it beside the id"
abbrev pub conflict_with : ActiveLock → ActiveLock → Result ⊤ Refusal
conflict_with new lock = Err (CoverageConflict lock.lock.id (spot_of lock.lock.coverage new.lock.coverage))

abbrev pub check_conflict : ActiveLock → Option ActiveLock → Result ⊤ Refusal
check_conflict new None = Ok tt
check_conflict new (Some lock) = conflict_with new lock

unfoldable pub check_clear : List ActiveLock → ActiveLock → Result ⊤ Refusal
check_clear active new = check_conflict new (find (conflicts new) active)

-- ---- 8: the revision can't rise
abbrev pub last_revision : ℕ
last_revision = 18446744073709551615

unfoldable pub at_last_lem : ℕ → Bool
at_last_lem revision = eqb revision last_revision

unfoldable pub check_revision : ℕ → Result ⊤ Refusal
check_revision revision = refuse_if (at_last_lem revision) (Err RevisionOverflow) (Ok tt)

-- ---- 13: "13 looks only at the final state."
unfoldable pub check_room : Limits → Model → Result ⊤ Refusal
check_room limits next = refuse_if (non (fits limits next)) (Err NoRoom) (Ok tt)

-- ---- 11.1, of insert_vehicle's lock
unfoldable pub check_root : ActiveLock → Result ⊤ Refusal
check_root new = refuse_if (non (is_vehicle new.lock.scope) or new.child) (Err NotRootVehicle) (Ok tt)

-- ---- one id of a list: "missing (3) or is a vehicle lock or has a parent (11.2)"
-- 3
unfoldable pub missing : List ActiveLock → LockId → Bool
missing active id = non (any (has_id id) active)

unfoldable pub check_active : List ActiveLock → LockId → Result ⊤ Refusal
check_active active id = refuse_if (missing active id) (Err (ActiveLockNotFound id)) (Ok tt)

-- 11.2
unfoldable pub settled_lock : ActiveLock → Bool
settled_lock lock = is_vehicle lock.lock.scope or lock.child

unfoldable pub check_free : List ActiveLock → LockId → Result ⊤ Refusal
check_free active id = refuse_if (any (λ lock. has_id id lock and settled_lock lock) active) (Err (BadChild id)) (Ok tt)

unfoldable pub check_listed : List ActiveLock → LockId → Result ⊤ Refusal
check_listed active id = and_then (check_active active id) (check_free active id)

-- ---- one lock that the new vehicle lock takes in: "child's and parent's id", "11.3 before 11.4"
-- 11.3
unfoldable pub check_owner : ActiveLock → ActiveLock → Result ⊤ Refusal
check_owner new child = refuse_if (non (eqb new.lock.subject child.lock.subject)) (Err (OtherOwner child.lock.id new.lock.id)) (Ok tt)

-- 11.4
unfoldable pub check_cover : ActiveLock → ActiveLock → Result ⊤ Refusal
check_cover new child = refuse_if (non (within child.lock.coverage new.lock.coverage)) (Err (NotCovered child.lock.id new.lock.id)) (Ok tt)

unfoldable pub check_child : ActiveLock → ActiveLock → Result ⊤ Refusal
check_child new child = and_then (check_owner new child) (check_cover new child)

-- ---- 6: "when the scope's holder is outside the expanded trees"
abbrev pub outside : List ℕ → List ActiveLock → ActiveLock → ActiveLock → Bool
outside ids active new lock = on_scope new.lock.scope lock and non (in_trees ids active lock)

unfoldable pub check_holder : List ActiveLock → List ℕ → ActiveLock → Result ⊤ Refusal
check_holder active ids new = refuse_if (any (outside ids active new) active) (Err ReplacementScopeConflict) (Ok tt)
