-- insert_vehicle: "14, 11.1; then listed children, repeats dropped, ascending: the first that is missing (3) or is a vehicle
-- lock or has a parent (11.2); then 1, 2, 8, then the lowest child with 11.3 before 11.4, then 13."
use Rattle.std.specs.Prelude.{Bool, true, cond, List, map, ℕ}
use Rattle.lists.specs.Lists.{filter}
use Rattle.ids.specs.Words.{ascending_ids}
use Rattle.state.specs.declared.ActiveLock.{ActiveLock}
use Rattle.state.specs.declared.LockState.{LockState}
use Rattle.state.specs.Locks.{normal}
use Rattle.state.specs.Model.{Model, model_of, Limits, full}
use Rattle.lookups.specs.Reads.{on_sound}
use Rattle.std.specs.Prelude.{Result, Err, ⊤}
use Rattle.operations.specs.declared.answers.Refusal.{Refusal}
use Rattle.operations.specs.declared.answers.Refusal.TheVariants.{UnsoundState}
use Rattle.operations.specs.Answers.{Inserted}
use Rattle.operations.specs.Answers.{and_then, first_refusal}
use Rattle.operations.specs.Trees.{is_listed}
use Rattle.operations.specs.Checks.{check_list, check_root, check_listed, check_id, check_scope, check_revision, check_child, check_room}
use Rattle.operations.specs.Insert.{inserted_in, inserted, settled_insert}

-- a lock becomes a child of the new vehicle lock
unfoldable pub nest : ActiveLock → ActiveLock → ActiveLock
nest new lock = record { lock = lock.lock; parent = new.lock.id; expires = lock.expires; child = true }

-- the locks that the test picks become its children
unfoldable pub adopt : (ActiveLock → Bool) → ActiveLock → ActiveLock → ActiveLock
adopt picks new lock = cond (picks lock) (nest new lock) lock

abbrev pub adopting : (ActiveLock → Bool) → ActiveLock → Model → Model
adopting picks new m = record { revision = m.revision; active = map (adopt picks new) m.active; defunct = m.defunct }

-- The children are adopted before the lock is put in, which is not one of them: where its own id is listed, 3 refuses an id
-- that isn't active, and 11.2 or 1 one that is.
unfoldable pub vehicle_in : Model → ActiveLock → List ℕ → Model
vehicle_in m new ids = inserted_in (adopting (is_listed ids) new m) new

unfoldable pub judge_vehicle : Limits → Model → ActiveLock → List ℕ → Result ⊤ Refusal
judge_vehicle limits m new ids =
    -- 14
    and_then (check_list ids)
    -- 11.1
    (and_then (check_root new)
    -- 3, 11.2
    (and_then (first_refusal (check_listed m.active) (ascending_ids ids))
    -- 1
    (and_then (check_id m.active m.defunct new)
    -- 2
    (and_then (check_scope m.active new)
    -- 8
    (and_then (check_revision m.revision)
    -- 11.3, 11.4
    (and_then (first_refusal (check_child new) (filter (is_listed ids) m.active))
    -- 13
    (check_room limits (vehicle_in m new ids))))))))

unfoldable pub insert_vehicle_with : Limits → LockState → ActiveLock → List ℕ → Inserted
insert_vehicle_with limits state lock ids =
    on_sound state (λ rule. inserted (Err (UnsoundState rule)) state)
    (settled_insert limits (judge_vehicle limits (model_of state) (normal lock) ids) state (vehicle_in (model_of state) (normal lock) ids))

unfoldable pub insert_vehicle_on : LockState → ActiveLock → List ℕ → Inserted
insert_vehicle_on state lock ids = insert_vehicle_with full state lock ids
