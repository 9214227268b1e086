-- insert_active: "1, 2, 4, 5, 11.3, 11.4, 7, 8, 13."
use Rattle.std.specs.Prelude.{cond, ◌+◌}
use Rattle.lists.specs.Lists.{insert_by}
use Rattle.state.specs.declared.ActiveLock.{ActiveLock}
use Rattle.state.specs.declared.LockState.{LockState}
use Rattle.state.specs.Locks.{akey, normal}
use Rattle.state.specs.Model.{Model, model_of, state_of, Limits, full}
use Rattle.rules.specs.Rules.{sound}
use Rattle.lookups.specs.Reads.{on_sound}
use Rattle.std.specs.Prelude.{Result, Ok, Err, ⊤}
use Rattle.operations.specs.declared.answers.Refusal.{Refusal}
use Rattle.operations.specs.declared.answers.Refusal.TheVariants.{Invariant, UnsoundState}
use Rattle.operations.specs.Answers.{Inserted}
use Rattle.operations.specs.Answers.{is_done, and_then}
use Rattle.operations.specs.Defuncts.{supersede}
use Rattle.operations.specs.Checks.{check_id, check_scope, check_parent_active, check_parent_vehicle, check_parent_owner, check_parent_cover, check_clear, check_revision, check_room}

-- "a change that goes through adds 1 to the revision"
unfoldable pub inserted_in : Model → ActiveLock → Model
inserted_in m new = record { revision = m.revision + 1; active = insert_by akey new m.active; defunct = supersede new m.defunct }

unfoldable pub judge_insert : Limits → Model → ActiveLock → Result ⊤ Refusal
judge_insert limits m new =
    -- 1
    and_then (check_id m.active m.defunct new)
    -- 2
    (and_then (check_scope m.active new)
    -- 4
    (and_then (check_parent_active m.active new)
    -- 5
    (and_then (check_parent_vehicle m.active new)
    -- 11.3
    (and_then (check_parent_owner m.active new)
    -- 11.4
    (and_then (check_parent_cover m.active new)
    -- 7
    (and_then (check_clear m.active new)
    -- 8
    (and_then (check_revision m.revision)
    -- 13
    (check_room limits (inserted_in m new)))))))))

-- ---- what is left: a refusal keeps the state; the closing check, as the original's validate_invariants, of the next lists
abbrev pub inserted : Result ⊤ Refusal → LockState → Inserted
inserted answer state = record { told = answer; state = state }

unfoldable pub closed_insert : Limits → LockState → Model → Inserted
closed_insert limits state next = cond (sound limits next) (inserted (Ok tt) (state_of next)) (inserted (Err Invariant) state)

unfoldable pub settled_insert : Limits → Result ⊤ Refusal → LockState → Model → Inserted
settled_insert limits answer state next = cond (is_done answer) (closed_insert limits state next) (inserted answer state)

-- over any limits, so that the same operation without them has a name
unfoldable pub insert_active_with : Limits → LockState → ActiveLock → Inserted
insert_active_with limits state lock =
    on_sound state (λ rule. inserted (Err (UnsoundState rule)) state)
    (settled_insert limits (judge_insert limits (model_of state) (normal lock)) state (inserted_in (model_of state) (normal lock)))

unfoldable pub insert_active_on : LockState → ActiveLock → Inserted
insert_active_on state lock = insert_active_with full state lock
