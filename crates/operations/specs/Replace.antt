-- commit_replacement: "14; lowest missing root (3); 1; 6 when the scope's holder is outside the expanded trees ..; then roots
-- ascending, each tree removed from what then remains and entered as defunct ..; then the insertion's 2, 4, 5, 11.3, 11.4,
-- 7; then, for a vehicle, every other active parentless lock of its subject becomes its child; 8; lowest child with 11.4;
-- 13. Entries erased again by the insertion are still returned as removed."
use Rattle.std.specs.Prelude.{Bool, cond, List, [], map, ℕ, ◌+◌, eqb, length}
use Rattle.lists.specs.Tests.{◌and◌, non}
use Rattle.lists.specs.Lists.{filter, insert_by}
use Rattle.lists.specs.Places.{in_places}
use Rattle.ids.specs.Words.{ascending_ids}
use Rattle.state.specs.declared.ActiveLock.{ActiveLock}
use Rattle.state.specs.declared.DefunctLock.{DefunctLock}
use Rattle.state.specs.declared.LockState.{LockState}
use Rattle.state.specs.Locks.{akey, is_vehicle, has_id, normal, blank_active}
use Rattle.state.specs.Model.{Model, model_of, state_of, Limits, full}
use Rattle.rules.specs.Rules.{sound}
use Rattle.lookups.specs.Reads.{on_sound}
use Rattle.std.specs.Prelude.{Result, Ok, Err, ⊤}
use Rattle.operations.specs.declared.answers.Refusal.{Refusal}
use Rattle.operations.specs.declared.answers.Refusal.TheVariants.{Invariant, UnsoundState}
use Rattle.operations.specs.Answers.{Replaced}
use Rattle.operations.specs.Answers.{is_done, and_then, first_refusal}
use Rattle.operations.specs.Defuncts.{to_defunct, enter_all, supersede}
use Rattle.operations.specs.Trees.{Parts, roots_parts}
use Rattle.operations.specs.Checks.{check_list, check_active, check_id, check_holder, check_scope, check_parent_active, check_parent_vehicle, check_parent_owner, check_parent_cover, check_clear, check_revision, check_cover, check_room}
use Rattle.operations.specs.Vehicle.{adopt}

-- "for a vehicle, every other active parentless lock of its subject becomes its child"
unfoldable pub orphan : ActiveLock → ActiveLock → Bool
orphan new lock = is_vehicle new.lock.scope and non (has_id new.lock.id lock) and non lock.child and eqb lock.lock.subject new.lock.subject

-- what stays and what goes
abbrev pub cut_of : Model → List ℕ → Parts
cut_of m ids = roots_parts ids m.active

-- the removed locks are entered as broken, by and at as given, and what the new lock covers goes
unfoldable pub entered_of : ActiveLock → ℕ → ℕ → List ActiveLock → List DefunctLock → List DefunctLock
entered_of new by at gone defunct = supersede new (enter_all (map (to_defunct new by at) gone) defunct)

unfoldable pub replaced_in : Model → List ℕ → ActiveLock → ℕ → ℕ → Model
replaced_in m ids new by at =
    record {
      revision = m.revision + 1;
      active = insert_by akey new (map (adopt (orphan new) new) (cut_of m ids).kept);
      defunct = entered_of new by at (cut_of m ids).gone m.defunct;
    }

unfoldable pub judge_replace : Limits → Model → List ℕ → ActiveLock → ℕ → ℕ → Result ⊤ Refusal
judge_replace limits m ids new by at =
    -- 14
    and_then (check_list ids)
    -- 3
    (and_then (first_refusal (check_active m.active) (ascending_ids ids))
    -- 1
    (and_then (check_id m.active m.defunct new)
    -- 6
    (and_then (check_holder m.active ids new)
    -- 2
    (and_then (check_scope (cut_of m ids).kept new)
    -- 4
    (and_then (check_parent_active (cut_of m ids).kept new)
    -- 5
    (and_then (check_parent_vehicle (cut_of m ids).kept new)
    -- 11.3
    (and_then (check_parent_owner (cut_of m ids).kept new)
    -- 11.4
    (and_then (check_parent_cover (cut_of m ids).kept new)
    -- 7
    (and_then (check_clear (cut_of m ids).kept new)
    -- 8
    (and_then (check_revision m.revision)
    -- 11.4
    (and_then (first_refusal (check_cover new) (filter (orphan new) (cut_of m ids).kept))
    -- 13
    (check_room limits (replaced_in m ids new by at)))))))))))))

-- ---- what is left, as for an insertion; the removed locks are listed where it went through
abbrev pub replaced : Result ⊤ Refusal → List ActiveLock → LockState → Replaced
replaced answer gone state = record { told = record { answer = answer; gone = length gone; removed = in_places 64 blank_active gone }; state = state }

unfoldable pub closed_replace : Limits → LockState → List ActiveLock → Model → Replaced
closed_replace limits state gone next = cond (sound limits next) (replaced (Ok tt) gone (state_of next)) (replaced (Err Invariant) [] state)

unfoldable pub settled_replace : Limits → Result ⊤ Refusal → LockState → List ActiveLock → Model → Replaced
settled_replace limits answer state gone next = cond (is_done answer) (closed_replace limits state gone next) (replaced answer [] state)

unfoldable pub commit_replacement_with : Limits → LockState → List ℕ → ActiveLock → ℕ → ℕ → Replaced
commit_replacement_with limits state ids lock by at =
    on_sound state (λ rule. replaced (Err (UnsoundState rule)) [] state)
    (settled_replace limits (judge_replace limits (model_of state) ids (normal lock) by at) state (cut_of (model_of state) ids).gone (replaced_in (model_of state) ids (normal lock) by at))

unfoldable pub commit_replacement_on : LockState → List ℕ → ActiveLock → ℕ → ℕ → Replaced
commit_replacement_on state ids lock by at = commit_replacement_with full state ids lock by at
