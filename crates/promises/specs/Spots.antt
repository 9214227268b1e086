-- 02, C-13: "CoverageConflict carries it beside the id". What 7 tells, as the theorems on it say it (proofs/Spots.antt).
-- Assumes nothing.
use Rattle.std.specs.Prelude.{◌≡◌, List, [], ℕ, take}
use Rattle.std.specs.Prelude.{Option, None, Some}
use Rattle.lists.specs.Lists.{find, Mem}
use Rattle.lists.specs.Papers.{Paper, paper}
use Rattle.std.specs.Prelude.{Result, ⊤}
use Rattle.coverage.specs.Coverage.{shared}
use Rattle.state.specs.declared.ActiveLock.{ActiveLock}
use Rattle.state.specs.declared.LockState.{LockState}
use Rattle.state.specs.Locks.{normal}
use Rattle.state.specs.Model.{Model, model_of}
use Rattle.lookups.specs.Papers.{id_values}
use Rattle.ids.specs.Words.{ascending_ids}
use Rattle.operations.specs.declared.answers.Refusal.{Refusal}
use Rattle.operations.specs.declared.answers.Refusal.TheVariants.{CoverageConflict}
use Rattle.operations.specs.Answers.{spot_values, and_then, first_refusal}
use Rattle.operations.specs.Checks.{check_list, check_id, check_scope, check_parent_active, check_parent_vehicle, check_parent_owner, check_parent_cover, conflicts, check_active, check_holder}
use Rattle.operations.specs.Replace.{cut_of}
use Rattle.records.specs.declared.requests.Request.{Request}
use Rattle.records.specs.declared.requests.Request.TheVariants.{Insert, Replace}
use Rattle.records.specs.declared.requests.ReplaceRequest.{ReplaceRequest}

-- "Which calls are refused doesn't change": what the check told before, of the first lock that conflicts if there is one, and
-- an answer without what C-13 put beside the id
abbrev pub told_before : Option ActiveLock → Paper
told_before None = paper 0 []
told_before (Some lock) = paper 7 (id_values lock.lock.id [])

abbrev pub without_spot : Paper → Paper
without_spot p = paper p.number (take 2 p.values)

-- the checks before 7 (01, "Order of checks"): 2, 4, 5, 11.3 and 11.4 among the locks l; of an insertion 1 comes first, of a
-- replacement 14, 3, 1 and 6, and l are those that stay
abbrev pub placing : List ActiveLock → ActiveLock → Result ⊤ Refusal
placing l new = and_then (check_scope l new) (and_then (check_parent_active l new) (and_then (check_parent_vehicle l new) (and_then (check_parent_owner l new) (check_parent_cover l new))))

abbrev pub insert_before7 : Model → ActiveLock → Result ⊤ Refusal
insert_before7 m new = and_then (check_id m.active m.defunct new) (placing m.active new)

abbrev pub replace_before7 : Model → List ℕ → ActiveLock → Result ⊤ Refusal
replace_before7 m ids new =
    and_then (check_list ids) (and_then (first_refusal (check_active m.active) (ascending_ids ids)) (and_then (check_id m.active m.defunct new) (and_then (check_holder m.active ids new) (placing (cut_of m ids).kept new))))

-- p is 7 of the first lock in l that conflicts with the new one, and of where the two meet
pub record Conflict (l : List ActiveLock) (new : ActiveLock) (p : Paper) : Type 0 where
  pub lock : ActiveLock
  pub spot : Option ℕ
  pub found : find (conflicts new) l ≡ Some lock
  pub meeting : shared lock.lock.coverage new.lock.coverage ≡ Some spot
  pub told : p ≡ paper 7 (id_values lock.lock.id (spot_values spot))

-- the request is an insertion or a replacement, which has these ids, and p is 7 of a lock that the state had: of a
-- replacement one that it leaves
pub data InConflict (s : LockState) : Request → List ℕ → Paper → Type 0 where
  inserting : {new : ActiveLock} {ws : List ℕ} {p : Paper} → Conflict (model_of s).active (normal new) p → InConflict s (Insert new) ws p
  replacing : {r : ReplaceRequest} {ws : List ℕ} {p : Paper} (c : Conflict (cut_of (model_of s) ws).kept (normal r.lock) p) → Mem c.lock (model_of s).active → InConflict s (Replace r) ws p
