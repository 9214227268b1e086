-- The eight operations as steps from state to state, over any limits k: the next state where the operation goes through,
-- the same where it is refused. Document 01, "Order of checks" and, for the last revision, the table's note to 8: after an
-- acknowledgement or an expiry of defunct entries "entries are gone all the same, revision unchanged".
use Rattle.std.specs.Prelude.{Bool, true, false, cond, List, [], ◌∷◌, ℕ, ltb}
use Rattle.std.specs.Prelude.{Option, None, Some}
use Rattle.lists.specs.Lists.{any, find}
use Rattle.ids.specs.declared.LockId.{LockId}
use Rattle.state.specs.declared.ActiveLock.{ActiveLock}
use Rattle.state.specs.declared.LockState.{LockState}
use Rattle.state.specs.Locks.{has_id, has_id_d, normal}
use Rattle.state.specs.Model.{Model, Limits}
use Rattle.std.specs.Prelude.{Result, Ok, Err, ⊤}
use Rattle.operations.specs.declared.answers.Refusal.{Refusal}
use Rattle.operations.specs.declared.answers.RenewalRefusal.{RenewalRefusal}
use Rattle.operations.specs.Answers.{is_done}
use Rattle.operations.specs.Defuncts.{remove_d, remove_all}
use Rattle.operations.specs.Checks.{at_last_lem}
use Rattle.operations.specs.Insert.{inserted_in, judge_insert, insert_active_on}
use Rattle.operations.specs.Vehicle.{vehicle_in, judge_vehicle, insert_vehicle_on}
use Rattle.operations.specs.Renew.{renewed_in, judge_renew, renew_on}
use Rattle.operations.specs.Delete.{without_tree, delete_on, begin_expiration_on}
use Rattle.operations.specs.Replace.{replaced_in, judge_replace, commit_replacement_on}
use Rattle.operations.specs.Acknowledge.{shed_in, lapsed, lapsed_of, acknowledge_on, expire_defunct_on}

-- an operation with its arguments, in the order of the code's functions
pub data Op : Type 0 where
  insert_active : ActiveLock → Op
  insert_vehicle : ActiveLock → List ℕ → Op
  renew : LockId → ℕ → ℕ → Bool → ℕ → Op
  delete : LockId → Op
  begin_expiration : LockId → ℕ → Op
  commit_replacement : List ℕ → ActiveLock → ℕ → ℕ → Op
  acknowledge : LockId → Op
  expire_defunct : ℕ → Op

-- 02, C-21: "renewal, deletion, acknowledgement and both expiries" end without a check of the whole state
unfoldable pub shortened : Op → Bool
shortened (insert_active y) = false
shortened (insert_vehicle y ws) = false
shortened (renew i e now has d) = true
shortened (delete i) = true
shortened (begin_expiration i now) = true
shortened (commit_replacement ws y by at) = false
shortened (acknowledge i) = true
shortened (expire_defunct now) = true

-- ---- on the lists, over any limits
abbrev pub after : Result ⊤ Refusal → Model → Model → Model
after a old new = cond (is_done a) new old

abbrev pub after_renewal : Result ⊤ RenewalRefusal → Model → Model → Model
after_renewal (Ok done) old new = new
after_renewal (Err why) old new = old

abbrev pub after_delete : Model → Option ActiveLock → Model
after_delete m None = m
after_delete m (Some r) = cond (at_last_lem m.revision) m (without_tree m r)

abbrev pub after_expiration : ℕ → Model → Option ActiveLock → Model
after_expiration now m None = m
after_expiration now m (Some r) = cond (ltb now r.expires) m (cond (at_last_lem m.revision) m (without_tree m r))

unfoldable pub step : Limits → Model → Op → Model
step k m (insert_active y) = after (judge_insert k m (normal y)) m (inserted_in m (normal y))
step k m (insert_vehicle y ws) = after (judge_vehicle k m (normal y) ws) m (vehicle_in m (normal y) ws)
step k m (renew i e now has d) = after_renewal (judge_renew m i e now) m (renewed_in m i e has d)
step k m (delete i) = after_delete m (find (has_id i) m.active)
step k m (begin_expiration i now) = after_expiration now m (find (has_id i) m.active)
step k m (commit_replacement ws y by at) = after (judge_replace k m ws (normal y) by at) m (replaced_in m ws (normal y) by at)
step k m (acknowledge i) = cond (any (has_id_d i) m.defunct) (shed_in m (remove_d i m.defunct)) m
step k m (expire_defunct now) = cond (any (lapsed now) m.defunct) (shed_in m (remove_all (lapsed_of now m) m.defunct)) m

-- every state met, the first and the last included
abbrev pub runs : Limits → Model → List Op → List Model
runs k m [] = m ∷ []
runs k m (o ∷ os) = m ∷ runs k (step k m o) os

-- ---- on the state, as the code's functions leave it (their contracts say result ≡ insert_active_on s x, and so on)
unfoldable pub step_on : LockState → Op → LockState
step_on s (insert_active y) = (insert_active_on s y).state
step_on s (insert_vehicle y ws) = (insert_vehicle_on s y ws).state
step_on s (renew i e now has d) = (renew_on s i e now has d).state
step_on s (delete i) = (delete_on s i).state
step_on s (begin_expiration i now) = (begin_expiration_on s i now).state
step_on s (commit_replacement ws y by at) = (commit_replacement_on s ws y by at).state
step_on s (acknowledge i) = (acknowledge_on s i).state
step_on s (expire_defunct now) = (expire_defunct_on s now).state

abbrev pub runs_on : LockState → List Op → List LockState
runs_on s [] = s ∷ []
runs_on s (o ∷ os) = s ∷ runs_on (step_on s o) os
