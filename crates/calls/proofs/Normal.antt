-- An operation takes parts that don't apply as zero, and looks at ids only where it has some: so what is read back of a request is
-- done as the request itself.
--     act_normal  the request with such parts zero
--     act_listed  without the words where it has no ids
-- Assumes nothing.
use mathlib.Core.Path.{◌≡◌, refl, ap}
use mathlib.Core.Bool.{Bool, true, false, cond}
use mathlib.Core.List.{List, []}
use Prim.Native.Nat.{ℕ}
use Rattle.ids.specs.declared.LockId.{LockId}
use Rattle.state.specs.declared.ActiveLock.{ActiveLock}
use Rattle.state.specs.declared.LockState.{LockState}
use Rattle.state.specs.Locks.{normal}
use Rattle.operations.specs.Insert.{insert_active_with, insert_active_on}
use Rattle.operations.specs.Vehicle.{insert_vehicle_with, insert_vehicle_on}
use Rattle.operations.specs.Renew.{extended, extend_at, renewed_in, renew_on}
use Rattle.operations.specs.Replace.{commit_replacement_with, commit_replacement_on}
use Rattle.records.specs.declared.requests.Request.{Request}
use Rattle.records.specs.declared.requests.Request.TheVariants.{Insert, InsertVehicle, Renew, Delete, BeginExpiration, Replace, Acknowledge, ExpireDefunct}
use Rattle.records.specs.Sending.{normal_request, has_list}
use Rattle.records.proofs.Normal.{normal_right, normal_kept}
use Rattle.calls.specs.Calls.{by_renew, perform_on}

-- ---- "Metadata changes only if given."
renew_normal : (s : LockState) (i : LockId) (t now : ℕ) (given : Bool) (d : ℕ) → renew_on s i t now given (cond given d 0) ≡ renew_on s i t now given d
unfolding renew_on renewed_in extend_at extended
renew_normal s i t now true d = refl
renew_normal s i t now false d = refl

-- ---- "in a lock handed to an operation directly, such parts are taken as zero"
lock_twice : (x : ActiveLock) → normal (normal x) ≡ normal x
lock_twice x = normal_kept (normal x) (normal_right x)

module _ (s : LockState) (ws : List ℕ) where
  pub act_normal : (r : Request) → perform_on s (normal_request r) ws ≡ perform_on s r ws
  unfolding perform_on insert_active_on insert_active_with insert_vehicle_on insert_vehicle_with commit_replacement_on commit_replacement_with
  act_normal (Insert x) = rw (lock_twice x) refl
  act_normal (InsertVehicle x) = rw (lock_twice x) refl
  act_normal (Renew r) = ap by_renew (renew_normal s r.id r.expires r.now r.given r.metadata)
  act_normal (Delete i) = refl
  act_normal (BeginExpiration e) = refl
  act_normal (Replace r) = rw (lock_twice r.lock) refl
  act_normal (Acknowledge i) = refl
  act_normal (ExpireDefunct now) = refl

  pub act_listed : (r : Request) → perform_on s r (cond (has_list r) ws []) ≡ perform_on s r ws
  unfolding perform_on
  act_listed (Insert x) = refl
  act_listed (InsertVehicle x) = refl
  act_listed (Renew r) = refl
  act_listed (Delete i) = refl
  act_listed (BeginExpiration e) = refl
  act_listed (Replace r) = refl
  act_listed (Acknowledge i) = refl
  act_listed (ExpireDefunct now) = refl
