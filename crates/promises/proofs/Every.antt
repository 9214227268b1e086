-- Demand 3 over the definitions: whatever operations are done, refused ones included, every state met is sound, from the
-- empty state and from any sound one, over any limits. Assumes nothing.
use mathlib.Core.Path.{◌≡◌, refl}
use mathlib.Core.Bool.{Bool, true, false, cond}
use mathlib.Core.List.{List, [], ◌∷◌}
use Rattle.std.specs.Prelude.{Option, None, Some}
use Prim.Native.Nat.{ℕ, zero-le}
use lib.Dec.{ltb}
use borrow.Author.Tests.{le-leb}
use Rattle.lists.specs.Tests.{◌and◌, ◌or◌, ◌imp◌, Yes}
use Rattle.lists.specs.Lists.{all, any, find}
use Rattle.lists.proofs.Tests.{and_i, cond_both}
use Rattle.coverage.specs.declared.LockCoverage.{LockCoverage}
use Rattle.coverage.specs.Coverage.{whole_vehicle}
use Rattle.ids.specs.Order.{no_id}
use Rattle.state.specs.declared.ActiveLock.{ActiveLock}
use Rattle.state.specs.Locks.{has_id, has_id_d, normal_coverage, normal}
use Rattle.state.specs.Model.{Model, Limits, fits, empty_model}
use Rattle.rules.specs.Rules.{zero_id, zero_set, neat_l, neat_a, in_order, neat, rule1, rule2, rule3, rule4, rule5, rule6, rule7, rule8, rule9, sound}
use Rattle.std.specs.Prelude.{Result, Ok, Err, ⊤}
use Rattle.operations.specs.declared.answers.Refusal.{Refusal}
use Rattle.operations.specs.declared.answers.RenewalRefusal.{RenewalRefusal}
use Rattle.operations.specs.Answers.{is_done}
use Rattle.operations.specs.Checks.{at_last_lem}
use Rattle.operations.specs.Renew.{judge_renew}
use Rattle.operations.specs.Delete.{without_tree}
use Rattle.operations.specs.Acknowledge.{lapsed, lapsed_of}
use Rattle.promises.specs.Steps.{Op, insert_active, insert_vehicle, renew, delete, begin_expiration, commit_replacement, acknowledge, expire_defunct, after, after_renewal, after_delete, after_expiration, step, runs}
use Rattle.promises.proofs.Passed.{is_done_lem}
use Rattle.promises.proofs.Keeps.{insert_keeps, vehicle_keeps, renew_keeps, delete_keeps, replace_keeps, acknowledge_keeps, expire_keeps}

-- ---- a lock in normal form has its parts that don't apply zero
normal_cover : (c : LockCoverage) → Yes ((normal_coverage c).whole imp zero_set (normal_coverage c))
unfolding zero_set ◌imp◌ ◌and◌
normal_cover c = go c.whole refl
  where
    go : (w : Bool) → c.whole ≡ w → Yes ((cond w whole_vehicle c).whole imp zero_set (cond w whole_vehicle c))
    go true e = refl
    go false e = rw e

pub normal_neat : (y : ActiveLock) → Yes (neat_a (normal y))
unfolding normal neat_a neat_l zero_id ◌or◌ ◌and◌
normal_neat y = and_i _ _ (normal_cover y.lock.coverage) (go y.child)
  where
    go : (c : Bool) → Yes (c or zero_id (cond c y.parent no_id))
    go true = refl
    go false = refl

-- ---- one step
module _ (k : Limits) (m : Model) (s : Yes (sound k m)) where
  after_keeps : (a : Result ⊤ Refusal) (new : Model) → (a ≡ Ok tt → Yes (sound k new)) → Yes (sound k (after a m new))
  after_keeps a new f = cond_both (λ (x : Model). Yes (sound k x)) new m (is_done a) (λ t. f (is_done_lem a t)) (λ t. s)

  renewal_keeps : (a : Result ⊤ RenewalRefusal) (new : Model) → Yes (sound k new) → Yes (sound k (after_renewal a m new))
  renewal_keeps (Ok done) new f = f
  renewal_keeps (Err why) new f = s

  last_keeps : (r : ActiveLock) → Yes (sound k (cond (at_last_lem m.revision) m (without_tree m r)))
  last_keeps r = cond_both (λ (x : Model). Yes (sound k x)) m (without_tree m r) (at_last_lem m.revision) (λ t. s) (λ t. delete_keeps k m r s)

  deletion_keeps : (o : Option ActiveLock) → Yes (sound k (after_delete m o))
  deletion_keeps None = s
  deletion_keeps (Some r) = last_keeps r

  expiration_keeps : (now : ℕ) (o : Option ActiveLock) → Yes (sound k (after_expiration now m o))
  expiration_keeps now None = s
  expiration_keeps now (Some r) = cond_both (λ (x : Model). Yes (sound k x)) m _ (ltb now r.expires) (λ t. s) (λ t. last_keeps r)

  pub step_keeps : (o : Op) → Yes (sound k (step k m o))
  unfolding step
  step_keeps (insert_active y) = after_keeps _ _ (insert_keeps k m (normal y) (normal_neat y) s)
  step_keeps (insert_vehicle y ws) = after_keeps _ _ (vehicle_keeps k m (normal y) ws (normal_neat y) s)
  step_keeps (renew i e now has d) = renewal_keeps (judge_renew m i e now) _ (renew_keeps m i e has d k s)
  step_keeps (delete i) = deletion_keeps (find (has_id i) m.active)
  step_keeps (begin_expiration i now) = expiration_keeps now (find (has_id i) m.active)
  step_keeps (commit_replacement ws y by at) = after_keeps _ _ (replace_keeps k m ws (normal y) by at (normal_neat y) s)
  step_keeps (acknowledge i) = cond_both (λ (x : Model). Yes (sound k x)) _ m (any (has_id_d i) m.defunct) (λ t. acknowledge_keeps k m i s) (λ t. s)
  step_keeps (expire_defunct now) = cond_both (λ (x : Model). Yes (sound k x)) _ m (any (lapsed now) m.defunct) (λ t. expire_keeps k m (lapsed_of now m) s) (λ t. s)

-- ---- any number of steps: every state met
pub every_state : (k : Limits) (m : Model) → Yes (sound k m) → (os : List Op) → Yes (all (sound k) (runs k m os))
every_state k m s [] = and_i _ _ s refl
every_state k m s (o ∷ os) = and_i _ _ s (every_state k (step k m o) (step_keeps k m s o) os)

pub empty_sound : (k : Limits) → Yes (sound k empty_model)
unfolding sound in_order neat rule1 rule2 rule3 rule4 rule5 rule6 rule7 rule8 rule9 fits ◌and◌
empty_sound k = rw (le-leb 0 k.active zero-le, le-leb 0 k.defunct zero-le)

pub every_state_from_empty : (k : Limits) (os : List Op) → Yes (all (sound k) (runs k empty_model os))
every_state_from_empty k os = every_state k empty_model (empty_sound k) os
