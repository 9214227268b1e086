-- What a check answers, from what the functions that it calls answer; chains of checks, link by link.
-- Assumes nothing.
use mathlib.Core.Path.{◌≡◌, sym, ap, ◌∙◌}
use mathlib.Core.Bool.{Bool, true, false, not, cond, true≢false, false≢true}
use Rattle.std.specs.Prelude.{None, Some}
use Prim.Native.Nat.{ℕ}
use lib.Dec.{eqb}
use borrow.Author.Tests.{not-true, not-false, eq-eqb, ne_eqb}
use Rattle.lists.specs.Tests.{non, Yes}
use Rattle.lists.proofs.Tests.{and_l, by, cond_true, cond_false, non_t, non_f}
use Rattle.std.specs.Prelude.{Result, Option, Ok, Err, ⊤, IsErrAnd}
use Rattle.std.specs.Result.{is_ok}
use Rattle.std.proofs.lemmas.Result.{err_from_is_err_and}
use Rattle.coverage.specs.Coverage.{overlap, shared, is_met, within}
use Rattle.coverage.proofs.Shared.{shared_met, spot_shared}
use Rattle.state.specs.declared.ActiveLock.{ActiveLock}
use Rattle.state.specs.Locks.{is_vehicle}
use Rattle.operations.specs.declared.answers.Refusal.{Refusal}
use Rattle.operations.specs.declared.answers.Refusal.TheVariants.{CoverageConflict, RevisionOverflow, OtherOwner, NotCovered}
use Rattle.operations.specs.Answers.{is_done, refuse_if, and_then}
use Rattle.operations.specs.Checks.{conflicts, conflict_with, check_revision, at_last_lem, last_revision, check_owner, check_cover, check_child}
use Rattle.operations.specs.Code.{check_parent}

-- ---- the combinators
module _ {A : Type 0} (c : Bool) (a b : A) where
  pub refuse : c ≡ true → refuse_if c a b ≡ a
  unfolding refuse_if
  refuse e = rw e

  pub go_on : c ≡ false → refuse_if c a b ≡ b
  unfolding refuse_if
  go_on e = rw e

-- a check that passed, by either word
pub ok_is : (a : Result ⊤ Refusal) {b : Bool} → is_ok a ≡ b → is_done a ≡ b
unfolding is_done
ok_is (Ok _) e = e
ok_is (Err _) e = e

-- a link, where the code goes on by `?`: a is what the check c answered, e what was refused, and r what is returned of it
pub stop_at : (r : Result ⊤ Refusal) (e : Refusal) → IsErrAnd r (λ y. y ≡ e) → (a c b : Result ⊤ Refusal) → a ≡ c → a ≡ Err e → r ≡ and_then c b
unfolding and_then is_done
stop_at r e w a c b f g = let p = err_from_is_err_and r w in rw (← f, g, p.1, p.2)

pub pass_on : (a c b : Result ⊤ Refusal) {x : ⊤} {r : Result ⊤ Refusal} → a ≡ c → a ≡ Ok x → r ≡ b → r ≡ and_then c b
unfolding and_then is_done
pass_on a c b f g h = rw (← f, g) h

-- where the chain is done, so is each link
module _ (a b : Result ⊤ Refusal) (t : is_done (and_then a b) ≡ true) where
  pub first_done : is_done a ≡ true
  unfolding and_then
  first_done = by (is_done a) (is_done a ≡ true) (λ u. u) (λ u. sym (ap is_done (cond_false (is_done a) b a u)) ∙ t)

  pub rest_done : is_done b ≡ true
  unfolding and_then
  rest_done = sym (ap is_done (cond_true (is_done a) b a first_done)) ∙ t

-- links of links
pub and_then_lem : (a b c : Result ⊤ Refusal) → and_then (and_then a b) c ≡ and_then a (and_then b c)
unfolding and_then
and_then_lem a b c = by (is_done a) (cond (is_done (cond (is_done a) b a)) c (cond (is_done a) b a) ≡ cond (is_done a) (cond (is_done b) c b) a) (λ t. rw t) (λ t. rw t (cond_false (is_done a) c a t))

-- ---- 8
module _ (r : ℕ) where
  pub revision_yes : r ≡ last_revision → (Err RevisionOverflow) ≡ check_revision r
  unfolding check_revision at_last_lem
  revision_yes e = sym (refuse _ _ _ (eq-eqb r last_revision e))

  -- where 8 is passed, the revision can rise
  pub revision_left : is_done (check_revision r) ≡ true → r ≡ last_revision → ⊥
  unfolding is_done
  revision_left t e = true≢false (sym t ∙ ap is_done (sym (revision_yes e)))

-- ---- 7
-- locks in conflict overlap, so their answer is where they meet
pub conflicts_overlap : (x a : ActiveLock) → Yes (conflicts x a) → Yes (overlap a.lock.coverage x.lock.coverage)
unfolding conflicts
conflicts_overlap x a t = and_l _ _ (and_l _ _ t)

module _ (x a : ActiveLock) (o : Option (Option ℕ)) (e : o ≡ shared a.lock.coverage x.lock.coverage) where
  pub conflict_meets : Yes (conflicts x a) → o ≡ None → ⊥
  conflict_meets t q = false≢true (ap is_met (sym q ∙ e) ∙ shared_met a.lock.coverage x.lock.coverage ∙ conflicts_overlap x a t)

  pub conflict_at : (at : Option ℕ) → o ≡ Some at → (Err (CoverageConflict a.lock.id at)) ≡ conflict_with x a
  conflict_at at q = ap (λ (z : Option ℕ). Err (CoverageConflict a.lock.id z)) (sym (spot_shared a.lock.coverage x.lock.coverage at (sym e ∙ q)).1)

-- ---- the parent
module _ (x p : ActiveLock) (v : Bool) (e : v ≡ is_vehicle p.lock.scope) where
  module _ (f : not v ≡ false) where
    parent_a : check_parent x p ≡ refuse_if (non (eqb p.lock.subject x.lock.subject)) (Err (OtherOwner x.lock.id x.parent)) (refuse_if (non (within x.lock.coverage p.lock.coverage)) (Err (NotCovered x.lock.id x.parent)) (Ok tt))
    unfolding check_parent
    parent_a = go_on _ _ _ (non_t _ (sym e ∙ not-false v f))

    pub parent_2 : (p.lock.subject ≡ x.lock.subject → ⊥) → (Err (OtherOwner x.lock.id x.parent)) ≡ check_parent x p
    parent_2 n = sym (parent_a ∙ refuse _ _ _ (non_f _ (ne_eqb _ _ n)))

-- ---- 11.3, 11.4 of a child
module _ (x a : ActiveLock) where
  pub child_owner : (x.lock.subject ≡ a.lock.subject → ⊥) → (Err (OtherOwner a.lock.id x.lock.id)) ≡ check_child x a
  unfolding check_child check_owner and_then is_done
  child_owner n = sym (ap (λ (r : Result ⊤ Refusal). and_then r (check_cover x a)) (refuse _ _ _ (non_f _ (ne_eqb x.lock.subject a.lock.subject n))))

  module _ (s : x.lock.subject ≡ a.lock.subject) (w : Bool) (g : w ≡ within a.lock.coverage x.lock.coverage) where
    child_own : check_child x a ≡ check_cover x a
    unfolding check_child check_owner and_then is_done
    child_own = ap (λ (r : Result ⊤ Refusal). and_then r (check_cover x a)) (go_on _ _ _ (non_t _ (eq-eqb x.lock.subject a.lock.subject s)))

    pub child_covered : not w ≡ true → (Err (NotCovered a.lock.id x.lock.id)) ≡ check_child x a
    unfolding check_cover
    child_covered t = sym (child_own ∙ refuse _ _ _ (non_f _ (sym g ∙ not-true w t)))
