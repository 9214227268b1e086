-- Numbers in their ranges: where a number fits its type, the definitions' tests pass. Assumes nothing.
use mathlib.Core.Path.{◌≡◌, refl, sym, ap, ◌∙◌}
use mathlib.Core.Bool.{true, false, cond}
use Prim.Native.Nat.{ℕ, ◌≤◌, ◌<◌}
use lib.Dec.{leb}
use borrow.Author.Tests.{le-leb, lt-leb}
use Rattle.lists.specs.Tests.{◌and◌}
use native.Mathlib.Decide.{dec_lt}
use native.Mathlib.Omega.{arith}
use Rattle.std.specs.Prelude.{Ok, Err, Some, None}
use Rattle.lookups.specs.declared.TesterPresent.TheVariants as present
use Rattle.records.specs.Wire.{scope_right, scope_of}
use Rattle.cablegorse.specs.Questions.{bad_told, scoped_of, tester_of, tester_told}
use Rattle.lists.proofs.Tests.{and_t, and_f, and_comm, cond_true, cond_false}

-- ---- a at most m, and b at most n
module _ {A : Type 0} (a m b n : ℕ) (x y : A) where
  pub first_out : m < a → y ≡ cond (leb a m and leb b n) x y
  first_out h = sym (cond_false _ x y (and_f (leb a m) (leb b n) (lt-leb a m h)))

  pub last_out : n < b → y ≡ cond (leb a m and leb b n) x y
  last_out h = sym (cond_false _ x y (and_comm (leb a m) (leb b n) ∙ and_f (leb b n) (leb a m) (lt-leb b n h)))

  pub both_in : a ≤ m → b ≤ n → x ≡ cond (leb a m and leb b n) x y
  both_in h k = sym (cond_true _ x y (and_t (leb a m) (leb b n) (le-leb a m h) ∙ le-leb b n k))

-- ---- a scope of a kind and a number
module _ (k n : ℕ) where
  pub kind_out : 255 < k → None ≡ scoped_of k n
  unfolding scoped_of
  kind_out h = sym (cond_false _ _ _ (and_f (leb k 255 and leb n 255) (scope_right k n) (and_f (leb k 255) (leb n 255) (lt-leb k 255 h))))

  pub number_out : 255 < n → None ≡ scoped_of k n
  unfolding scoped_of
  number_out h = sym (cond_false _ _ _ (and_f (leb k 255 and leb n 255) (scope_right k n) (and_comm (leb k 255) (leb n 255) ∙ and_f (leb n 255) (leb k 255) (lt-leb n 255 h))))

  module _ (h : k ≤ 255) (g : n ≤ 255) where
    by_scope : scoped_of k n ≡ cond (scope_right k n) (Some (scope_of k n)) None
    unfolding scoped_of
    by_scope = ap (λ b. cond (b and scope_right k n) (Some (scope_of k n)) None) (and_t (leb k 255) (leb n 255) (le-leb k 255 h) ∙ le-leb n 255 g) ∙ ap (λ b. cond b (Some (scope_of k n)) None) (and_t true (scope_right k n) refl)

    pub scope_wrong : scope_right k n ≡ false → None ≡ scoped_of k n
    scope_wrong r = sym (by_scope ∙ cond_false _ _ _ r)

    pub scope_there : scope_right k n ≡ true → Some (scope_of k n) ≡ scoped_of k n
    scope_there r = sym (by_scope ∙ cond_true _ _ _ r)

-- ---- an ECU or a group, by its kind and its number
module _ (x n : ℕ) where
  pub tester_past : 255 < n → Err bad_told ≡ tester_told x n
  unfolding tester_told
  tester_past h = sym (cond_false _ _ _ (and_comm (leb 1 x and leb x 2) (leb n 255) ∙ and_f (leb n 255) _ (lt-leb n 255 h)))

  module _ (h : n ≤ 255) where
    pub tester_ecu : x ≡ 1 → Ok (present.Ecu n) ≡ tester_told x n
    unfolding tester_told tester_of ◌and◌
    tester_ecu e = rw (e, le-leb n 255 h)

    pub tester_group : x ≡ 2 → Ok (present.Functional n) ≡ tester_told x n
    unfolding tester_told tester_of ◌and◌
    tester_group e = rw (e, le-leb n 255 h)

    pub tester_none : (x ≡ 1 → ⊥) → (x ≡ 2 → ⊥) → Err bad_told ≡ tester_told x n
    unfolding tester_told
    tester_none f g = sym (cond_false _ _ _ (and_f (leb 1 x and leb x 2) (leb n 255) (elim (dec_lt x 1) [
      | yes l ↦ and_f (leb 1 x) (leb x 2) (lt-leb 1 x l)
      | no l ↦ and_comm (leb 1 x) (leb x 2) ∙ and_f (leb x 2) (leb 1 x) (lt-leb x 2 (omega arith))
    ])))
