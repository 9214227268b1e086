-- The order of ids: compared word by word it is the order of one number, and it is a strict total order.
-- Assumes nothing.
use mathlib.Core.Path.{◌≡◌, refl, sym, ◌∙◌}
use mathlib.Core.Logic.{inl, inr}
use mathlib.Core.Bool.{Bool, true, false, cond, ◌&&◌, ◌||◌}
use Rattle.std.specs.Prelude.{Some}
use Rattle.std.proofs.Common.{Less, Equal, Greater}
use Rattle.std.specs.Ordering.{is_lt, is_some_and, nat_cmp, partial_lt, partial_ordering_then}
use Prim.Native.Nat.{◌^◌, ◌<◌}
use native.Mathlib.Omega.{arith}
use borrow.Author.Tests.{ltb-true, ltb-false, eqb-true, lt-ltb, le-ltb, eq-eqb}
use lib.Dec.{ltb, eqb}
use Rattle.lists.specs.Tests.{◌and◌, ◌or◌}
use Rattle.lists.proofs.Tests.{by, codes, same_test, and_l, and_r, and_i, or_e, or_l, or_r}
use Rattle.ids.specs.Order.{key, same_id, before_id}
use Rattle.ids.specs.declared.LockId.{LockId}

-- ---- word by word
module _ (a b : LockId) (ha : a.lo < 2 ^ 64) (hb : b.lo < 2 ^ 64) where
  pub same_words : (eqb a.hi b.hi && eqb a.lo b.lo) ≡ same_id a b
  unfolding key same_id
  same_words =
      simp codes
      (same_test (eqb a.hi b.hi and eqb a.lo b.lo) (eqb (key a) (key b))
      (λ p. let h = eqb-true a.hi b.hi (and_l (eqb a.hi b.hi) (eqb a.lo b.lo) p) in
      let l = eqb-true a.lo b.lo (and_r (eqb a.hi b.hi) (eqb a.lo b.lo) p) in
      eq-eqb (key a) (key b) (omega arith))
      (λ p. let e = eqb-true (key a) (key b) p in
      and_i (eqb a.hi b.hi) (eqb a.lo b.lo) (eq-eqb a.hi b.hi (omega arith)) (eq-eqb a.lo b.lo (omega arith))))

  pub less_words : (ltb a.hi b.hi || (eqb a.hi b.hi && ltb a.lo b.lo)) ≡ before_id a b
  unfolding key before_id
  less_words =
      simp codes
      (same_test (ltb a.hi b.hi or (eqb a.hi b.hi and ltb a.lo b.lo)) (ltb (key a) (key b)) there
      (λ p. let l = ltb-true (key a) (key b) p in
      by (ltb a.hi b.hi) ((ltb a.hi b.hi or (eqb a.hi b.hi and ltb a.lo b.lo)) ≡ true)
      (λ u. or_l (ltb a.hi b.hi) (eqb a.hi b.hi and ltb a.lo b.lo) u)
      (λ u. let h = ltb-false a.hi b.hi u in
      or_r (ltb a.hi b.hi) (eqb a.hi b.hi and ltb a.lo b.lo)
      (and_i (eqb a.hi b.hi) (ltb a.lo b.lo) (eq-eqb a.hi b.hi (omega arith)) (lt-ltb a.lo b.lo (omega arith))))))
    where
      there : (ltb a.hi b.hi or (eqb a.hi b.hi and ltb a.lo b.lo)) ≡ true → ltb (key a) (key b) ≡ true
      there p = lt-ltb (key a) (key b) (elim (or_e (ltb a.hi b.hi) (eqb a.hi b.hi and ltb a.lo b.lo) p) as (λ w. key a < key b) [
        | inl u ↦ omega (arith, ltb-true a.hi b.hi u)
        | inr u ↦ omega (arith, eqb-true a.hi b.hi (and_l (eqb a.hi b.hi) (ltb a.lo b.lo) u), ltb-true a.lo b.lo (and_r (eqb a.hi b.hi) (ltb a.lo b.lo) u))
      ])

  -- the derived `==` and `<`, which go by the fields in their order
  pub lt_before : partial_lt (λ (x y : LockId). partial_ordering_then (Some (nat_cmp x.hi y.hi)) (Some (nat_cmp x.lo y.lo))) a b ≡ before_id a b
  lt_before = go (ltb a.hi b.hi) (eqb a.hi b.hi) ∙ less_words
    where
      go : (h e : Bool) → is_some_and is_lt (partial_ordering_then (Some (cond h Less (cond e Equal Greater))) (Some (nat_cmp a.lo b.lo))) ≡ (h || (e && ltb a.lo b.lo))
      go true e = refl
      go false false = refl
      go false true = lo (ltb a.lo b.lo) (eqb a.lo b.lo)
        where
          lo : (l e : Bool) → is_lt (cond l Less (cond e Equal Greater)) ≡ l
          lo true e = refl
          lo false true = refl
          lo false false = refl

  -- one number, one id
  pub key_one : key a ≡ key b → a ≡ b
  unfolding key
  key_one e = let h : a.hi ≡ b.hi = omega arith in let l : a.lo ≡ b.lo = omega arith in λ i. record { hi = h i; lo = l i }

-- ---- a strict total order
pub same_refl : (a : LockId) → same_id a a ≡ true
unfolding same_id
same_refl a = eq-eqb (key a) (key a) refl

pub same_sym : (a b : LockId) → same_id a b ≡ same_id b a
unfolding same_id
same_sym a b = same_test (eqb (key a) (key b)) (eqb (key b) (key a)) (λ p. eq-eqb _ _ (sym (eqb-true (key a) (key b) p))) (λ p. eq-eqb _ _ (sym (eqb-true (key b) (key a) p)))

pub less_trans : (a b c : LockId) → before_id a b ≡ true → before_id b c ≡ true → before_id a c ≡ true
unfolding before_id
less_trans a b c p q = lt-ltb (key a) (key c) (omega (arith, ltb-true (key a) (key b) p, ltb-true (key b) (key c) q))

pub less_irrefl : (a : LockId) → before_id a a ≡ false
unfolding before_id
less_irrefl a = le-ltb (key a) (key a) (omega arith)

-- of two ids one is before the other, unless they are one
pub less_total : (a b : LockId) → before_id a b ≡ false → before_id b a ≡ false → same_id a b ≡ true
unfolding before_id same_id
less_total a b p q = eq-eqb (key a) (key b) (omega (arith, ltb-false (key a) (key b) p, ltb-false (key b) (key a) q))
