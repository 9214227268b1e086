-- A test at each or at some number below a bound: as statements, a bound that is a product taken apart, flags that loops
-- keep; and the lowest number that passes.
-- Assumes nothing.
use mathlib.Core.Path.{◌≡◌, refl, sym, subst, ap, ap₂, ◌∙◌}
use mathlib.Core.Logic.{⊎_elim}
use mathlib.Core.Bool.{Bool, true, false, cond, false≢true}
use Rattle.std.specs.Prelude.{Option, None, Some}
use Prim.Native.Nat.{ℕ, zero, suc, ◌+◌, ◌*◌, ◌/◌, ◌%◌, ◌<◌}
use native.Mathlib.Nat.{le_step, lt-suc_self, div-lt_iff_lt-mul, mod-lt}
use native.Mathlib.Decide.{ℕ_discrete}
use native.Mathlib.Omega.{arith}
use lib.Arith.{digits_lt, digits_div, digits_mod}
use lib.Dec.{ltb}
use borrow.Author.Tests.{ltb-true, ltb-false}
use Rattle.lists.specs.Tests.{◌and◌, ◌or◌}
use Rattle.lists.specs.Below.{all_below, any_below, or_else, lowest_below}
use Rattle.lists.proofs.Tests.{and_l, and_r, and_i, or_e, or_l, or_r, against, →no, by, same_test}

-- ---- each number below n
pub all_of : (n : ℕ) (p : ℕ → Bool) → ((i : ℕ) → i < n → p i ≡ true) → all_below n p ≡ true
unfolding all_below
all_of zero p f = refl
all_of (suc n) p f = and_i (all_below n p) (p n) (all_of n p (λ i h. f i (omega arith))) (f n (omega arith))

pub all_at : (n : ℕ) (p : ℕ → Bool) → all_below n p ≡ true → (i : ℕ) → i < n → p i ≡ true
unfolding all_below
all_at zero p t i h = absurd (omega arith)
all_at (suc n) p t i h = elim (ℕ_discrete i n) [
  | yes e ↦ subst (λ (j : ℕ). p j ≡ true) (sym e) (and_r (all_below n p) (p n) t)
  | no e ↦ all_at n p (and_l (all_below n p) (p n) t) i (omega arith)
]

pub all_no : (n : ℕ) (p : ℕ → Bool) (i : ℕ) → i < n → p i ≡ false → all_below n p ≡ false
all_no n p i h e = →no (all_below n p) (λ t. against e (all_at n p t i h))

pub all_same : (n : ℕ) (p q : ℕ → Bool) → ((i : ℕ) → i < n → p i ≡ q i) → all_below n p ≡ all_below n q
unfolding all_below
all_same zero p q f = refl
all_same (suc n) p q f = rw (f n (omega arith), all_same n p q (λ i h. f i (omega arith)))

-- ---- some number below n
pub any_of : (n : ℕ) (f : ℕ → Bool) (k : ℕ) → k < n → f k ≡ true → any_below n f ≡ true
unfolding any_below
any_of zero f k h p = absurd (omega arith)
any_of (suc n) f k h p = elim (ℕ_discrete k n) [
  | yes e ↦ or_r (any_below n f) (f n) (subst (λ (m : ℕ). f m ≡ true) e p)
  | no e ↦ or_l (any_below n f) (f n) (any_of n f k (omega arith) p)
]

pub any_at : (n : ℕ) (f : ℕ → Bool) → any_below n f ≡ true → (k : ℕ) × (k < n) × (f k ≡ true)
unfolding any_below
any_at zero f p = absurd (false≢true p)
any_at (suc n) f p =
    ⊎_elim
    (λ q. let r = any_at n f q in (r.0, le_step r.1, r.2))
    (λ q. (n, lt-suc_self n, q))
    (or_e (any_below n f) (f n) p)

pub any_same : (n : ℕ) (f g : ℕ → Bool) → ((k : ℕ) → k < n → f k ≡ g k) → any_below n f ≡ any_below n g
unfolding any_below
any_same zero f g h = refl
any_same (suc n) f g h = rw (h n (omega arith), any_same n f g (λ k l. h k (omega arith)))

-- ---- the lowest number below n that passes
-- o says which it is
abbrev pub IsLowest : ℕ → (ℕ → Bool) → Option ℕ → Type 0
IsLowest n f None = (k : ℕ) → k < n → f k ≡ false
IsLowest n f (Some t) = (t < n) × (f t ≡ true) × ((k : ℕ) → k < t → f k ≡ false)

pub lowest_is : (n : ℕ) (f : ℕ → Bool) → IsLowest n f (lowest_below n f)
unfolding lowest_below
lowest_is zero f = λ k h. absurd (omega arith)
lowest_is (suc n) f = go (lowest_below n f) (lowest_is n f) (f n) refl
  where
    go : (o : Option ℕ) → IsLowest n f o → (b : Bool) → f n ≡ b → IsLowest (suc n) f (or_else o (cond b (Some n) None))
    go (Some t) r b e = (le_step r.0, r.1, r.2)
    go None r true e = (lt-suc_self n, e, r)
    go None r false e = λ k h. elim (ℕ_discrete k n) [ yes q ↦ subst (λ (j : ℕ). f j ≡ false) (sym q) e | no q ↦ r k (omega arith) ]

-- and nothing else is
pub lowest_one : (n : ℕ) (f : ℕ → Bool) (o : Option ℕ) → IsLowest n f o → lowest_below n f ≡ o
lowest_one n f o r = go (lowest_below n f) o (lowest_is n f) r
  where
    go : (o p : Option ℕ) → IsLowest n f o → IsLowest n f p → o ≡ p
    go None None r s = refl
    go None (Some t) r s = absurd (against (r t s.0) s.1)
    go (Some t) None r s = absurd (against (s t r.0) r.1)
    go (Some t) (Some u) r s = elim (ℕ_discrete t u) [
      | yes e ↦ ap Some e
      | no e ↦ absurd (by (ltb t u) ⊥
          (λ q. against (s.2 t (ltb-true t u q)) r.1)
          (λ q. against (r.2 u (omega (arith, ltb-false t u q))) s.1))
    ]

pub lowest_same : (n : ℕ) (f g : ℕ → Bool) → ((k : ℕ) → k < n → f k ≡ g k) → lowest_below n f ≡ lowest_below n g
unfolding lowest_below
lowest_same zero f g h = refl
lowest_same (suc n) f g h = rw (h n (omega arith), lowest_same n f g (λ k l. h k (omega arith)))

-- ---- a number below m * n is a place below m and one below n
module _ (m n : ℕ) (pos : zero < n) (g : ℕ → ℕ → Bool) where
  at_place : (i j : ℕ) → j < n → g ((i * n + j) / n) ((i * n + j) % n) ≡ g i j
  at_place i j h = ap₂ g (digits_div i h) (digits_mod i h)

  pub any_split : any_below (m * n) (λ e. g (e / n) (e % n)) ≡ any_below m (λ i. any_below n (g i))
  any_split =
      same_test (any_below (m * n) (λ e. g (e / n) (e % n))) (any_below m (λ i. any_below n (g i)))
      (λ p. let r = any_at (m * n) (λ e. g (e / n) (e % n)) p in
      any_of m (λ i. any_below n (g i)) (r.0 / n) ((div-lt_iff_lt-mul pos).1 r.1) (any_of n (g (r.0 / n)) (r.0 % n) (mod-lt r.0 pos) r.2))
      (λ p. let r = any_at m (λ i. any_below n (g i)) p in
      let s = any_at n (g r.0) r.2 in
      any_of (m * n) (λ e. g (e / n) (e % n)) (r.0 * n + s.0) (digits_lt r.1 s.1) (at_place r.0 s.0 s.1 ∙ s.2))

  pub all_split : all_below (m * n) (λ e. g (e / n) (e % n)) ≡ all_below m (λ i. all_below n (g i))
  all_split =
      same_test (all_below (m * n) (λ e. g (e / n) (e % n))) (all_below m (λ i. all_below n (g i)))
      (λ p. all_of m (λ i. all_below n (g i)) (λ i hi. all_of n (g i) (λ j hj.
      sym (at_place i j hj) ∙ all_at (m * n) (λ e. g (e / n) (e % n)) p (i * n + j) (digits_lt hi hj))))
      (λ p. all_of (m * n) (λ e. g (e / n) (e % n)) (λ e h.
      all_at n (g (e / n)) (all_at m (λ i. all_below n (g i)) p (e / n) ((div-lt_iff_lt-mul pos).1 h)) (e % n) (mod-lt e pos)))

pub any_four : (f : ℕ → Bool) → any_below 4 f ≡ (f 0 or f 1 or f 2 or f 3)
unfolding any_below ◌or◌
any_four f = refl

pub all_four : (f : ℕ → Bool) → all_below 4 f ≡ (f 0 and f 1 and f 2 and f 3)
unfolding all_below ◌and◌
all_four f = refl

-- ---- every two numbers below n: each with those before it
pub triangle : (n : ℕ) (r : ℕ → ℕ → Bool) → ((i : ℕ) → i < n → r i i ≡ true) → ((i j : ℕ) → i < n → j < n → r i j ≡ r j i) → all_below n (λ i. all_below n (r i)) ≡ all_below n (λ i. all_below i (r i))
triangle n r d s = same_test (all_below n (λ i. all_below n (r i))) (all_below n (λ i. all_below i (r i)))
    (λ t. all_of n (λ i. all_below i (r i)) (λ i h. all_of i (r i) (λ j g. all_at n (r i) (all_at n (λ i. all_below n (r i)) t i h) j (omega arith))))
    (λ t. all_of n (λ i. all_below n (r i)) (λ i h. all_of n (r i) (λ j g. at t i j h g (ltb i j) refl (ltb j i) refl)))
  where
    at : all_below n (λ i. all_below i (r i)) ≡ true → (i j : ℕ) → i < n → j < n → (a : Bool) → ltb i j ≡ a → (b : Bool) → ltb j i ≡ b → r i j ≡ true
    at t i j h g true e b f = s i j h g ∙ all_at j (r j) (all_at n (λ i. all_below i (r i)) t j g) i (ltb-true i j e)
    at t i j h g false e true f = all_at i (r i) (all_at n (λ i. all_below i (r i)) t i h) j (ltb-true j i f)
    at t i j h g false e false f =
        let q : j ≡ i = omega (arith, ltb-false i j e, ltb-false j i f) in
        subst (λ (k : ℕ). r i k ≡ true) (sym q) (d i h)
