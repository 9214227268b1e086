-- Walks from place to place that pass each place once. Assumes nothing.
use mathlib.Core.Path.{◌≡◌, refl, sym, ◌∙◌, subst}
use mathlib.Core.Bool.{Bool, true, false, cond, ◌&&◌}
use mathlib.Core.List.{List, [], ◌∷◌}
use mathlib.Core.Logic.{◌⊎◌, inl, inr}
use Prim.Native.Nat.{ℕ, zero, suc, ◌+◌, ◌-◌, ◌≤◌, ◌<◌}
use native.Mathlib.Omega.{arith}
use native.Mathlib.Decide.{ℕ_discrete}
use lib.Dec.{eqb, ltb}
use lib.ListN.{length, get_or, set, length-set, replicate, length-replicate}
use lib.Seq.{get_or-set_same, get_or-set_other}
use borrow.Author.Tests.{ne_eqb, eqb-true, eqb-false, ltb-true, ltb-false}
use Rattle.lists.proofs.Tests.{and_l, and_r, and_no, and_code, by}
use Rattle.rules.specs.Code.{Step, Out, past, via, Path, single, longer, LeadsOut}

-- ---- how many places no walk passed
abbrev pub zeros : List ℕ → ℕ
zeros [] = 0
zeros (x ∷ xs) = cond (eqb x 0) (suc (zeros xs)) (zeros xs)

pub zeros_set : (l : List ℕ) (j v : ℕ) → j < length l → get_or l j 0 ≡ 0 → (v ≡ 0 → ⊥) → zeros (set l j v) < zeros l
zeros_set [] j v h e n = absurd (omega arith)
zeros_set (x ∷ xs) zero v h e n = rw (e, ne_eqb v 0 n) (omega arith)
zeros_set (x ∷ xs) (suc j) v h e n = go (eqb x 0) (zeros_set xs j v (omega arith) e n)
  where
    go : (b : Bool) → zeros (set xs j v) < zeros xs → cond b (suc (zeros (set xs j v))) (zeros (set xs j v)) < cond b (suc (zeros xs)) (zeros xs)
    go true k = omega arith
    go false k = k

-- ---- the test of a walk: the place is in the table, and not passed
module _ (j n x : ℕ) where
  pub goes_on : (ltb j n && eqb x 0) ≡ true → (j < n) × (x ≡ 0)
  goes_on t = let u = sym (and_code (ltb j n) (eqb x 0)) ∙ t in (ltb-true j n (and_l _ _ u), eqb-true x 0 (and_r _ _ u))

  pub stays : (ltb j n && eqb x 0) ≡ false → (n ≤ j) ⊎ (x ≡ 0 → ⊥)
  stays t = by (ltb j n) ((n ≤ j) ⊎ (x ≡ 0 → ⊥))
      (λ u. inr (eqb-false x 0 (and_no (ltb j n) (eqb x 0) (sym (and_code (ltb j n) (eqb x 0)) ∙ t) u)))
      (λ u. inl (ltb-false j n u))

module _ (next : List ℕ) (n : ℕ) where
  -- what leads to a place that leads out leads out
  along : {p q : ℕ} → Path next n p q → Out next n q → Out next n p
  along (single s) o = via s o
  along (longer w s) o = along w (via s o)

  -- ---- after the first i walks
  pub record Passed (i : ℕ) (t : List ℕ) : Type 0 where
    pub long : length t ≡ 129
    pub low : (p : ℕ) → get_or t p 0 ≤ i
    pub inside : (p : ℕ) → n ≤ p → get_or t p 0 ≡ 0
    pub leads : (p : ℕ) → (get_or t p 0 ≡ 0 → ⊥) → Out next n p
    pub all : (p : ℕ) → p < i → get_or t p 0 ≡ 0 → ⊥

  -- ---- within walk i, which has come from place i - 1 to place j
  pub record Passing (i j : ℕ) (t : List ℕ) : Type 0 where
    pub long : length t ≡ 129
    pub low : (p : ℕ) → get_or t p 0 ≤ i
    pub inside : (p : ℕ) → n ≤ p → get_or t p 0 ≡ 0
    pub leads : (p : ℕ) → (get_or t p 0 ≡ 0 → ⊥) → (get_or t p 0 ≡ i → ⊥) → Out next n p
    pub path : (p : ℕ) → get_or t p 0 ≡ i → Path next n p j
    pub all : (p : ℕ) → p + 1 < i → get_or t p 0 ≡ 0 → ⊥
    pub start : (j + 1 ≡ i) ⊎ (get_or t (i - 1) 0 ≡ 0 → ⊥)

  pub pass_none : Passed 0 (replicate 129 0)
  pass_none = record {
    long = length-replicate {A = ℕ} 129 0;
    low = λ p. zeros_at 129 p (λ z. z ≤ 0) (omega arith);
    inside = λ p h. zeros_at 129 p (λ z. z ≡ 0) refl;
    leads = λ p h. absurd (h (zeros_at 129 p (λ z. z ≡ 0) refl));
    all = λ p h. absurd (omega arith);
  }
    where
      zeros_at : (k p : ℕ) (P : ℕ → Type 0) → P 0 → P (get_or (replicate k 0) p 0)
      zeros_at zero p P e = e
      zeros_at (suc k) zero P e = e
      zeros_at (suc k) (suc p) P e = zeros_at k p P e

  pub pass_start : (i : ℕ) (t : List ℕ) → Passed i t → Passing (i + 1) i t
  pass_start i t w = record {
    long = w.long;
    low = λ p. omega (arith, w.low p);
    inside = w.inside;
    leads = λ p h g. w.leads p h;
    path = λ p e. absurd (omega (arith, w.low p));
    all = λ p h. w.all p (omega arith);
    start = inl refl;
  }

  module _ (i j : ℕ) (t : List ℕ) (w : Passing i j t) where
    -- one step more
    pub pass_more : (q : ℕ) → 1 ≤ i → j < n → n ≤ 128 → Step next n j q → Passing i q (set t j i)
    pass_more q h g m s = record {
      long = length-set t j i ∙ w.long;
      low = λ p. at p (λ z. z ≤ i) (λ e. omega arith) (λ e. w.low p);
      inside = λ p k. at p (λ z. z ≡ 0) (λ e. absurd (omega arith)) (λ e. w.inside p k);
      leads = λ p. at p (λ z. (z ≡ 0 → ⊥) → (z ≡ i → ⊥) → Out next n p) (λ e a b. absurd (b refl)) (λ e. w.leads p);
      path = λ p. at p (λ z. z ≡ i → Path next n p q) (λ e a. subst (λ (x : ℕ). Path next n x q) (sym e) (single s)) (λ e a. longer (w.path p a) s);
      all = λ p k. at p (λ z. z ≡ 0 → ⊥) (λ e a. omega arith) (λ e. w.all p k);
      start = inr (at (i - 1) (λ z. z ≡ 0 → ⊥) (λ e a. omega arith) (λ e. first e w.start));
    }
      where
        at : (p : ℕ) (P : ℕ → Type 0) → (p ≡ j → P i) → ((p ≡ j → ⊥) → P (get_or t p 0)) → P (get_or (set t j i) p 0)
        at p P a b = elim (ℕ_discrete p j) [
          | yes e ↦ rw (e, get_or-set_same t j i 0 (omega (arith, w.long))) (a e)
          | no e ↦ rw (get_or-set_other t j p i 0 e) (b e)
        ]

        first : (i - 1 ≡ j → ⊥) → (j + 1 ≡ i) ⊎ (get_or t (i - 1) 0 ≡ 0 → ⊥) → get_or t (i - 1) 0 ≡ 0 → ⊥
        first e (inl x) = absurd (e (omega arith))
        first e (inr x) = x

    -- a walk that comes to a place of its own is a ring
    pub pass_ring : 1 ≤ i → get_or t j 0 ≡ i → LeadsOut next n false
    pass_ring h e = inr (refl, (j, inner, w.path j e))
      where
        go : (b : Bool) → ltb j n ≡ b → j < n
        go true f = ltb-true j n f
        go false f = absurd (omega (arith, w.inside j (ltb-false j n f)))

        inner : j < n
        inner = go (ltb j n) refl

    -- any other leads out, and so do the places that it passed
    pub pass_next : i ≤ n → (get_or t j 0 ≡ i → ⊥) → (n ≤ j) ⊎ (get_or t j 0 ≡ 0 → ⊥) → Passed i t
    pass_next l h g = record {
      long = w.long;
      low = w.low;
      inside = w.inside;
      leads = λ p a. elim (ℕ_discrete (get_or t p 0) i) [ yes e ↦ along (w.path p e) (there g) | no e ↦ w.leads p a e ];
      all = λ p k. elim (ℕ_discrete (p + 1) i) [ yes e ↦ first p e g w.start | no e ↦ w.all p (omega arith) ];
    }
      where
        there : (n ≤ j) ⊎ (get_or t j 0 ≡ 0 → ⊥) → Out next n j
        there (inl x) = past x
        there (inr x) = w.leads j x h

        first : (p : ℕ) → p + 1 ≡ i → (n ≤ j) ⊎ (get_or t j 0 ≡ 0 → ⊥) → (j + 1 ≡ i) ⊎ (get_or t (i - 1) 0 ≡ 0 → ⊥) → get_or t p 0 ≡ 0 → ⊥
        first p e (inl x) (inl y) = absurd (omega arith)
        first p e (inr x) (inl y) = let z : j ≡ p = omega arith in rw z at x
        first p e x (inr y) = let z : i - 1 ≡ p = omega arith in rw z at y

  pub pass_end : (i : ℕ) (t : List ℕ) → Passed i t → n ≤ i → LeadsOut next n true
  pass_end i t w h = inl (refl, λ p k. w.leads p (w.all p (omega arith)))
