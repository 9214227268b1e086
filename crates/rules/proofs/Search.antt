-- Places in a list that ascends: search by halving, and by slots. Assumes nothing.
use mathlib.Core.Path.{◌≡◌, refl, sym, ap, ◌∙◌, subst}
use mathlib.Core.Bool.{Bool, true, false}
use mathlib.Core.List.{List}
use mathlib.Core.Logic.{◌⊎◌, inl, inr}
use Prim.Native.Nat.{ℕ, zero, suc, ◌+◌, ◌/◌, ◌%◌, ◌^◌, ◌≤◌, ◌<◌}
use native.Mathlib.Omega.{arith}
use native.Mathlib.Decide.{ℕ_discrete}
use lib.Dec.{ltb}
use lib.ListN.{length, get_or, set, length-set, replicate, length-replicate}
use lib.Seq.{get_or-set_same, get_or-set_other}
use borrow.Author.Tests.{ltb-true, ltb-false, eqb-true, eqb-false}
use Rattle.ids.specs.declared.LockId.{LockId}
use Rattle.ids.specs.Order.{key, same_id, before_id}
use Rattle.rules.specs.Code.{Sought, Sorted, slot_of, Slotted}

-- ---- halving
module _ (at : ℕ → ℕ) (n k : ℕ) (s : Sorted at n) where
  pub low : (m : ℕ) → m < n → at m < k → (i : ℕ) → i < m + 1 → at i < k
  low m h b i g = elim (ℕ_discrete i m) [ yes e ↦ subst (λ (j : ℕ). at j < k) (sym e) b | no e ↦ omega (arith, s i m (omega arith) h) ]

  pub high : (m : ℕ) → m < n → k ≤ at m → (i : ℕ) → m ≤ i → i < n → k ≤ at i
  high m h b i g f = elim (ℕ_discrete i m) [ yes e ↦ subst (λ (j : ℕ). k ≤ at j) (sym e) b | no e ↦ omega (arith, s m i (omega arith) f) ]

  -- at the end all places below a are too low, and none from a on is
  pub missed : (a e : ℕ) → e ≤ a → ((i : ℕ) → i < a → at i < k) → ((i : ℕ) → e ≤ i → i < n → k ≤ at i) → (at a ≡ k → ⊥) → (i : ℕ) → i < n → at i ≡ k → ⊥
  missed a e h lo hi x i g q = elim (ℕ_discrete i a) [
    | yes z ↦ x (subst (λ (j : ℕ). at j ≡ k) z q)
    | no z ↦ elim (lt_or i a z) [ inl u ↦ omega (arith, lo i u) | inr u ↦ omega (arith, s a i u g, hi a (omega arith) (omega arith)) ]
  ]
    where
      lt_or : (i a : ℕ) → (i ≡ a → ⊥) → (i < a) ⊎ (a < i)
      lt_or i a z = go (ltb i a) refl
        where
          go : (b : Bool) → ltb i a ≡ b → (i < a) ⊎ (a < i)
          go true e = inl (ltb-true i a e)
          go false e = inr (omega (arith, ltb-false i a e))

-- an id sought and found, or not
module _ (at : ℕ → ℕ) (n r : ℕ) (x y : LockId) (w : Sought at n (key x) r) (e : x ≡ y) where
  pub sought_id : Sought at n (key y) r
  sought_id = subst (λ (i : LockId). Sought at n (key i) r) e w

-- ---- slots
pub slot_lt : (k : ℕ) → slot_of k < 1024
unfolding slot_of
slot_lt k = omega arith

pub slot_is : (i : LockId) → i.lo < 2 ^ 64 → (i.hi / 4294967296 % 1024 + i.lo % 1024) % 1024 ≡ slot_of (key i)
unfolding slot_of key
slot_is i h = omega arith

pub slot_none : (at : ℕ → ℕ) → Slotted at 0 (replicate 1024 0)
slot_none at = record { long = length-replicate {A = ℕ} 1024 0; used = λ i h. absurd (omega arith); small = λ k. zeros 1024 k }
  where
    zeros : (n k : ℕ) → get_or (replicate n 0) k 0 ≤ 0
    zeros zero k = omega arith
    zeros (suc n) zero = omega arith
    zeros (suc n) (suc k) = zeros n k

-- one more place is in the table
pub slot_more : (at : ℕ → ℕ) (i : ℕ) (t : List ℕ) (s : ℕ) → s ≡ slot_of (at i) → Slotted at i t → Slotted at (i + 1) (set t s (i + 1))
slot_more at i t s f w = record {
  long = length-set t s (i + 1) ∙ w.long;
  used = λ j h. elim (ℕ_discrete j i) [
    | yes e ↦ subst (λ (m : ℕ). 0 < get_or (set t s (i + 1)) m 0) (f ∙ ap (λ (m : ℕ). slot_of (at m)) (sym e)) here
    | no e ↦ elsewhere (slot_of (at j)) (λ z. 0 < z) (omega arith) (w.used j (omega arith))
  ];
  small = λ k. elsewhere k (λ z. z ≤ i + 1) (omega arith) (omega (arith, w.small k));
}
  where
    inside : s < length t
    inside = omega (arith, w.long, slot_lt (at i))

    here : 0 < get_or (set t s (i + 1)) s 0
    here = rw (get_or-set_same t s (i + 1) 0 inside) (omega arith)

    elsewhere : (k : ℕ) (P : ℕ → Type 0) → P (i + 1) → P (get_or t k 0) → P (get_or (set t s (i + 1)) k 0)
    elsewhere k P a b = elim (ℕ_discrete k s) [
      | yes e ↦ rw (e, get_or-set_same t s (i + 1) 0 inside) a
      | no e ↦ rw (get_or-set_other t s k (i + 1) 0 e) b
    ]

-- a key whose slot is free is nowhere
pub slot_free : (at : ℕ → ℕ) (n : ℕ) (t : List ℕ) (k : ℕ) → Slotted at n t → get_or t (slot_of k) 0 ≡ 0 → (i : ℕ) → i < n → at i ≡ k → ⊥
slot_free at n t k w e i h q = omega (arith, e, subst (λ (m : ℕ). 0 < get_or t (slot_of m) 0) q (w.used i h))

-- ---- the tests of ids that the code makes, as facts of keys
module _ (t : Bool) (a b x y : LockId) (f : a ≡ x) (g : b ≡ y) where
  pub is_less : t ≡ before_id a b → t ≡ true → key x < key y
  unfolding before_id
  is_less e h = ltb-true (key x) (key y) (sym (e ∙ (λ i. before_id (f i) (g i))) ∙ h)

  pub not_less : t ≡ before_id a b → t ≡ false → key y ≤ key x
  unfolding before_id
  not_less e h = ltb-false (key x) (key y) (sym (e ∙ (λ i. before_id (f i) (g i))) ∙ h)

  pub is_same : t ≡ same_id a b → t ≡ true → key x ≡ key y
  unfolding same_id
  is_same e h = eqb-true (key x) (key y) (sym (e ∙ (λ i. same_id (f i) (g i))) ∙ h)

  pub not_same : t ≡ same_id a b → t ≡ false → key x ≡ key y → ⊥
  unfolding same_id
  not_same e h = eqb-false (key x) (key y) (sym (e ∙ (λ i. same_id (f i) (g i))) ∙ h)
