-- A list by its places: members, tests of its first places, ascending order, arrays filled from the first place on.
-- Assumes nothing.
use mathlib.Core.Path.{◌≡◌, refl, sym, ap, ◌∙◌, subst}
use mathlib.Core.Bool.{Bool, true, false}
use mathlib.Core.List.{List, [], ◌∷◌, Memᴰ}
use Prim.Native.Nat.{ℕ, zero, suc, ◌+◌, ◌-◌, ◌≤◌, ◌<◌}
use native.Mathlib.Omega.{arith}
use native.Mathlib.Decide.{ℕ_discrete}
use native.Mathlib.Numerals.{add-one}
use lib.ListN.{length, get_or, set, take, drop, length-append, length-take, length-drop}
use lib.Seq.{get_or-set_same, get_or-set_other, get_or-take, get_or-drop, length-take-le}
use lib.Dec.{leb}
use borrow.Author.Tests.{le-leb}
use Rattle.lists.specs.Tests.{Yes}
use Rattle.lists.specs.Lists.{all, Mem, from, ascending}
use Rattle.lists.specs.Below.{all_below}
use Rattle.lists.specs.Places.{splice}
use Rattle.lists.proofs.Tests.{and_i, against, →no, same_test}
use Rattle.lists.proofs.Lists.{all→, →all, from→, rest}
use Rattle.lists.proofs.Below.{all_of, all_at, all_no, all_same}

module _ {A : Type 0} where
  pub mem_at : (l : List A) (i : ℕ) (d : A) → i < length l → Mem (get_or l i d) l
  mem_at [] i d h = absurd (omega arith)
  mem_at (x ∷ xs) zero d h = Memᴰ.head refl
  mem_at (x ∷ xs) (suc i) d h = Memᴰ.tail (mem_at xs i d (omega arith))

  pub at_mem : {a : A} {l : List A} (d : A) → Mem a l → (i : ℕ) × (i < length l) × (get_or l i d ≡ a)
  at_mem {a = a} {l = []} d x'' = elim x'' [ ]
  at_mem {l = x ∷ xs} d (Memᴰ.head e) = (0, omega arith, sym e)
  at_mem {l = x ∷ xs} d (Memᴰ.tail m) = let w = at_mem d m in (suc w.0, omega (arith, w.1), w.2)

  pub all_below_lem : (p : A → Bool) (l : List A) (d : A) → all p l ≡ all_below (length l) (λ i. p (get_or l i d))
  all_below_lem p l d = same_test (all p l) (all_below (length l) (λ i. p (get_or l i d)))
      (λ t. all_of (length l) (λ i. p (get_or l i d)) (λ i h. all→ p t (mem_at l i d h)))
      (λ t. →all p l (λ a m. let w = at_mem d m in subst (λ (x : A). Yes (p x)) w.2 (all_at (length l) (λ i. p (get_or l i d)) t w.0 w.1)))

  -- of an array's first n places
  pub all_first : (p : A → Bool) (l : List A) (n : ℕ) (d : A) → n ≤ length l → all p (take n l) ≡ all_below n (λ i. p (get_or l i d))
  all_first p l n d h =
      all_below_lem p (take n l) d
      ∙ ap (λ (m : ℕ). all_below m (λ i. p (get_or (take n l) i d))) (length-take-le n l h)
      ∙ all_same n (λ i. p (get_or (take n l) i d)) (λ i. p (get_or l i d)) (λ i k. ap p (get_or-take n l i d k))

-- an array filled from its first place on: what stands at each place below i is right
pub fill_more_of : (P : ℕ → ℕ → Type 0) (a : List ℕ) (i v d : ℕ) → i < length a → P i v → ((j : ℕ) → j < i → P j (get_or a j d)) → (j : ℕ) → j < i + 1 → P j (get_or (set a i v) j d)
fill_more_of P a i v d h e g j k = elim (ℕ_discrete j i) [
  | yes q ↦ subst (λ (m : ℕ). P m (get_or (set a i v) m d)) (sym q) (subst (P i) (sym (get_or-set_same a i v d h)) e)
  | no q ↦ subst (P j) (sym (get_or-set_other a i j v d q)) (g j (omega arith))
]

-- the same where f says what stands there
pub fill_more : (f : ℕ → ℕ) (a : List ℕ) (i v d : ℕ) → i < length a → v ≡ f i → ((j : ℕ) → j < i → get_or a j d ≡ f j) → (j : ℕ) → j < i + 1 → get_or (set a i v) j d ≡ f j
fill_more f a i v d h e g j k = elim (ℕ_discrete j i) [
  | yes q ↦ subst (λ (m : ℕ). get_or (set a i v) m d ≡ f m) (sym q) (get_or-set_same a i v d h ∙ e)
  | no q ↦ get_or-set_other a i j v d q ∙ g j (omega arith)
]

-- an ascending list, by places
pub ascending_at : {A : Type 0} (k : A → ℕ) (b : ℕ) (l : List A) (d : A) → Yes (from k b l) → (i j : ℕ) → i < j → j < length l → k (get_or l i d) < k (get_or l j d)
ascending_at k b [] d t i j h g = absurd (omega arith)
ascending_at k b (x ∷ xs) d t i zero h g = absurd (omega arith)
ascending_at k b (x ∷ xs) d t zero (suc j) h g = omega (arith, from→ k (suc (k x)) (rest k b x xs t) (mem_at xs j d (omega arith)))
ascending_at k b (x ∷ xs) d t (suc i) (suc j) h g = ascending_at k (suc (k x)) xs d (rest k b x xs t) i j (omega arith) (omega arith)

-- ---- loops over lists, by places
module _ {A : Type 0} (p : A → Bool) (l : List A) (k : ℕ) (d : A) where
  pub rest_yes : ((i : ℕ) → k ≤ i → i < length l → p (get_or l i d) ≡ true) → all p (drop k l) ≡ true
  rest_yes f = →all p (drop k l) (λ a m.
      let w = at_mem d m in
      subst (λ (x : A). Yes (p x)) (sym (get_or-drop k l w.0 d) ∙ w.2) (f (k + w.0) (omega arith) (omega (arith, w.1, length-drop k l))))

  pub rest_no : (i : ℕ) → k ≤ i → i < length l → p (get_or l i d) ≡ false → all p (drop k l) ≡ false
  rest_no i h g e = →no (all p (drop k l)) (λ t.
      let q : k + (i - k) ≡ i = omega arith in
      against e (subst (λ (x : A). Yes (p x)) (get_or-drop k l (i - k) d ∙ ap (λ (m : ℕ). get_or l m d) q) (all→ p t (mem_at (drop k l) (i - k) d (omega (arith, length-drop k l))))))

  pub first_all : k ≤ length l → ((i : ℕ) → i < k → p (get_or l i d) ≡ true) → all p (take k l) ≡ true
  first_all h f = all_first p l k d h ∙ all_of k (λ i. p (get_or l i d)) f

  pub first_not : k ≤ length l → (i : ℕ) → i < k → p (get_or l i d) ≡ false → all p (take k l) ≡ false
  first_not h i g e = all_first p l k d h ∙ all_no k (λ i. p (get_or l i d)) i g e

-- what holds from k up to i, and at i, holds up to i + 1
pub from_more : (P : ℕ → Type 0) (k i : ℕ) → ((j : ℕ) → k ≤ j → j < i → P j) → P i → (j : ℕ) → k ≤ j → j < i + 1 → P j
from_more P k i f e j h g = elim (ℕ_discrete j i) [ yes q ↦ subst P (sym q) e | no q ↦ f j h (omega arith) ]

pub rise_more : (f : ℕ → ℕ) (i : ℕ) → 1 ≤ i → ((j : ℕ) → j + 1 < i → f j < f (j + 1)) → f (i - 1) < f i → (j : ℕ) → j + 1 < i + 1 → f j < f (j + 1)
rise_more f i h g e j k = elim (ℕ_discrete (j + 1) i) [
  | yes q ↦ let r : i - 1 ≡ j = omega arith in subst (λ (m : ℕ). f j < f m) (sym q) (subst (λ (m : ℕ). f m < f i) r e)
  | no q ↦ g j (omega arith)
]

module _ {A : Type 0} (k : A → ℕ) where
  rising : (b : ℕ) (l : List A) (d : A) → (0 < length l → b ≤ k (get_or l 0 d)) → ((j : ℕ) → j + 1 < length l → k (get_or l j d) < k (get_or l (j + 1) d)) → from k b l ≡ true
  rising b [] d h f = refl
  rising b (x ∷ xs) d h f = and_i (leb b (k x)) (from k (suc (k x)) xs) (le-leb b (k x) (h (omega arith)))
      (rising (suc (k x)) xs d (λ g. subst (λ (m : ℕ). k x < k (get_or (x ∷ xs) m d)) (add-one 0) (f 0 (omega arith)))
      (λ j g. rw (add-one j) (subst (λ (m : ℕ). k (get_or xs j d) < k (get_or (x ∷ xs) m d)) (add-one (suc j)) (f (suc j) (omega arith)))))

  module _ (l : List A) (n : ℕ) (d : A) (h : n ≤ length l) where
    pub ascending_yes : ((j : ℕ) → j + 1 < n → k (get_or l j d) < k (get_or l (j + 1) d)) → ascending k (take n l) ≡ true
    ascending_yes f = rising 0 (take n l) d (λ g. omega arith) (λ j g.
        let q : j + 1 < n = omega (arith, length-take-le n l h) in
        rw (get_or-take n l j d (omega arith), get_or-take n l (j + 1) d q) (f j q))

    pub ascending_no : (i : ℕ) → 1 ≤ i → i < n → k (get_or l i d) ≤ k (get_or l (i - 1) d) → ascending k (take n l) ≡ false
    ascending_no i g m e = →no (ascending k (take n l)) (λ t. omega (
      arith,
      e,
      rw (get_or-take n l (i - 1) d (omega arith), get_or-take n l i d m) at
          (ascending_at k 0 (take n l) d t (i - 1) i (omega arith) (omega (arith, length-take-le n l h))),
    ))

-- bytes put into a buffer leave its length
pub length_splice : (s : List ℕ) (at : ℕ) (b : List ℕ) → at + length b ≤ length s → length (splice s at b) ≡ length s
unfolding splice
length_splice s at b h = simp (length-append, length-take, length-drop) (omega arith)
