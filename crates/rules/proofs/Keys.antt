-- Lists of rows, in ascending order of a key: the library's words for them and the definitions'. Assumes nothing.
use mathlib.Core.Path.{◌≡◌, refl, sym, ap, ◌∙◌, subst}
use mathlib.Core.Bool.{Bool, true, false}
use mathlib.Core.List.{List, [], ◌∷◌}
use Prim.Native.Nat.{ℕ, ◌+◌, ◌-◌, ◌≤◌, ◌<◌}
use native.Mathlib.Omega.{arith}
use native.Mathlib.Numerals.{add-one}
use native.Mathlib.Decide.{ℕ_discrete}
use mathlib.Core.Logic.{◌⊎◌, inl, inr}
use Rattle.std.proofs.lemmas.Bool.{cases_lt}
use Rattle.std.proofs.lemmas.List.Sums.{position_or_len_is}
use lib.Dec.{ltb}
use lib.ListN.{length, get_or, take, drop, length-drop}
use Rattle.std.proofs.lemmas.List.{take_all}
use lib.Seq.{take-length, get_or-take, length-take-le}
use borrow.Author.Tests.{lt-ltb, ltb-true, ltb-false, le-ltb, eq-eqb, ne_eqb}
use Rattle.std.specs.Prelude.{None, Some, position}
use Rattle.std.specs.List.{IsAllAdjacentAnswer, position_or_len}
use Rattle.std.specs.List.Sorted.{IsPartitionedBy, IsPartitionPoint}
use Rattle.lists.specs.Tests.{◌and◌}
use Rattle.lists.specs.Lists.{all, Mem, ascending}
use Rattle.lists.specs.Below.{all_below}
use Rattle.lists.proofs.Tests.{and_i, →no}
use Rattle.lists.proofs.Places.{mem_at, at_mem, ascending_at, ascending_yes, all_first}
use Rattle.rules.specs.Code.{keyed}

last_one : (n : ℕ) (f : ℕ → Bool) → all_below (n + 1) f ≡ (all_below n f and f n)
unfolding all_below
last_one n f = rw add-one refl

pub one_more : (i : ℕ) (f : ℕ → Bool) → all_below i f ≡ true → f i ≡ true → all_below (i + 1) f ≡ true
one_more i f a b = last_one i f ∙ and_i (all_below i f) (f i) a b

module _ {A : Type 0} where
  pub all_more : (p : A → Bool) (l : List A) (i : ℕ) (x : A) → i < length l → x ≡ get_or l i x → all p (take (i + 1) l) ≡ (all p (take i l) and p x)
  all_more p l i x h e =
      all_first p l (i + 1) x (omega arith)
      ∙ last_one i (λ j. p (get_or l j x))
      ∙ (λ z. sym (all_first p l i x (omega arith)) z and p (sym e z))

  -- the places past a count
  pub rest_all : (p : A → Bool) (l : List A) (n : ℕ) → all p (take (length l - n) (drop n l)) ≡ all p (drop n l)
  rest_all p l n = ap (all p) (take_all (length l - n) (drop n l) (omega (arith, length-drop n l)))

  pub mem_more : (l : List A) (i : ℕ) (d : A) → i < length l → {y : A} → Mem y (take (i + 1) l) → Mem y (take i l) ⊎ (y ≡ get_or l i d)
  mem_more l i d h {y} m =
      let w = at_mem d m in
      let b : w.0 < i + 1 = omega (arith, w.1, length-take-le (i + 1) l (omega arith)) in
      elim (ℕ_discrete w.0 i) [
        | yes e ↦ inr (sym w.2 ∙ get_or-take (i + 1) l w.0 d b ∙ ap (λ (j : ℕ). get_or l j d) e)
        | no e ↦
            let c : w.0 < i = omega arith in
            inl (subst (λ (z : A). Mem z (take i l)) (get_or-take i l w.0 d c ∙ sym (get_or-take (i + 1) l w.0 d b) ∙ w.2) (mem_at (take i l) w.0 d (omega (arith, length-take-le i l (omega arith)))))
      ]

  pub rising_law : (k : A → ℕ) (l : List A) (r : Bool) → IsAllAdjacentAnswer (λ x y b. b ≡ ltb (k x) (k y)) l r → r ≡ ascending k l
  rising_law k [] true w = refl
  rising_law k [] false w = absurd (omega (arith, w.1))
  rising_law k (x ∷ xs) true w = sym (ap (ascending k) (sym (take-length (x ∷ xs))) ∙ ascending_yes k (x ∷ xs) (length (x ∷ xs)) x (omega arith) (λ j g. ltb-true _ _ (sym (w j x g))))
  rising_law k (x ∷ xs) false w = sym (→no (ascending k (x ∷ xs)) (λ t. omega (arith, ascending_at k 0 (x ∷ xs) x t w.0 (w.0 + 1) (omega arith) w.1, ltb-false _ _ (sym (w.2 x)))))

  -- ---- where a row with a key is
  module _ (k : A → ℕ) (v : ℕ) (l : List A) where
    pub place_is : (i : ℕ) (d : A) → i ≤ length l → ((j : ℕ) → j < i → k (get_or l j d) < v) → (i < length l → k (get_or l i d) ≡ v) → position_or_len (keyed k v) l ≡ i
    place_is i d h low e = position_or_len_is (keyed k v) l i d h (λ j g. ne_eqb _ _ (λ q. omega (arith, low j g))) (λ g. eq-eqb _ _ (e g))

    pub place_some : (i : ℕ) (d : A) → i < length l → ((j : ℕ) → j < i → k (get_or l j d) < v) → k (get_or l i d) ≡ v → Some i ≡ position (keyed k v) l
    place_some i d h low e = let q = place_is i d (omega arith) low (λ g. e) in rw (q, lt-ltb i (length l) h) refl

    pub place_nowhere : (d : A) → ((i : ℕ) → i < length l → k (get_or l i d) ≡ v → ⊥) → None ≡ position (keyed k v) l
    place_nowhere d n =
        let q = position_or_len_is (keyed k v) l (length l) d (omega arith) (λ j g. ne_eqb _ _ (n j g)) (λ g. absurd (omega arith)) in
        rw (q, le-ltb (length l) (length l) (omega arith)) refl

    module _ (s : ascending k l ≡ true) (i : ℕ) (d : A) (h : i < length l) where
      -- an ascending list has it once
      pub place_at : k (get_or l i d) ≡ v → Some i ≡ position (keyed k v) l
      place_at e = place_some i d h (λ j g. omega (arith, e, ascending_at k 0 l d s j i g h)) e

      -- and nowhere where the first that is not below v is another
      pub place_none : ((j : ℕ) → j < i → k (get_or l j d) < v) → v ≤ k (get_or l i d) → (k (get_or l i d) ≡ v → ⊥) → None ≡ position (keyed k v) l
      place_none low high n = place_nowhere d apart
        where
          apart : (j : ℕ) → j < length l → k (get_or l j d) ≡ v → ⊥
          apart j g e = elim (cases_lt j i) [
            | inl u ↦ omega (arith, low j u, e)
            | inr u ↦ elim (ℕ_discrete j i) [ yes q ↦ n (ap (λ (m : ℕ). k (get_or l m d)) (sym q) ∙ e) | no q ↦ omega (arith, e, high, ascending_at k 0 l d s i j (omega arith) g) ]
          ]

  pub place_past : (k : A → ℕ) (v : ℕ) (l : List A) (i : ℕ) → length l ≤ i → ((j : ℕ) (d : A) → j < i → k (get_or l j d) < v) → None ≡ position (keyed k v) l
  place_past k v [] i h low = refl
  place_past k v (x ∷ xs) i h low = place_nowhere k v (x ∷ xs) x (λ j g e. omega (arith, low j x (omega arith), e))

  pub parted : (k : A → ℕ) (v : ℕ) (l : List A) → ascending k l ≡ true → IsPartitionedBy (λ x. ltb (k x) v) l
  parted k v l s i j d h g t = elim (ℕ_discrete i j) [
    | yes e ↦ ap (λ (m : ℕ). ltb (k (get_or l m d)) v) e ∙ t
    | no e ↦ lt-ltb _ _ (omega (arith, ascending_at k 0 l d s i j (omega arith) g, ltb-true _ _ t))
  ]

  -- ---- the search by halving: before i the keys are below v, from there on they aren't
  module _ (k : A → ℕ) (v : ℕ) (l : List A) (i : ℕ) (w : IsPartitionPoint (λ x. ltb (k x) v ≡ true) (λ x. ltb (k x) v ≡ false) l i) where
    pub halved_some : (d : A) → i < length l → k (get_or l i d) ≡ v → Some i ≡ position (keyed k v) l
    halved_some d h e = place_some k v l i d h (λ j g. ltb-true _ _ (w.0 j d (omega arith) g)) e

    pub halved_none : ascending k l ≡ true → (d : A) → i < length l → (k (get_or l i d) ≡ v → ⊥) → None ≡ position (keyed k v) l
    halved_none s d h n = place_none k v l s i d h (λ j g. ltb-true _ _ (w.0 j d (omega arith) g)) (ltb-false _ _ (w.1 i d (omega arith) h)) n

    pub halved_past : length l ≤ i → None ≡ position (keyed k v) l
    halved_past h = place_past k v l i h (λ j d g. ltb-true _ _ (w.0 j d (omega arith) g))
