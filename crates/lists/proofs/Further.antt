-- Further laws of lists: changes before and after an insertion, tests one after the other, keys that occur once.
-- Assumes nothing.
use mathlib.Core.Path.{◌≡◌, refl, ap}
use mathlib.Core.Bool.{Bool, true, false, cond}
use mathlib.Core.List.Memᴰ
use mathlib.Core.List.{List, [], ◌∷◌, ◌++◌, map}
use mathlib.Core.Logic.{inl, inr}
use Prim.Native.Nat.{ℕ, suc}
use native.Mathlib.Omega.{arith}
use lib.Dec.{ltb}
use Rattle.lists.specs.Tests.{◌and◌, Yes}
use Rattle.lists.specs.Lists.{filter, Mem, Fresh, from, insert_by}
use Rattle.lists.proofs.Lists.{from→, rest}

module _ {A : Type 0} (k : A → ℕ) where
  -- what changes no key may be done before an insertion or after it
  pub insert_map : (g : A → A) → ((a : A) → k (g a) ≡ k a) → (x : A) → g x ≡ x → (l : List A) → insert_by k x (map g l) ≡ map g (insert_by k x l)
  insert_map g h x e [] = rw e
  insert_map g h x e (y ∷ ys) = rw (h y) (go (ltb (k x) (k y)) (insert_map g h x e ys))
    where
      go : (b : Bool) → insert_by k x (map g ys) ≡ map g (insert_by k x ys) → cond b (x ∷ (g y ∷ map g ys)) (g y ∷ insert_by k x (map g ys)) ≡ map g (cond b (x ∷ (y ∷ ys)) (y ∷ insert_by k x ys))
      go true ih = rw e
      go false ih = ap (λ (t : List A). g y ∷ t) ih

  -- in an ascending list no key stands twice
  pub fresh_from : (b : ℕ) (l : List A) → Yes (from k b l) → Fresh (map k l)
  fresh_from b [] t = tt
  fresh_from b (x ∷ xs) t =
      let r = rest k b x xs t in
      (λ u. let w = Memᴰ.of_map k xs u in omega (arith, from→ k (suc (k x)) r w.1, w.2), fresh_from (suc (k x)) xs r)

-- ---- tests one after the other
module _ {A : Type 0} where
  pub filter_filter : (p q : A → Bool) (l : List A) → filter p (filter q l) ≡ filter (λ a. q a and p a) l
  unfolding ◌and◌
  filter_filter p q [] = refl
  filter_filter p q (x ∷ xs) = go (q x) (filter_filter p q xs)
    where
      go : (b : Bool) → filter p (filter q xs) ≡ filter (λ a. q a and p a) xs → filter p (cond b (x ∷ filter q xs) (filter q xs)) ≡ cond (b and p x) (x ∷ filter (λ a. q a and p a) xs) (filter (λ a. q a and p a) xs)
      go true ih = rw ih
      go false ih = ih

  pub filter_agree : (p q : A → Bool) (l : List A) → ((a : A) → p a ≡ q a) → filter p l ≡ filter q l
  filter_agree p q [] f = refl
  filter_agree p q (x ∷ xs) f = rw (f x, filter_agree p q xs f)

  -- a test that a change leaves may be made before it
  pub filter_map : {B : Type 0} (p : B → Bool) (g : A → B) (l : List A) → filter p (map g l) ≡ map g (filter (λ a. p (g a)) l)
  filter_map p g [] = refl
  filter_map {B} p g (x ∷ xs) = go (p (g x)) (filter_map p g xs)
    where
      go : (b : Bool) → filter p (map g xs) ≡ map g (filter (λ a. p (g a)) xs) → cond b (g x ∷ filter p (map g xs)) (filter p (map g xs)) ≡ map g (cond b (x ∷ filter (λ a. p (g a)) xs) (filter (λ a. p (g a)) xs))
      go true ih = ap (λ (t : List B). g x ∷ t) ih
      go false ih = ih

-- ---- no number twice in two lists that share none
pub fresh_append : (s t : List ℕ) → Fresh s → Fresh t → ((n : ℕ) → Mem n s → Mem n t → ⊥) → Fresh (s ++ t)
fresh_append [] t f g h = g
fresh_append (x ∷ xs) t f g h = (
  λ u. elim (Memᴰ.append_cases xs u) [ inl v ↦ f.0 v | inr v ↦ h x (Memᴰ.head refl) v ],
  fresh_append xs t f.1 g (λ n u. h n (Memᴰ.tail u)),
)
