-- Laws for loops that count i up to n over the first places of an array.
-- Assumes nothing.
use mathlib.Core.Bool.{Bool, true, false, cond}
use mathlib.Core.List.{List, [], ◌∷◌, ◌++◌, map, append_assoc, append-nil}
use Rattle.std.specs.Prelude.{None, Some}
use mathlib.Core.Path.{◌≡◌, refl, sym, ap, ◌∙◌}
use Prim.Native.Nat.{ℕ, suc, ◌+◌, ◌-◌, ◌≤◌, ◌<◌}
use native.Mathlib.Numerals.{add-one}
use native.Mathlib.Omega.{arith}
use lib.ListN.{length, get_or, set, take, replicate, length-append, length-map}
use lib.Seq.{slice, slice-cons, slice_empty, set_at, take_at, take-suc}
use Rattle.lists.specs.Tests.{non}
use Rattle.lists.specs.Lists.{any, filter, find}
use Rattle.lists.proofs.Tests.{or_t, or_f, or_no}
use Rattle.lists.specs.Places.{in_places, Holds}

-- an array of structs in a struct has its length from what owning it tells, which speaks of the list mapped
pub length_of_mapped : (X Y : Type 0) (f : X → Y) (l : List X) (n : ℕ) → length (map f l) ≡ n → length l ≡ n
length_of_mapped X Y f l n e = sym (length-map l f) ∙ e

module _ {A : Type 0} where
  -- the part from i on, one element taken off, in the code's `i + 1`
  pub rest_step : (l : List A) (n i : ℕ) (d : A) → i < n → n ≤ length l → slice i n l ≡ get_or l i d ∷ slice (i + 1) n l
  rest_step l n i d h k = rw (add-one i, slice-cons i n l d h k)

  pub more : (l : List A) (j : ℕ) (d : A) → j < length l → take (j + 1) l ≡ take j l ++ (get_or l j d ∷ [])
  more l j d h = rw (add-one, take-suc l j d)

  pub front : (l r : List A) → take (length l) (l ++ r) ≡ l
  front l r = take_at l r (length l) refl

  -- one more in an array with room
  pub push_in : (l : List A) (m w : ℕ) (x b : A) → w ≡ length l → w < m → set (in_places m b l) w x ≡ in_places m b (l ++ (x ∷ []))
  push_in l m w x b e h =
      let q : m - length l ≡ suc (m - length (l ++ (x ∷ []))) = omega (arith, length-append l (x ∷ [])) in
      rw q (set_at l b (replicate (m - length (l ++ (x ∷ []))) b) x w (sym e) ∙ sym (append_assoc l (x ∷ []) (replicate (m - length (l ++ (x ∷ []))) b)))

  pub length_more : (l : List A) (w : ℕ) (x : A) → w ≡ length l → w + 1 ≡ length (l ++ (x ∷ []))
  length_more l w x e = omega (arith, length-append l (x ∷ []))

  -- ---- what a test keeps
  module _ (p : A → Bool) where
    filter_append : (s t : List A) → filter p (s ++ t) ≡ filter p s ++ filter p t
    filter_append [] t = refl
    filter_append (x ∷ xs) t =
        elim (p x) as (λ b. cond b (x ∷ filter p (xs ++ t)) (filter p (xs ++ t)) ≡ cond b (x ∷ filter p xs) (filter p xs) ++ filter p t) [ true ↦ ap (λ (l : List A). x ∷ l) (filter_append xs t) | false ↦ filter_append xs t ]

    pub keep_yes : (l : List A) (i : ℕ) (d : A) → i < length l → p (get_or l i d) ≡ true → filter p (take (i + 1) l) ≡ filter p (take i l) ++ (get_or l i d ∷ [])
    keep_yes l i d h e = rw (more l i d h, filter_append (take i l) (get_or l i d ∷ []), e)

    pub keep_no : (l : List A) (i : ℕ) (d : A) → i < length l → p (get_or l i d) ≡ false → filter p (take (i + 1) l) ≡ filter p (take i l)
    keep_no l i d h e = rw (more l i d h, filter_append (take i l) (get_or l i d ∷ []), e) (append-nil _)

  pub filter_split : (p : A → Bool) (l : List A) → length (filter p l) + length (filter (λ a. non (p a)) l) ≡ length l
  unfolding non
  filter_split p [] = refl
  filter_split p (x ∷ xs) =
      let h = filter_split p xs in
      elim (p x) as (λ b. length (cond b (x ∷ filter p xs) (filter p xs)) + length (cond (non b) (x ∷ filter (λ a. non (p a)) xs) (filter (λ a. non (p a)) xs)) ≡ suc (length xs)) [ true ↦ omega arith | false ↦ omega arith ]

  -- ---- a search
  module _ (p : A → Bool) where
    pub any_yes : (l : List A) (n i : ℕ) (d : A) → i < n → n ≤ length l → p (get_or l i d) ≡ true → any p (slice i n l) ≡ true
    any_yes l n i d h k e = rw (rest_step l n i d h k) (or_t _ _ e)

    pub any_no : (l : List A) (n i : ℕ) (d : A) → i < n → n ≤ length l → p (get_or l i d) ≡ false → any p (slice i n l) ≡ any p (slice (i + 1) n l)
    any_no l n i d h k e = rw (rest_step l n i d h k) (or_f _ _ e)

    pub any_end : (l : List A) (n i : ℕ) → i ≤ n → n ≤ i → any p (slice i n l) ≡ false
    any_end l n i h k = let e : i ≡ n = omega arith in rw (e, slice_empty n l)

    pub find_yes : (l : List A) (n i : ℕ) (d : A) → i < n → n ≤ length l → p (get_or l i d) ≡ true → find p (slice i n l) ≡ Some (get_or l i d)
    find_yes l n i d h k e = rw (rest_step l n i d h k, e)

    pub find_no : (l : List A) (n i : ℕ) (d : A) → i < n → n ≤ length l → p (get_or l i d) ≡ false → find p (slice i n l) ≡ find p (slice (i + 1) n l)
    find_no l n i d h k e = rw (rest_step l n i d h k, e)

    pub find_end : (l : List A) (n i : ℕ) → i ≤ n → n ≤ i → find p (slice i n l) ≡ None
    find_end l n i h k = let e : i ≡ n = omega arith in rw (e, slice_empty n l)

  map-append : {B : Type 0} (f : A → B) (s t : List A) → map f (s ++ t) ≡ map f s ++ map f t
  map-append f [] t = refl
  map-append f (x ∷ xs) t = rw (map-append f xs t)

  pub map_more : {B : Type 0} (f : A → B) (s : List A) (x : A) → map f (s ++ (x ∷ [])) ≡ map f s ++ (f x ∷ [])
  map_more f s x = map-append f s (x ∷ [])

-- ---- an array that a loop appends to
module _ {A : Type 0} where
  pub push : (n : ℕ) (b : A) (l l' out : List A) (w : ℕ) (x : A) → Holds n b l out w → w < n → l' ≡ l ++ (x ∷ []) → Holds n b l' (set out w x) (w + 1)
  push n b l l' out w x h k e = (rw (h.0, e) (push_in l n w x b h.1 k), rw e (length_more l w x h.1))

  pub stay : (n : ℕ) (b : A) (l l' out : List A) (w : ℕ) → Holds n b l out w → l' ≡ l → Holds n b l' out w
  stay n b l l' out w h e = rw e h

  module _ {B : Type 0} (f : A → B) (p : A → Bool) where
    pub sift_yes : (l : List A) (i : ℕ) (d : A) → i < length l → p (get_or l i d) ≡ true → map f (filter p (take (i + 1) l)) ≡ map f (filter p (take i l)) ++ (f (get_or l i d) ∷ [])
    sift_yes l i d h e = rw (keep_yes p l i d h e) (map_more f (filter p (take i l)) (get_or l i d))

    pub sift_no : (l : List A) (i : ℕ) (d : A) → i < length l → p (get_or l i d) ≡ false → map f (filter p (take (i + 1) l)) ≡ map f (filter p (take i l))
    sift_no l i d h e = rw (keep_no p l i d h e)

-- one more copied
pub copy_more : {A B : Type 0} (f : A → B) (n : ℕ) (b : B) (l : List A) (out : List B) (i : ℕ) (d : A) (x : B) → Holds n b (map f (take i l)) out i → i < n → i < length l → x ≡ f (get_or l i d) → Holds n b (map f (take (i + 1) l)) (set out i x) (i + 1)
copy_more f n b l out i d x h k j e = push n b (map f (take i l)) (map f (take (i + 1) l)) out i x h k (rw (more l i d j, e) (map_more f (take i l) (get_or l i d)))

pub copy_same : {A : Type 0} (n : ℕ) (b : A) (l out : List A) (i : ℕ) (d : A) → Holds n b (take i l) out i → i < n → i < length l → Holds n b (take (i + 1) l) (set out i (get_or l i d)) (i + 1)
copy_same n b l out i d h k j = push n b (take i l) (take (i + 1) l) out i (get_or l i d) h k (more l i d j)

-- ---- a test that nothing passes
module _ {A : Type 0} (p : A → Bool) where
  pub filter_none : (l : List A) → any p l ≡ false → filter p l ≡ []
  filter_none [] e = refl
  filter_none (x ∷ xs) e = let w = or_no (p x) (any p xs) e in rw w.0 (filter_none xs w.1)
