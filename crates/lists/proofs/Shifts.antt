-- Elements of an array moved one place up or down, as a loop does it, and what comes out.
--     shifted_up a j n      of n used places, those from j on are one place up; place j is still as it was
--     shifted_down a i j    the places past i up to j are one place down
-- Assumes nothing.
use mathlib.Core.Path.{◌≡◌, refl, sym, ap, ◌∙◌}
use mathlib.Core.List.{List, [], ◌∷◌, ◌++◌, append_assoc}
use Prim.Native.Nat.{ℕ, zero, suc, ◌+◌, ◌-◌, ◌≤◌, ◌<◌}
use native.Mathlib.Numerals.{add-one}
use native.Mathlib.Omega.{arith}
use lib.ListN.{length, get_or, set, take, drop, replicate, take-append-drop, length-append, length-take, length-drop, get_or-append}
use lib.Seq.{slice, take-take, slice_empty, set_at, get_or-take, drop-append-add, length-take-le}
use Rattle.lists.specs.Places.{opened, in_places, leading}
use Rattle.lists.specs.Tests.{non}
use Rattle.lists.specs.Lists.{insert_by}
use mathlib.Core.Bool.{Bool, true, false, cond}
use lib.Dec.{ltb}
use Prim.Native.Nat.{zero-le, suc-le-suc}
use Rattle.lists.proofs.Loops.{rest_step, more}

module _ {A : Type 0} where
  -- a store at the last element of the first part
  pub set_last : (p r : List A) (y v : A) (n : ℕ) → length p ≡ n → set ((p ++ (y ∷ [])) ++ r) n v ≡ p ++ v ∷ r
  set_last p r y v n e = rw (append_assoc p (y ∷ []) r) (set_at p y r v n e)

  -- ---- up
  abbrev pub shifted_up : List A → ℕ → ℕ → List A
  shifted_up a j n = take (j + 1) a ++ (slice j n a ++ drop (n + 1) a)

  pub up_start : (a : List A) (n : ℕ) → a ≡ shifted_up a n n
  up_start a n = rw (slice_empty n a) (sym (take-append-drop (n + 1) a))

  pub up_step : (a : List A) (i j n : ℕ) (d : A) → j ≡ i + 1 → i < n → n < length a → set (shifted_up a j n) j (get_or (shifted_up a j n) i d) ≡ shifted_up a i n
  up_step a i j n d e h k = rw e (at_next)
    where
      tail : List A
      tail = slice (i + 1) n a ++ drop (n + 1) a

      in_a : i + 1 < length a
      in_a = omega arith

      read : get_or (shifted_up a (i + 1) n) i d ≡ get_or a i d
      read = get_or-append (take (i + 1 + 1) a) tail d i (simp length-take (omega arith)) ∙ get_or-take (i + 1 + 1) a i d (omega arith)

      at_next : set (shifted_up a (i + 1) n) (i + 1) (get_or (shifted_up a (i + 1) n) i d) ≡ shifted_up a i n
      at_next =
          rw (read, more a (i + 1) d in_a, rest_step a n i d h (omega arith))
          (set_last (take (i + 1) a) tail (get_or a (i + 1) d) (get_or a i d) (i + 1) (length-take-le (i + 1) a (omega arith)))

  pub up_end : (a : List A) (k n : ℕ) (x d : A) → k ≤ n → n < length a → set (shifted_up a k n) k x ≡ opened a k n x
  up_end a k n x d h l =
      let e : k < length a = omega arith in
      rw (more a k d e) (set_last (take k a) (slice k n a ++ drop (n + 1) a) (get_or a k d) x k (length-take-le k a (omega arith)))

  -- ---- in an array with blanks after the list
  blanks_after : (l : List A) (n m : ℕ) (b : A) → length l ≡ n → drop (n + 1) (in_places m b l) ≡ replicate (m - (n + 1)) b
  blanks_after l n m b e =
      rw (← e) (drop-append-add l (replicate (m - length l) b) 1 ∙ less (m - length l) (m - (length l + 1)) (omega arith))
    where
      less : (k j : ℕ) → j ≡ k - 1 → drop 1 (replicate k b) ≡ replicate j b
      less zero j q = let z : j ≡ 0 = omega arith in rw z
      less (suc k) j q = let z : j ≡ k = omega arith in rw z

  pub opened_in : (a : List A) (k n m : ℕ) (x b : A) → in_places m b (take n a) ≡ a → k ≤ n → n < m → n ≤ length a → opened a k n x ≡ in_places m b (take k (take n a) ++ x ∷ drop k (take n a))
  opened_in a k n m x b e h l w =
      rw (← (take-take k n a h), append_assoc (take k (take n a)) (x ∷ drop k (take n a)) (replicate (m - length (take k (take n a) ++ x ∷ drop k (take n a))) b))
      (ap (λ (t : List A). take k (take n a) ++ x ∷ (drop k (take n a) ++ t)) (after ∙ ap (λ (j : ℕ). replicate (m - j) b) (sym long)))
    where
      after : drop (n + 1) a ≡ replicate (m - (n + 1)) b
      after = ap (drop (n + 1)) (sym e) ∙ blanks_after (take n a) n m b (length-take-le n a w)

      long : length (take k (take n a) ++ x ∷ drop k (take n a)) ≡ n + 1
      long = length-append (take k (take n a)) (x ∷ drop k (take n a)) ∙ simp (length-take, length-drop) (omega arith)

  -- ---- insertion in order of a key
  module _ (k : A → ℕ) (v : ℕ) where
    abbrev pub passed : A → Bool
    passed y = non (ltb v (k y))

    pub pass_stop : (l : List A) (n i : ℕ) (d : A) → i < n → n ≤ length l → ltb v (k (get_or l i d)) ≡ true → leading passed (slice i n l) i ≡ i
    unfolding leading non
    pass_stop l n i d h g e = rw (rest_step l n i d h g, e)

    pub pass_next : (l : List A) (n i : ℕ) (d : A) → i < n → n ≤ length l → ltb v (k (get_or l i d)) ≡ false → leading passed (slice i n l) i ≡ leading passed (slice (i + 1) n l) (i + 1)
    unfolding leading non
    pass_next l n i d h g e = rw (rest_step l n i d h g, e)

    pub pass_end : (l : List A) (n i : ℕ) → i ≤ n → n ≤ i → leading passed (slice i n l) i ≡ n
    unfolding leading
    pass_end l n i h g = let e : i ≡ n = omega arith in rw (e, slice_empty n l)

    lead_from : (l : List A) (j : ℕ) → leading passed l (j + 1) ≡ suc (leading passed l j)
    unfolding leading
    lead_from [] j = add-one j
    lead_from (y ∷ ys) j =
        elim (passed y) as (λ b. cond b (leading passed ys (j + 1 + 1)) (j + 1) ≡ suc (cond b (leading passed ys (j + 1)) j)) [ true ↦ lead_from ys (j + 1) | false ↦ add-one j ]

    pub lead_le : (l : List A) → leading passed l 0 ≤ length l
    unfolding leading
    lead_le [] = zero-le
    lead_le (y ∷ ys) =
        elim (passed y) as (λ b. cond b (leading passed ys (0 + 1)) 0 ≤ suc (length ys)) [ true ↦ rw (lead_from ys 0) (suc-le-suc (lead_le ys)) | false ↦ zero-le ]

  module _ (k : A → ℕ) where
    pub insert_split : (x : A) (l : List A) → insert_by k x l ≡ take (leading (passed k (k x)) l 0) l ++ x ∷ drop (leading (passed k (k x)) l 0) l
    unfolding leading non
    insert_split x [] = refl
    insert_split x (y ∷ ys) = go (ltb (k x) (k y)) (insert_split x ys)
      where
        go : (b : Bool) → insert_by k x ys ≡ take (leading (passed k (k x)) ys 0) ys ++ x ∷ drop (leading (passed k (k x)) ys 0) ys → cond b (x ∷ (y ∷ ys)) (y ∷ insert_by k x ys) ≡ take (cond (non b) (leading (passed k (k x)) ys (0 + 1)) 0) (y ∷ ys) ++ x ∷ drop (cond (non b) (leading (passed k (k x)) ys (0 + 1)) 0) (y ∷ ys)
        go true ih = refl
        go false ih = rw (lead_from k (k x) ys 0) (ap (λ (t : List A). y ∷ t) ih)
