-- A list written over the first places of an array, element by element, while later places of the same array are read.
-- Assumes nothing.
use mathlib.Core.Path.{◌≡◌, sym, ap, ◌∙◌}
use mathlib.Core.List.{List, [], ◌∷◌, ◌++◌, append_assoc, append-nil}
use Prim.Native.Nat.{ℕ, suc, ◌+◌, ◌-◌, ◌≤◌, ◌<◌}
use native.Mathlib.Numerals.{add-one}
use native.Mathlib.Omega.{arith}
use lib.ListN.{length, get_or, set, take, drop, replicate, take-append-drop, length-append, length-take, length-drop, length-replicate, replicate-append-replicate}
use lib.Seq.{drop-cons, drop-length, set_at, take_at, get_or-append-add, get_or-drop, length-take-le}
use Rattle.lists.specs.Places.{in_places}

module _ {A : Type 0} where
  abbrev pub over : List A → List A → List A
  over f a = f ++ drop (length f) a

  -- what is past the list is the array's
  pub over_read : (f a : List A) (k : ℕ) (d : A) → length f ≤ k → get_or (over f a) k d ≡ get_or a k d
  over_read f a k d h =
      let e : k ≡ length f + (k - length f) = omega arith in
      ap (λ (n : ℕ). get_or (over f a) n d) e ∙ get_or-append-add f (drop (length f) a) (k - length f) d ∙ get_or-drop (length f) a (k - length f) d ∙ ap (λ (n : ℕ). get_or a n d) (sym e)

  pub over_push : (f a : List A) (x d : A) (w : ℕ) → w ≡ length f → w < length a → set (over f a) w x ≡ over (f ++ (x ∷ [])) a
  over_push f a x d w e h =
      let g : length f < length a = omega arith in
      let m : length (f ++ (x ∷ [])) ≡ suc (length f) = length-append f (x ∷ []) ∙ add-one (length f) in
      ap (λ (t : List A). set (f ++ t) w x) (drop-cons a (length f) d g) ∙ set_at f (get_or a (length f) d) (drop (suc (length f)) a) x w (sym e)
      ∙ sym (append_assoc f (x ∷ []) (drop (suc (length f)) a)) ∙ ap (λ (n : ℕ). (f ++ (x ∷ [])) ++ drop n a) (sym m)

  -- ---- one turn of closing up: the next place takes the element of a place k that is no earlier
  pub taken_down : (f g m out : List A) (d : A) (w k : ℕ) → out ≡ over f m → w ≡ length f → w ≤ k → w < length m → g ≡ f ++ (get_or m k d ∷ []) → set out w (get_or out k d) ≡ over g m
  taken_down f g m out d w k e n h l q =
      ap (λ (t : List A). set t w (get_or out k d)) e ∙ ap (λ (x : A). set (over f m) w x) (ap (λ (t : List A). get_or t k d) e ∙ over_read f m k d (omega arith))
      ∙ over_push f m (get_or m k d) d w n l ∙ ap (λ (t : List A). over t m) (sym q)

  pub over_long : (f l m : List A) (k : ℕ) → m ≡ over f l → length l ≡ k → length f ≤ k → length m ≡ k
  over_long f l m k e w h = ap length e ∙ omega (arith, length-append f (drop (length f) l), length-drop (length f) l)

  -- ---- the places from n on blanked, one by one
  module _ (m : List A) (b : A) (n : ℕ) where
    -- blanks after the first n, up to place i
    abbrev blanked : ℕ → List A
    blanked i = in_places i b (take n m)

    blanked_long : (i : ℕ) → n ≤ i → length (blanked i) ≡ i
    blanked_long i h = omega (arith, length-append (take n m) (replicate (i - length (take n m)) b), length-replicate (i - length (take n m)) b, length-take n m)

    pub blanking_start : (i : ℕ) → i ≡ n → n ≤ length m → m ≡ over (in_places i b (take n m)) m
    blanking_start i e h =
        let k : length (take n m) ≡ n = length-take-le n m h in
        let z : n - length (take n m) ≡ 0 = omega arith in
        let p : blanked n ≡ take n m = ap (λ (j : ℕ). take n m ++ replicate j b) z ∙ append-nil (take n m) in
        sym (ap (λ (j : ℕ). over (blanked j) m) e ∙ ap (λ (t : List A). over t m) p ∙ ap (λ (j : ℕ). take n m ++ drop j m) k ∙ take-append-drop n m)

    pub blanking_step : (out : List A) (i : ℕ) → out ≡ over (in_places i b (take n m)) m → n ≤ i → i < length m → set out i b ≡ over (in_places (i + 1) b (take n m)) m
    blanking_step out i e h g = ap (λ (t : List A). set t i b) e ∙ over_push (blanked i) m b b i (sym (blanked_long i h)) g ∙ ap (λ (t : List A). over t m) one_more
      where
        one_more : blanked i ++ (b ∷ []) ≡ blanked (i + 1)
        one_more =
            let l : length (take n m) ≤ i = omega (arith, length-take n m) in
            let e : i - length (take n m) + 1 ≡ i + 1 - length (take n m) = omega arith in
            append_assoc (take n m) (replicate (i - length (take n m)) b) (b ∷ [])
            ∙ ap (λ (t : List A). take n m ++ t) (replicate-append-replicate (i - length (take n m)) 1 b ∙ ap (λ (k : ℕ). replicate k b) e)

    blanking_end : (out : List A) (i : ℕ) → out ≡ over (in_places i b (take n m)) m → i ≡ length m → n ≤ i → out ≡ in_places i b (take n m)
    blanking_end out i e q h =
        e ∙ ap (λ (j : ℕ). blanked i ++ drop j m) (blanked_long i h ∙ q) ∙ ap (λ (t : List A). blanked i ++ t) (drop-length m) ∙ append-nil (blanked i)

  -- a list over an array, then blanks: the list in its places
  pub closed_end : (f l m out : List A) (b d : A) (n i k : ℕ) → m ≡ over f l → length f ≡ n → length m ≡ k → i ≡ k → n ≤ i → b ≡ d → out ≡ over (in_places i b (take n m)) m → out ≡ in_places k d f
  closed_end f l m out b d n i k e h w q g z o =
      blanking_end m b n out i o (q ∙ sym w) g
      ∙ ap (λ (j : ℕ). in_places j b (take n m)) q ∙ ap (λ (x : A). in_places k x (take n m)) z ∙ ap (λ (t : List A). in_places k d t) (ap (take n) e ∙ take_at f (drop (length f) l) n h)
