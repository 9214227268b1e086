-- What comes is put to its place in an order: where it comes, and the list then.
-- Assumes nothing.
use mathlib.Core.Bool.{Bool, true, false, cond, not}
use mathlib.Core.List.{List, [], ◌∷◌, ◌++◌, append_assoc, append-nil}
use mathlib.Core.Path.{◌≡◌, refl, sym, ap, subst, ◌∙◌}
use Prim.Native.Nat.{ℕ, suc, ◌+◌, ◌-◌, ◌≤◌, ◌<◌}
use native.Mathlib.Numerals.{add-one}
use native.Mathlib.Omega.{arith}
use lib.Dec.{ltb}
use borrow.Author.Tests.{lt-ltb, le-ltb}
use native.Mathlib.Decide.{ℕ_discrete}
use lib.ListN.{length, get_or, set, take, drop, replicate, length-append, length-drop, length-take, length-replicate}
use lib.Seq.{set_at, take_at, drop_at, take-take, take-length, length-take-le, drop-append-add}
use Rattle.std.specs.Option.{unwrap_or}
use Rattle.std.specs.List.{position, position_or_len, prefix_len}
use Rattle.std.proofs.lemmas.List.Sums.{prefix_len-le-length}
use Rattle.std.proofs.lemmas.List.{take-append-le, drop-append-le, drop_all, drop-replicate}
use Rattle.lists.proofs.Loops.{more}
use Rattle.lists.specs.Lists.{insert_by}
use Rattle.lists.specs.Places.{in_places}
use Rattle.lists.proofs.Lists.{length_insert}

module _ {A : Type 0} where
  -- the first that passes, or none: the place of all that come before it
  pub place_or_end : (p : A → Bool) (l : List A) → unwrap_or (position p l) (length l) ≡ position_or_len p l
  place_or_end p l = elim (ℕ_discrete (position_or_len p l) (length l)) [
    | yes e ↦ rw (le-ltb (position_or_len p l) (length l) (omega arith)) (sym e)
    | no n ↦ rw (lt-ltb (position_or_len p l) (length l) (omega (arith, prefix_len-le-length (λ x. not (p x)) l)))
  ]

  module _ (k : A → ℕ) where
    abbrev pub place_for : A → List A → ℕ
    place_for x l = position_or_len (λ y. ltb (k x) (k y)) l

    pub place_for-le : (x : A) (l : List A) → place_for x l ≤ length l
    place_for-le x l = prefix_len-le-length (λ y. not (ltb (k x) (k y))) l

    -- the order's insertion is at that place
    insert_at : (x : A) (l : List A) → insert_by k x l ≡ take (place_for x l) l ++ x ∷ drop (place_for x l) l
    insert_at x [] = refl
    insert_at x (y ∷ ys) = go (ltb (k x) (k y)) (insert_at x ys)
      where
        go : (b : Bool) → insert_by k x ys ≡ take (place_for x ys) ys ++ x ∷ drop (place_for x ys) ys → cond b (x ∷ (y ∷ ys)) (y ∷ insert_by k x ys) ≡ take (cond (not b) (1 + place_for x ys) 0) (y ∷ ys) ++ x ∷ drop (cond (not b) (1 + place_for x ys) 0) (y ∷ ys)
        go true ih = refl
        go false ih = let e : 1 + place_for x ys ≡ suc (place_for x ys) = omega arith in rw e (ap (λ (t : List A). y ∷ t) ih)

    -- the elements from place j on are turned by one, and x is written over the first of them
    turned : (x z : A) (t : List A) (j : ℕ) (mid : List A) → j ≡ place_for x t
        → mid ≡ drop (length (drop j (t ++ (z ∷ []))) - 1) (drop j (t ++ (z ∷ []))) ++ take (length (drop j (t ++ (z ∷ []))) - 1) (drop j (t ++ (z ∷ [])))
        → set (take j (t ++ (z ∷ [])) ++ (mid ++ drop (length (t ++ (z ∷ [])) - j) (drop j (t ++ (z ∷ []))))) j x ≡ insert_by k x t
    turned x z t j mid e f =
        let b : j ≤ length t = omega (arith, place_for-le x t) in
        let d : drop j (t ++ (z ∷ [])) ≡ drop j t ++ (z ∷ []) = drop-append-le j t (z ∷ []) b in
        let m : length (drop j t ++ (z ∷ [])) - 1 ≡ length (drop j t) = omega (arith, length-append (drop j t) (z ∷ [])) in
        let turn : mid ≡ z ∷ drop j t = rw (d, m, drop_at (drop j t) (z ∷ []) _ refl, take_at (drop j t) (z ∷ []) _ refl) at f in
        let rest : drop (length (t ++ (z ∷ [])) - j) (drop j (t ++ (z ∷ []))) ≡ [] = drop_all (length (t ++ (z ∷ [])) - j) (drop j (t ++ (z ∷ []))) (omega (arith, length-drop j (t ++ (z ∷ [])))) in
        rw (take-append-le j t (z ∷ []) b, turn, rest, append-nil (drop j t), set_at (take j t) z (drop j t) x j (length-take-le j t b), e)
        (sym (insert_at x t))

    pub put_turned : (x : A) (l : List A) (j : ℕ) (mid : List A) → 0 < length l → j ≡ place_for x (take (length l - 1) l)
        → mid ≡ drop (length (drop j l) - 1) (drop j l) ++ take (length (drop j l) - 1) (drop j l)
        → set (take j l ++ (mid ++ drop (length l - j) (drop j l))) j x ≡ insert_by k x (take (length l - 1) l)
    put_turned x l j mid h e f =
        let n : length l - 1 + 1 ≡ length l = omega arith in
        let s : take (length l - 1) l ++ (get_or l (length l - 1) x ∷ []) ≡ l = sym (more l (length l - 1) x (omega arith)) ∙ ap (λ (i : ℕ). take i l) n ∙ take-length l in
        subst (λ (m : List A). mid ≡ drop (length (drop j m) - 1) (drop j m) ++ take (length (drop j m) - 1) (drop j m) → set (take j m ++ (mid ++ drop (length m - j) (drop j m))) j x ≡ insert_by k x (take (length l - 1) l)) s
        (turned x (get_or l (length l - 1) x) (take (length l - 1) l) j mid e) f

    -- among the first places of an array with blanks after them
    pub put_placed : (x b : A) (l a m : List A) (n w : ℕ) → a ≡ in_places w b l → length l ≡ n → n < w → m ≡ insert_by k x (take (length (take (n + 1) a) - 1) (take (n + 1) a)) → m ++ drop (n + 1) a ≡ in_places w b (insert_by k x l)
    put_placed x b l a m n w e c h f = ap (λ (s : List A). s ++ drop (n + 1) a) front ∙ ap (λ (s : List A). insert_by k x l ++ s) rest
      where
        long : length a ≡ w
        long = ap length e ∙ omega (arith, length-append l (replicate (w - length l) b), length-replicate (w - length l) b)

        size : length (take (n + 1) a) - 1 ≡ n
        size = omega (arith, length-take (n + 1) a, long)

        front : m ≡ insert_by k x l
        front = f ∙ ap (λ (j : ℕ). insert_by k x (take j (take (n + 1) a))) size ∙ ap (insert_by k x) (take-take n (n + 1) a (omega arith) ∙ ap (take n) e ∙ take_at l (replicate (w - length l) b) n c)

        rest : drop (n + 1) a ≡ replicate (w - length (insert_by k x l)) b
        rest =
            ap (drop (n + 1)) e ∙ ap (λ (j : ℕ). drop (j + 1) (in_places w b l)) (sym c)
            ∙ drop-append-add l (replicate (w - length l) b) 1
            ∙ drop-replicate 1 (w - length l) b
            ∙ ap (λ (j : ℕ). replicate j b) (omega (arith, length_insert k x l))
