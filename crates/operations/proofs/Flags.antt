-- Marks beside a list: what they pick is what a test picks, one mark more, and a list that a loop changes place by place.
-- Assumes nothing.
use mathlib.Core.Bool.{Bool, true, false, cond, ◌||◌}
use mathlib.Core.List.Memᴰ
use mathlib.Core.List.{List, [], ◌∷◌, ◌++◌, map, append_assoc}
use mathlib.Core.Path.{◌≡◌, refl, sym, ap, subst, ◌∙◌}
use Prim.Native.Nat.{ℕ, suc, ◌+◌, ◌-◌, ◌≤◌, ◌<◌}
use native.Mathlib.Numerals.{add-one}
use native.Mathlib.Omega.{arith}
use lib.ListN.{length, get_or, set, take, drop, replicate, length-append, length-take, length-drop, length-map}
use native.Mathlib.Decide.{ℕ_discrete}
use lib.Seq.{drop-cons, set_at, get_or_at, take_at, length-take-le, get_or-set_same, get_or-set_other}
use Rattle.lists.specs.Tests.{◌or◌, Yes}
use Rattle.lists.specs.Lists.{any, filter, Mem}
use Rattle.lists.specs.Places.{in_places}
use Rattle.lists.proofs.Tests.{or_code, or_comm, or_assoc}
use Rattle.lists.proofs.Loops.{more, map_more}
use Rattle.operations.specs.Code.{flagged, unflagged, altered}

-- one mark more is set
pub mark_more : (p : ℕ → Bool) (a : List Bool) (i : ℕ) (v : Bool) → i < length a → v ≡ p i → ((j : ℕ) → j < i → get_or a j false ≡ p j) → (j : ℕ) → j < i + 1 → get_or (set a i v) j false ≡ p j
mark_more p a i v h e g j k = elim (ℕ_discrete j i) [
  | yes q ↦ subst (λ (m : ℕ). get_or (set a i v) m false ≡ p m) (sym q) (get_or-set_same a i v false h ∙ e)
  | no q ↦ get_or-set_other a i j v false q ∙ g j (omega arith)
]

module _ {A : Type 0} where
  -- ---- one mark more
  pub flag_yes : (fs : List Bool) (l : List A) (d : A) → length fs < length l → flagged (fs ++ (true ∷ [])) l ≡ flagged fs l ++ (get_or l (length fs) d ∷ [])
  flag_yes [] [] d h = absurd (omega arith)
  flag_yes [] (x ∷ xs) d h = refl
  flag_yes (b ∷ bs) [] d h = absurd (omega arith)
  flag_yes (true ∷ bs) (x ∷ xs) d h = ap (λ (t : List A). x ∷ t) (flag_yes bs xs d (omega arith))
  flag_yes (false ∷ bs) (x ∷ xs) d h = flag_yes bs xs d (omega arith)

  pub flag_no : (fs : List Bool) (l : List A) → flagged (fs ++ (false ∷ [])) l ≡ flagged fs l
  flag_no [] [] = refl
  flag_no [] (x ∷ xs) = refl
  flag_no (b ∷ bs) [] = refl
  flag_no (true ∷ bs) (x ∷ xs) = ap (λ (t : List A). x ∷ t) (flag_no bs xs)
  flag_no (false ∷ bs) (x ∷ xs) = flag_no bs xs

  pub unflag_no : (fs : List Bool) (l : List A) → unflagged (fs ++ (false ∷ [])) l ≡ unflagged fs l
  unflag_no [] [] = refl
  unflag_no [] (x ∷ xs) = refl
  unflag_no (b ∷ bs) [] = refl
  unflag_no (true ∷ bs) (x ∷ xs) = unflag_no bs xs
  unflag_no (false ∷ bs) (x ∷ xs) = ap (λ (t : List A). x ∷ t) (unflag_no bs xs)

  pub unflag_map : (g : A → A) (fs : List Bool) (l : List A) → unflagged fs (map g l) ≡ map g (unflagged fs l)
  unflag_map g [] l = refl
  unflag_map g (b ∷ bs) [] = refl
  unflag_map g (true ∷ bs) (x ∷ xs) = unflag_map g bs xs
  unflag_map g (false ∷ bs) (x ∷ xs) = ap (λ (t : List A). g x ∷ t) (unflag_map g bs xs)

  -- ---- a loop that leaves out what is marked
  last_out : (fs : List Bool) (l : List A) (x : A) → length fs ≡ length l → unflagged (fs ++ (true ∷ [])) (l ++ (x ∷ [])) ≡ unflagged fs l
  last_out [] [] x h = refl
  last_out [] (y ∷ ys) x h = absurd (omega arith)
  last_out (b ∷ bs) [] x h = absurd (omega arith)
  last_out (true ∷ bs) (y ∷ ys) x h = last_out bs ys x (omega arith)
  last_out (false ∷ bs) (y ∷ ys) x h = ap (λ (t : List A). y ∷ t) (last_out bs ys x (omega arith))

  last_in : (fs : List Bool) (l : List A) (x : A) → length fs ≡ length l → unflagged (fs ++ (false ∷ [])) (l ++ (x ∷ [])) ≡ unflagged fs l ++ (x ∷ [])
  last_in [] [] x h = refl
  last_in [] (y ∷ ys) x h = absurd (omega arith)
  last_in (b ∷ bs) [] x h = absurd (omega arith)
  last_in (true ∷ bs) (y ∷ ys) x h = last_in bs ys x (omega arith)
  last_in (false ∷ bs) (y ∷ ys) x h = ap (λ (t : List A). y ∷ t) (last_in bs ys x (omega arith))

  module _ (goes : List Bool) (l : List A) (i : ℕ) (d : A) (h : i < length goes) (k : i < length l) where
    even : length (take i goes) ≡ length (take i l)
    even = length-take-le i goes (omega arith) ∙ sym (length-take-le i l (omega arith))

    pub sift_out : get_or goes i false ≡ true → unflagged (take (i + 1) goes) (take (i + 1) l) ≡ unflagged (take i goes) (take i l)
    sift_out e = rw (more goes i false h, more l i d k, e) (last_out (take i goes) (take i l) (get_or l i d) even)

    pub sift_in : get_or goes i false ≡ false → unflagged (take (i + 1) goes) (take (i + 1) l) ≡ unflagged (take i goes) (take i l) ++ (get_or l i d ∷ [])
    sift_in e = rw (more goes i false h, more l i d k, e) (last_in (take i goes) (take i l) (get_or l i d) even)

  -- ---- marks that a test gives
  pub flagged_by : (p : A → Bool) (goes : List Bool) (l : List A) (d : A) → length l ≤ length goes → ((j : ℕ) → j < length l → get_or goes j false ≡ p (get_or l j d)) → flagged goes l ≡ filter p l
  flagged_by p [] [] d h f = refl
  flagged_by p [] (x ∷ xs) d h f = absurd (omega arith)
  flagged_by p (b ∷ bs) [] d h f = refl
  flagged_by p (b ∷ bs) (x ∷ xs) d h f =
      let e : b ≡ p x = f 0 (omega arith) in
      rw (← e) (ap (λ (t : List A). cond b (x ∷ t) t) (flagged_by p bs xs d (omega arith) (λ j k. f (suc j) (omega arith))))

  -- a flag that some element was marked
  pub any_more : (p : A → Bool) (l : List A) (i : ℕ) (d : A) (f b : Bool) → i < length l → f ≡ any p (take i l) → b ≡ p (get_or l i d) → (f || b) ≡ any p (take (i + 1) l)
  unfolding ◌or◌
  any_more p l i d f b h e g = rw (more l i d h, e, g) (or_code (any p (take i l)) (p (get_or l i d)) ∙ last (take i l) (get_or l i d))
    where
      last : (xs : List A) (x : A) → (any p xs or p x) ≡ any p (xs ++ (x ∷ []))
      last [] x = or_comm false (p x)
      last (y ∷ ys) x = or_assoc (p y) (any p ys) (p x) ∙ ap (λ (b : Bool). p y or b) (last ys x)

  -- what every element passes
  pub keep_all : (p : A → Bool) (l : List A) → ((a : A) → Mem a l → Yes (p a)) → filter p l ≡ l
  keep_all p [] f = refl
  keep_all p (x ∷ xs) f = rw (f x (Memᴰ.head refl)) (ap (λ (t : List A). x ∷ t) (keep_all p xs (λ a m. f a (Memᴰ.tail m))))

  -- ---- a list that a loop changes place by place: changed up to i
  abbrev pub mapped : (A → A) → ℕ → List A → List A
  mapped f i l = map f (take i l) ++ drop i l

  module _ (f : A → A) (l : List A) (i : ℕ) (d : A) (h : i < length l) where
    front_long : length (map f (take i l)) ≡ i
    front_long = length-map (take i l) f ∙ length-take-le i l (omega arith)

    pub mapped_read : get_or (mapped f i l) i d ≡ get_or l i d
    mapped_read = rw (drop-cons l i d h) (get_or_at (map f (take i l)) (get_or l i d) (drop (suc i) l) d i front_long)

    next : (x : A) → x ≡ f (get_or l i d) → map f (take i l) ++ (x ∷ drop (suc i) l) ≡ mapped f (i + 1) l
    next x e = rw (more l i d h, map_more f (take i l) (get_or l i d), add-one i, e) (sym (append_assoc (map f (take i l)) (f (get_or l i d) ∷ []) (drop (suc i) l)))

    pub mapped_set : (x : A) → x ≡ f (get_or l i d) → set (mapped f i l) i x ≡ mapped f (i + 1) l
    mapped_set x e = rw (drop-cons l i d h) (set_at (map f (take i l)) (get_or l i d) (drop (suc i) l) x i front_long ∙ next x e)

    pub mapped_same : get_or l i d ≡ f (get_or l i d) → mapped f i l ≡ mapped f (i + 1) l
    mapped_same e = ap (λ (t : List A). map f (take i l) ++ t) (drop-cons l i d h) ∙ next (get_or l i d) e

  pub mapped_long : (f : A → A) (l : List A) (i : ℕ) → length (mapped f i l) ≡ length l
  mapped_long f l i = omega (arith, length-append (map f (take i l)) (drop i l), length-map (take i l) f, length-take i l, length-drop i l)

  pub mapped_front : (f : A → A) (l : List A) (n : ℕ) → n ≤ length l → take n (mapped f n l) ≡ map f (take n l)
  mapped_front f l n h = take_at (map f (take n l)) (drop n l) n (length-map (take n l) f ∙ length-take-le n l h)

  -- ---- what is marked is changed
  module _ (g : A → A) where
    alter_yes : (fs : List Bool) (l : List A) (d : A) → length fs < length l → altered g (fs ++ (true ∷ [])) l ≡ set (altered g fs l) (length fs) (g (get_or l (length fs) d))
    alter_yes [] [] d h = absurd (omega arith)
    alter_yes [] (x ∷ xs) d h = refl
    alter_yes (b ∷ bs) [] d h = absurd (omega arith)
    alter_yes (b ∷ bs) (x ∷ xs) d h = ap (λ (t : List A). cond b (g x) x ∷ t) (alter_yes bs xs d (omega arith))

    alter_no : (fs : List Bool) (l : List A) → altered g (fs ++ (false ∷ [])) l ≡ altered g fs l
    alter_no [] [] = refl
    alter_no [] (x ∷ xs) = refl
    alter_no (b ∷ bs) [] = refl
    alter_no (b ∷ bs) (x ∷ xs) = ap (λ (t : List A). cond b (g x) x ∷ t) (alter_no bs xs)

    alter_read : (fs : List Bool) (l : List A) (d : A) → get_or (altered g fs l) (length fs) d ≡ get_or l (length fs) d
    alter_read [] l d = refl
    alter_read (b ∷ bs) [] d = refl
    alter_read (b ∷ bs) (x ∷ xs) d = alter_read bs xs d

    -- what stands past the marks stays
    pub alter_front : (fs : List Bool) (l r : List A) → length fs ≡ length l → altered g fs (l ++ r) ≡ altered g fs l ++ r
    alter_front [] [] r h = refl
    alter_front [] (x ∷ xs) r h = absurd (omega arith)
    alter_front (b ∷ bs) [] r h = absurd (omega arith)
    alter_front (b ∷ bs) (x ∷ xs) r h = ap (λ (t : List A). cond b (g x) x ∷ t) (alter_front bs xs r (omega arith))

    module _ (takes : List Bool) (l out : List A) (i : ℕ) (d : A) (h : i < length takes) (k : i < length l) (q : out ≡ altered g (take i takes) l) where
      long : length (take i takes) ≡ i
      long = length-take-le i takes (omega arith)

      pub change_yes : get_or takes i false ≡ true → (x : A) → x ≡ g (get_or out i d) → set out i x ≡ altered g (take (i + 1) takes) l
      change_yes e x f =
          let r : get_or out i d ≡ get_or l i d = ap (λ (o : List A). get_or o i d) q ∙ rw long at (alter_read (take i takes) l d) in
          ap (λ (o : List A). set o i x) q ∙ ap (set (altered g (take i takes) l) i) (f ∙ ap g r)
          ∙ sym (rw long at (alter_yes (take i takes) l d (omega (arith, long))))
          ∙ ap (λ (b : Bool). altered g (take i takes ++ (b ∷ [])) l) (sym e)
          ∙ ap (λ (fs : List Bool). altered g fs l) (sym (more takes i false h))

      pub change_no : get_or takes i false ≡ false → out ≡ altered g (take (i + 1) takes) l
      change_no e =
          q ∙ sym (alter_no (take i takes) l)
          ∙ ap (λ (b : Bool). altered g (take i takes ++ (b ∷ [])) l) (sym e)
          ∙ ap (λ (fs : List Bool). altered g fs l) (sym (more takes i false h))

  -- ---- marks made by a test
  pub marked_filter : (p : A → Bool) (l : List A) → flagged (map p l) l ≡ filter p l
  marked_filter p [] = refl
  marked_filter p (x ∷ xs) = ap (λ (t : List A). cond (p x) (x ∷ t) t) (marked_filter p xs)

  -- in their places
  pub marks_front : (n w : ℕ) (p : A → Bool) (l : List A) (takes : List Bool) → takes ≡ in_places w false (map p l) → length l ≡ n → take n takes ≡ map p l
  marks_front n w p l takes e h = ap (take n) e ∙ take_at (map p l) (replicate (w - length (map p l)) false) n (length-map l p ∙ h)
