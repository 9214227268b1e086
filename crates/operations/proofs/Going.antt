-- Active locks that go: the turns of the loops over a tree and over the roots, by places, and the locks at the places.
-- Assumes nothing.
use mathlib.Core.Bool.{Bool, true, false, cond}
use mathlib.Core.List.Memᴰ
use mathlib.Core.List.{List, [], ◌∷◌, ◌++◌, map, append_assoc, append-nil}
use mathlib.Core.Logic.{inl, inr}
use mathlib.Core.Path.{◌≡◌, refl, sym, ap, subst, ◌∙◌}
use Prim.Native.Nat.{ℕ, zero, suc, ◌+◌, ◌-◌, ◌≤◌, ◌<◌}
use native.Mathlib.Numerals.{add-one}
use native.Mathlib.Omega.{arith}
use lib.ListN.{length, get_or, set, take, drop, replicate, length-append, length-replicate, length-take, length-map}
use lib.Seq.{take-suc, take-length, drop-cons}
use Rattle.std.proofs.lemmas.List.{take_all, drop_all}
use Rattle.lists.specs.Tests.{◌or◌, non}
use Rattle.lists.specs.Lists.{any, filter, Mem}
use Rattle.lists.specs.Places.{in_places, Holds}
use Rattle.lists.proofs.Tests.{non_t, non_f, or_t, or_f}
use Rattle.lists.proofs.Lists.{filter→}
use Rattle.lists.proofs.Places.{mem_at}
use Rattle.lists.proofs.Loops.{push, keep_yes, keep_no, filter_split, map_more}
use Rattle.state.specs.declared.ActiveLock.{ActiveLock}
use Rattle.state.specs.Locks.{has_id, blank_active}
use Rattle.state.proofs.Laws.{back}
use Rattle.lookups.specs.Reads.{narrow}
use Rattle.operations.specs.declared.trees.Split.{Split}
use Rattle.operations.specs.Trees.{Parts, child_of, take_parts, tree_parts, root_parts, cut_all, roots_parts, start_parts, is_listed}
use Rattle.operations.specs.Code.{picks, Placed, Cut, parts_of, split_of, Halves, up_to, start_halves, lock_at, parts_in, take_halves, picks_at, tree_halves, root_halves, cut_halves, halves_of, places_of, Low, Sorting, roots_halves}
use borrow.Author.Tests.{le-leb}
use lib.Dec.{leb}
use lib.Seq.{get_or-take}
use Rattle.lists.specs.Tests.{Yes}
use Rattle.lists.specs.Lists.{from}
use Rattle.lists.specs.Lists.{ascending}
use Rattle.lists.proofs.Tests.{and_i}
use Rattle.lists.proofs.Lists.{from→}
use Rattle.lists.proofs.Lists.{from_filter}
use Rattle.lists.proofs.Lists.{rest}
use Rattle.lists.proofs.Places.{ascending_at}

-- ---- one pass of two outputs
module _ {A : Type 0} (p : A → Bool) (b d : A) (l g₀ : List A) (i : ℕ) (r : Bool) (j : i < length l) (q : r ≡ p (get_or l i d)) where
  pub gone_yes : (out : List A) (g : ℕ) → Holds 64 b (g₀ ++ filter p (take i l)) out g → g < 64 → r ≡ true → Holds 64 b (g₀ ++ filter p (take (i + 1) l)) (set out g (get_or l i d)) (g + 1)
  gone_yes out g h k t =
      push 64 b (g₀ ++ filter p (take i l)) (g₀ ++ filter p (take (i + 1) l)) out g (get_or l i d) h k
      (rw (keep_yes p l i d j (sym q ∙ t)) (sym (append_assoc g₀ (filter p (take i l)) (get_or l i d ∷ []))))

  pub gone_no : (out : List A) (g : ℕ) → Holds 64 b (g₀ ++ filter p (take i l)) out g → r ≡ false → Holds 64 b (g₀ ++ filter p (take (i + 1) l)) out g
  gone_no out g h t = rw (keep_no p l i d j (sym q ∙ t)) h

  pub kept_yes : (out : List A) (w : ℕ) → Holds 64 b (filter (λ a. non (p a)) (take i l)) out w → w < 64 → r ≡ false → Holds 64 b (filter (λ a. non (p a)) (take (i + 1) l)) (set out w (get_or l i d)) (w + 1)
  kept_yes out w h k t =
      push 64 b (filter (λ a. non (p a)) (take i l)) (filter (λ a. non (p a)) (take (i + 1) l)) out w (get_or l i d) h k (keep_yes (λ a. non (p a)) l i d j (non_f _ (sym q ∙ t)))

  pub kept_no : (out : List A) (w : ℕ) → Holds 64 b (filter (λ a. non (p a)) (take i l)) out w → r ≡ true → Holds 64 b (filter (λ a. non (p a)) (take (i + 1) l)) out w
  kept_no out w h t = rw (keep_no (λ a. non (p a)) l i d j (non_t _ (sym q ∙ t))) h

-- ---- locks in their places
module _ (l : List ActiveLock) (n : ℕ) (h : Placed l n) where
  pub placed_long : n ≤ length l
  placed_long = omega (arith, ap length h.same, h.room, length-append (take n l) (replicate (64 - length (take n l)) blank_active), length-replicate (64 - length (take n l)) blank_active, length-take n l)

  pub placed_count : length (take n l) ≡ n
  placed_count = omega (arith, placed_long, length-take n l)

-- ---- the parts of a split
module _ (s : Split ActiveLock) (c : Cut s) where
  pub kept_count : length (parts_of s).kept ≡ s.left
  kept_count = ap (λ (x : Split ActiveLock). x.left) c.same

  pub kept_placed : Placed s.kept s.left
  kept_placed = record { room = omega (arith, c.room); same = ap (λ (x : Split ActiveLock). x.kept) c.same }

pub parts_back : (m : Parts) → parts_of (split_of m) ≡ m
parts_back m = λ j. record { kept = back 64 blank_active m.kept j; gone = back 64 blank_active m.gone j }

pub cut_of_lem : (m : Parts) → length m.kept + length m.gone ≤ 64 → Cut (split_of m)
cut_of_lem m h = record { room = h; same = ap split_of (parts_back m) }

-- what stands at a place
pub low_at : (m : ℕ) (ks : List ℕ) (i : ℕ) → Low m ks → i < length ks → get_or ks i 0 < m
low_at m ks i h g = h (get_or ks i 0) (mem_at ks i 0 g)

pub any_map : {A B : Type 0} (f : A → B) (p : B → Bool) (ks : List A) → any (λ j. p (f j)) ks ≡ any p (map f ks)
any_map f p [] = refl
any_map f p (k ∷ ks) = ap (λ (b : Bool). p (f k) or b) (any_map f p ks)

-- ---- the halves in their places
module _ (n : ℕ) (s : Split ℕ) (h : Sorting n s) where
  pub left_count : length (halves_of s).kept ≡ s.left
  left_count = ap (λ (x : Split ℕ). x.left) h.same

  pub gone_count : length (halves_of s).gone ≡ s.gone
  gone_count = ap (λ (x : Split ℕ). x.gone) h.same

  pub gone_start : Holds 64 0 ((halves_of s).gone ++ []) s.removed s.gone
  gone_start = rw (append-nil (halves_of s).gone) (sym (ap (λ (x : Split ℕ). x.removed) h.same), sym gone_count)

-- few enough, each one of n
record Fine (n : ℕ) (h : Halves) : Type 0 where
  few : length h.kept + length h.gone ≤ 64
  stays : Low n h.kept
  rises : Yes (ascending (λ j. j) h.kept)
  goes : Low n h.gone

pub halves_back : (h : Halves) → halves_of (places_of h) ≡ h
halves_back h = λ j. record { kept = back 64 0 h.kept j; gone = back 64 0 h.gone j }

sorting_of : (n : ℕ) (h : Halves) → Fine n h → Sorting n (places_of h)
sorting_of n h f = record {
  room = f.few;
  same = ap places_of (halves_back h);
  stays = rw (back 64 0 h.kept) f.stays;
  rises = rw (back 64 0 h.kept) f.rises;
  goes = rw (back 64 0 h.gone) f.goes;
}

fine_of : (n : ℕ) (s : Split ℕ) → Sorting n s → Fine n (halves_of s)
fine_of n s h = record { few = omega (arith, left_count n s h, gone_count n s h, h.room); stays = h.stays; rises = h.rises; goes = h.goes }

take_fine : (n : ℕ) (q : ℕ → Bool) (h : Halves) → Fine n h → Fine n (take_halves q h)
take_fine n q h f = record {
  few = omega (arith, f.few, filter_split q h.kept, length-append h.gone (filter q h.kept));
  stays = λ j m. f.stays j (filter→ (λ i. non (q i)) h.kept m).0;
  rises = from_filter (λ j. j) (λ i. non (q i)) 0 h.kept f.rises;
  goes = λ j m. elim (Memᴰ.append_cases h.gone m) as (λ w. j < n) [ inl u ↦ f.goes j u | inr u ↦ f.stays j (filter→ q h.kept u).0 ];
}

tree_fine : (n : ℕ) (l : List ActiveLock) (r : ActiveLock) (h : Halves) → Fine n h → Fine n (tree_halves l r h)
tree_fine n l r h f = take_fine n (picks_at 2 l r) _ (take_fine n (picks_at 1 l r) _ (take_fine n (picks_at 0 l r) h f))

root_fine : (n : ℕ) (l : List ActiveLock) (r : ActiveLock) (h : Halves) → Fine n h → Fine n (root_halves l r h)
unfolding root_halves
root_fine n l r h f = go (any (has_id r.lock.id) (map (lock_at l) h.kept))
  where
    go : (b : Bool) → Fine n (cond b (tree_halves l r h) h)
    go true = tree_fine n l r h f
    go false = f

all_fine : (n : ℕ) (l rs : List ActiveLock) (h : Halves) → Fine n h → Fine n (cut_halves l rs h)
all_fine n l [] h f = f
all_fine n l (r ∷ rs) h f = all_fine n l rs (root_halves l r h) (root_fine n l r h f)

up_long : (n : ℕ) → length (up_to n) ≡ n
up_long zero = refl
up_long (suc n) = length-append (up_to n) (n ∷ []) ∙ omega (arith, up_long n)

up_below : (n j : ℕ) → Mem j (up_to n) → j < n
up_below zero j m = absurd (Memᴰ.not-nil m)
up_below (suc n) j m = elim (Memᴰ.append_cases (up_to n) m) as (λ w. j < suc n) [ inl u ↦ omega (arith, up_below n j u) | inr u ↦ omega (arith, Memᴰ.eq_of_singleton u) ]

-- a number over all before it at the end of what rises
rises_more : (b x : ℕ) (ks : List ℕ) → Yes (from (λ j. j) b ks) → b ≤ x → ((j : ℕ) → Mem j ks → j < x) → Yes (from (λ j. j) b (ks ++ (x ∷ [])))
rises_more b x [] t h g = and_i (leb b x) true (le-leb b x h) refl
rises_more b x (k ∷ ks) t h g =
    and_i (leb b k) (from (λ j. j) (suc k) (ks ++ (x ∷ []))) (le-leb b k (from→ (λ j. j) {a = k} b {l = k ∷ ks} t (Memᴰ.head refl)))
    (rises_more (suc k) x ks (rest (λ j. j) b k ks t) (g k (Memᴰ.head refl)) (λ j m. g j (Memᴰ.tail m)))

up_rises : (n : ℕ) → Yes (ascending (λ j. j) (up_to n))
up_rises zero = refl
up_rises (suc n) = rises_more 0 n (up_to n) (up_rises n) (omega arith) (up_below n)

-- what rises has at each place no less than the place
rises_ahead : (ks : List ℕ) → Yes (ascending (λ j. j) ks) → (i : ℕ) → i < length ks → i ≤ get_or ks i 0
rises_ahead ks t zero h = omega arith
rises_ahead ks t (suc i) h = omega (arith, rises_ahead ks t i (omega arith), ascending_at (λ j. j) 0 ks 0 t i (suc i) (omega arith) h)

pub ahead_of : (ks : List ℕ) (n i : ℕ) → Yes (ascending (λ j. j) (take n ks)) → i < n → n ≤ length ks → i ≤ get_or ks i 0
ahead_of ks n i t h w = subst (λ (j : ℕ). i ≤ j) (get_or-take n ks i 0 h) (rises_ahead (take n ks) t i (omega (arith, length-take n ks)))

pub up_more : (i : ℕ) → up_to (i + 1) ≡ up_to i ++ (i ∷ [])
up_more i = ap up_to (add-one i)

start_fine : (n : ℕ) → n ≤ 64 → Fine n (start_halves n)
start_fine n h = record { few = omega (arith, up_long n); stays = λ j m. up_below n j m; rises = up_rises n; goes = λ j m. absurd (Memᴰ.not-nil m) }

-- ---- one tree, step by step
module _ (n : ℕ) (q0 q1 q2 : ℕ → Bool) (s a : Split ℕ) (c : Sorting n s) (p : a ≡ places_of (take_halves q0 (halves_of s))) where
  pub step_1 : Sorting n a
  step_1 = rw p (sorting_of n _ (take_fine n q0 (halves_of s) (fine_of n s c)))

  module _ (b : Split ℕ) (q : b ≡ places_of (take_halves q1 (halves_of a))) where
    second : b ≡ places_of (take_halves q1 (take_halves q0 (halves_of s)))
    second = q ∙ ap (λ (h : Halves). places_of (take_halves q1 h)) (ap halves_of p ∙ halves_back (take_halves q0 (halves_of s)))

    pub step_2 : Sorting n b
    step_2 = rw second (sorting_of n _ (take_fine n q1 _ (take_fine n q0 (halves_of s) (fine_of n s c))))

    pub step_3 : (x : Split ℕ) → x ≡ places_of (take_halves q2 (halves_of b)) → x ≡ places_of (take_halves q2 (take_halves q1 (take_halves q0 (halves_of s))))
    step_3 x k = k ∙ ap (λ (h : Halves). places_of (take_halves q2 h)) (ap halves_of second ∙ halves_back (take_halves q1 (take_halves q0 (halves_of s))))

-- ---- whether one of the locks at the places passes, from place i on
module _ (p : ActiveLock → Bool) (l : List ActiveLock) (ks : List ℕ) (i : ℕ) where
  pub any_at_yes : i < length ks → p (lock_at l (get_or ks i 0)) ≡ true → any p (map (lock_at l) (drop i ks)) ≡ true
  any_at_yes h e = rw (drop-cons ks i 0 h) (or_t _ _ e)

  pub any_at_no : i < length ks → p (lock_at l (get_or ks i 0)) ≡ false → any p (map (lock_at l) (drop i ks)) ≡ any p (map (lock_at l) (drop (i + 1) ks))
  any_at_no h e = rw (add-one i, drop-cons ks i 0 h) (or_f _ _ e)

  pub any_at_end : length ks ≤ i → any p (map (lock_at l) (drop i ks)) ≡ false
  any_at_end h = rw (drop_all i ks h)

-- ---- a root
module _ (n : ℕ) (l : List ActiveLock) (r : ActiveLock) (s : Split ℕ) (c : Sorting n s) where
  pub root_here : (x : Split ℕ) → any (has_id r.lock.id) (map (lock_at l) (halves_of s).kept) ≡ true → x ≡ places_of (tree_halves l r (halves_of s)) → x ≡ places_of (root_halves l r (halves_of s))
  unfolding root_halves
  root_here x t k = rw t k

  pub root_not : any (has_id r.lock.id) (map (lock_at l) (halves_of s).kept) ≡ false → s ≡ places_of (root_halves l r (halves_of s))
  unfolding root_halves
  root_not t = rw t (sym c.same)

-- ---- the locks at the places
map_filter : {A B : Type 0} (f : A → B) (p : B → Bool) (ks : List A) → map f (filter (λ j. p (f j)) ks) ≡ filter p (map f ks)
map_filter f p [] = refl
map_filter f p (k ∷ ks) = go (p (f k)) (map_filter f p ks)
  where
    go : (b : Bool) → map f (filter (λ j. p (f j)) ks) ≡ filter p (map f ks) → map f (cond b (k ∷ filter (λ j. p (f j)) ks) (filter (λ j. p (f j)) ks)) ≡ cond b (f k ∷ filter p (map f ks)) (filter p (map f ks))
    go true e = ap (λ t. f k ∷ t) e
    go false e = e

map_both : {A B : Type 0} (f : A → B) (s t : List A) → map f (s ++ t) ≡ map f s ++ map f t
map_both f [] t = refl
map_both f (x ∷ xs) t = ap (λ r. f x ∷ r) (map_both f xs t)

module _ (l : List ActiveLock) where
  take_in : (n : ℕ) (r : ActiveLock) (h : Halves) → parts_in l (take_halves (picks_at n l r) h) ≡ take_parts (picks n r) (parts_in l h)
  take_in n r h = λ j. record {
    kept = map_filter (lock_at l) (λ a. non (picks n r a)) h.kept j;
    gone = (map_both (lock_at l) h.gone (filter (picks_at n l r) h.kept) ∙ ap (λ (t : List ActiveLock). map (lock_at l) h.gone ++ t) (map_filter (lock_at l) (picks n r) h.kept)) j;
  }

  pub tree_in : (r : ActiveLock) (h : Halves) → parts_in l (tree_halves l r h) ≡ tree_parts r (parts_in l h)
  unfolding tree_parts picks
  tree_in r h =
      take_in 2 r (take_halves (picks_at 1 l r) (take_halves (picks_at 0 l r) h))
      ∙ ap (take_parts (picks 2 r)) (take_in 1 r (take_halves (picks_at 0 l r) h) ∙ ap (take_parts (picks 1 r)) (take_in 0 r h))

  root_in : (r : ActiveLock) (h : Halves) → parts_in l (root_halves l r h) ≡ root_parts r (parts_in l h)
  unfolding root_halves root_parts
  root_in r h = go (any (has_id r.lock.id) (map (lock_at l) h.kept))
    where
      go : (b : Bool) → parts_in l (cond b (tree_halves l r h) h) ≡ cond b (tree_parts r (parts_in l h)) (parts_in l h)
      go true = tree_in r h
      go false = refl

  all_in : (rs : List ActiveLock) (h : Halves) → parts_in l (cut_halves l rs h) ≡ cut_all rs (parts_in l h)
  all_in [] h = refl
  all_in (r ∷ rs) h = all_in rs (root_halves l r h) ∙ ap (cut_all rs) (root_in r h)

  up_in : (n : ℕ) → n ≤ length l → map (lock_at l) (up_to n) ≡ take n l
  up_in zero h = refl
  up_in (suc n) h = map_more (lock_at l) (up_to n) n ∙ ap (λ (t : List ActiveLock). t ++ (lock_at l n ∷ [])) (up_in n (omega arith)) ∙ sym (take-suc l n blank_active (omega arith))

  start_in : parts_in l (start_halves (length l)) ≡ start_parts l
  start_in = λ j. record { kept = (up_in (length l) (omega arith) ∙ take-length l) j; gone = [] }

  -- in a split
  pub split_is : (n : ℕ) (s : Split ℕ) → Sorting n s → (k w : List ActiveLock) → k ≡ in_places 64 blank_active (parts_in l (halves_of s)).kept → w ≡ in_places 64 blank_active (parts_in l (halves_of s)).gone → record { left = s.left; kept = k; gone = s.gone; removed = w } ≡ split_of (parts_in l (halves_of s))
  split_is n s h k w e f = λ j. record {
    left = (sym (left_count n s h) ∙ sym (length-map (halves_of s).kept (lock_at l))) j;
    kept = e j;
    gone = (sym (gone_count n s h) ∙ sym (length-map (halves_of s).gone (lock_at l))) j;
    removed = f j;
  }

-- ---- from the start
module _ (n : ℕ) (h : n ≤ 64) (s : Split ℕ) (e : s ≡ places_of (start_halves n)) where
  pub start_sorting : Sorting n s
  start_sorting = rw e (sorting_of n (start_halves n) (start_fine n h))

module _ (l : List ActiveLock) (h : length l ≤ 64) (r : ActiveLock) (s : Split ℕ) (e : s ≡ places_of (start_halves (length l))) (t : Split ℕ) (f : t ≡ places_of (tree_halves l r (halves_of s))) where
  cut_is : t ≡ places_of (tree_halves l r (start_halves (length l)))
  cut_is = f ∙ ap (λ (h : Halves). places_of (tree_halves l r h)) (ap halves_of e ∙ halves_back (start_halves (length l)))

  pub tree_sorting : Sorting (length l) t
  tree_sorting = rw cut_is (sorting_of (length l) _ (tree_fine (length l) l r (start_halves (length l)) (start_fine (length l) h)))

  pub tree_told : parts_in l (halves_of t) ≡ tree_parts r (start_parts l)
  tree_told = ap (λ (y : Split ℕ). parts_in l (halves_of y)) cut_is ∙ ap (parts_in l) (halves_back (tree_halves l r (start_halves (length l)))) ∙ tree_in l r (start_halves (length l)) ∙ ap (tree_parts r) (start_in l)

-- ---- the roots, one after the other
all_more : (l rs : List ActiveLock) (r : ActiveLock) (h : Halves) → cut_halves l (rs ++ (r ∷ [])) h ≡ root_halves l r (cut_halves l rs h)
all_more l [] r h = refl
all_more l (x ∷ xs) r h = all_more l xs r (root_halves l x h)

-- after the roots among the first k places
abbrev pub halves_at : List ℕ → List ActiveLock → ℕ → Halves
halves_at ws l k = cut_halves l (filter (is_listed ws) (take k l)) (start_halves (length l))

module _ (ws : List ℕ) (l : List ActiveLock) (i : ℕ) (p : length l ≤ 64) (out : Split ℕ) (q : out ≡ places_of (halves_at ws l i)) where
  pub out_sorting : Sorting (length l) out
  out_sorting = rw q (sorting_of (length l) (halves_at ws l i) (all_fine (length l) l (filter (is_listed ws) (take i l)) (start_halves (length l)) (start_fine (length l) p)))

  module _ (d : ActiveLock) (h : i < length l) (b : Bool) (e : b ≡ is_listed ws (get_or l i d)) where
    pub roots_more : (r : Split ℕ) → b ≡ true → r ≡ places_of (root_halves l (get_or l i d) (halves_of out)) → r ≡ places_of (halves_at ws l (i + 1))
    roots_more r t k =
        k ∙ ap (λ (y : Halves). places_of (root_halves l (get_or l i d) y)) (ap halves_of q ∙ halves_back (halves_at ws l i))
        ∙ ap places_of (sym (all_more l (filter (is_listed ws) (take i l)) (get_or l i d) (start_halves (length l))))
        ∙ ap (λ (x : List ActiveLock). places_of (cut_halves l x (start_halves (length l)))) (sym (keep_yes (is_listed ws) l i d h (sym e ∙ t)))

    pub roots_same : b ≡ false → out ≡ places_of (halves_at ws l (i + 1))
    roots_same t = q ∙ ap (λ (x : List ActiveLock). places_of (cut_halves l x (start_halves (length l)))) (sym (keep_no (is_listed ws) l i d h (sym e ∙ t)))

-- after all of them
pub roots_all : (ws : List ℕ) (l : List ActiveLock) (i : ℕ) → length l ≤ i → (out : Split ℕ) → out ≡ places_of (halves_at ws l i) → out ≡ places_of (roots_halves ws l)
roots_all ws l i h out q = q ∙ ap (λ (x : List ActiveLock). places_of (cut_halves l (filter (is_listed ws) x) (start_halves (length l)))) (take_all i l h)

module _ (ws : List ℕ) (l : List ActiveLock) (p : length l ≤ 64) (out : Split ℕ) (q : out ≡ places_of (roots_halves ws l)) where
  pub roots_sorting : Sorting (length l) out
  roots_sorting = rw q (sorting_of (length l) (roots_halves ws l) (all_fine (length l) l (filter (is_listed ws) l) (start_halves (length l)) (start_fine (length l) p)))

  pub roots_told : parts_in l (halves_of out) ≡ roots_parts ws l
  unfolding roots_parts
  roots_told =
      ap (λ (y : Split ℕ). parts_in l (halves_of y)) q ∙ ap (parts_in l) (halves_back (roots_halves ws l))
      ∙ all_in l (filter (is_listed ws) l) (start_halves (length l)) ∙ ap (cut_all (filter (is_listed ws) l)) (start_in l)

  pub roots_split : (x : Split ActiveLock) → x ≡ split_of (parts_in l (halves_of out)) → x ≡ split_of (roots_parts ws l)
  roots_split x k = k ∙ ap split_of roots_told

-- ---- how many there are in all
abbrev part_size : Parts → ℕ
part_size m = length m.kept + length m.gone

take_size : (p : ActiveLock → Bool) (m : Parts) → part_size (take_parts p m) ≡ part_size m
take_size p m = omega (arith, filter_split p m.kept, length-append m.gone (filter p m.kept))

root_size : (r : ActiveLock) (m : Parts) → part_size (root_parts r m) ≡ part_size m
unfolding root_parts tree_parts
root_size r m = go (any (has_id r.lock.id) m.kept)
  where
    go : (b : Bool) → part_size (cond b (tree_parts r m) m) ≡ part_size m
    go true = take_size (has_id r.lock.id) (take_parts (narrow r) (take_parts (child_of r) m)) ∙ take_size (narrow r) (take_parts (child_of r) m) ∙ take_size (child_of r) m
    go false = refl

all_size : (rs : List ActiveLock) (m : Parts) → part_size (cut_all rs m) ≡ part_size m
all_size [] m = refl
all_size (r ∷ rs) m = all_size rs (root_parts r m) ∙ root_size r m

pub roots_size : (ws : List ℕ) (l : List ActiveLock) → length (roots_parts ws l).kept + length (roots_parts ws l).gone ≡ length l
unfolding roots_parts
roots_size ws l = all_size (filter (is_listed ws) l) (start_parts l) ∙ omega arith

-- ---- the same within the list that is held, which is as long as its array
module _ (a : List ActiveLock) (n : ℕ) (h : n ≤ length a) where
  low_locks : (ks : List ℕ) → Low n ks → map (lock_at a) ks ≡ map (lock_at (take n a)) ks
  low_locks [] f = refl
  low_locks (k ∷ ks) f = ap (λ (x : ActiveLock). x ∷ map (lock_at a) ks) (sym (get_or-take n a k blank_active (f k (Memᴰ.head refl)))) ∙ ap (λ (t : List ActiveLock). lock_at (take n a) k ∷ t) (low_locks ks (λ j m. f j (Memᴰ.tail m)))

  -- places of the first n are places of the array
  pub held_sorting : (s : Split ℕ) → Sorting n s → Sorting (length a) s
  held_sorting s c = record { room = c.room; same = c.same; stays = λ j m. omega (arith, c.stays j m, h); rises = c.rises; goes = λ j m. omega (arith, c.goes j m, h) }

  pub held_split : (s : Split ℕ) → Sorting n s → (k w : List ActiveLock) → k ≡ in_places 64 blank_active (map (lock_at a) (halves_of s).kept) → w ≡ in_places 64 blank_active (map (lock_at a) (halves_of s).gone)
      → record { left = s.left; kept = k; gone = s.gone; removed = w } ≡ split_of (parts_in (take n a) (halves_of s))
  held_split s c k w e f =
      split_is (take n a) n s c k w (e ∙ ap (in_places 64 blank_active) (low_locks (halves_of s).kept c.stays)) (f ∙ ap (in_places 64 blank_active) (low_locks (halves_of s).gone c.goes))
