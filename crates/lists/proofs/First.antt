-- The first element that passes a test: the place where a loop stops, what is found there, and a change at that place alone.
-- Assumes nothing.
use mathlib.Core.Bool.{Bool, true, false, cond}
use mathlib.Core.List.Memᴰ
use mathlib.Core.List.{List, [], ◌∷◌, map}
use Rattle.std.specs.Prelude.{None, Some}
use mathlib.Core.Path.{◌≡◌, refl, ap}
use Prim.Native.Nat.{ℕ, suc, ◌+◌, ◌≤◌, ◌<◌, zero-le, suc-le-suc}
use native.Mathlib.Numerals.{add-one}
use native.Mathlib.Omega.{arith}
use lib.Dec.{eqb}
use lib.ListN.{length, get_or, set}
use lib.Seq.{slice, slice_empty}
use borrow.Author.Tests.{eqb-true, ne_eqb}
use Rattle.lists.specs.Tests.{non, Yes}
use Rattle.lists.specs.Lists.{any, filter, find, Mem, from}
use Rattle.lists.specs.Places.{leading}
use Rattle.lists.proofs.Tests.{→no, by}
use Rattle.lists.proofs.Lists.{any→, →filter, from→, rest}
use Rattle.lists.proofs.Loops.{rest_step, filter_none}

module _ {A : Type 0} (p : A → Bool) where
  -- how many elements stand before the first that passes
  abbrev pub place_of : List A → ℕ → ℕ
  place_of l k = leading (λ x. non (p x)) l k

  -- ---- a loop that counts i up to n
  pub place_yes : (l : List A) (n i : ℕ) (d : A) → i < n → n ≤ length l → p (get_or l i d) ≡ true → place_of (slice i n l) i ≡ i
  unfolding leading non
  place_yes l n i d h g e = rw (rest_step l n i d h g, e)

  pub place_no : (l : List A) (n i : ℕ) (d : A) → i < n → n ≤ length l → p (get_or l i d) ≡ false → place_of (slice i n l) i ≡ place_of (slice (i + 1) n l) (i + 1)
  unfolding leading non
  place_no l n i d h g e = rw (rest_step l n i d h g, e)

  pub place_end : (l : List A) (n i : ℕ) → i ≤ n → n ≤ i → place_of (slice i n l) i ≡ n
  unfolding leading
  place_end l n i h g = let e : i ≡ n = omega arith in rw (e, slice_empty n l)

  -- ---- what stands there
  next_place : (l : List A) (j : ℕ) → place_of l (j + 1) ≡ suc (place_of l j)
  unfolding leading non
  next_place [] j = add-one j
  next_place (x ∷ xs) j = elim (p x) as (λ b. cond (non b) (place_of xs (j + 1 + 1)) (j + 1) ≡ suc (cond (non b) (place_of xs (j + 1)) j)) [ true ↦ add-one j | false ↦ next_place xs (j + 1) ]

  at_place : (x : A) (xs : List A) → (b : Bool) → p x ≡ b → place_of (x ∷ xs) 0 ≡ cond b 0 (suc (place_of xs 0))
  unfolding leading non
  at_place x xs true e = rw e
  at_place x xs false e = rw (e, next_place xs 0)

  pub place_le : (l : List A) → place_of l 0 ≤ length l
  unfolding leading
  place_le [] = zero-le
  place_le (x ∷ xs) = go (p x) refl (place_le xs)
    where
      go : (b : Bool) → p x ≡ b → place_of xs 0 ≤ length xs → place_of (x ∷ xs) 0 ≤ length (x ∷ xs)
      go true e h = rw (at_place x xs true e) zero-le
      go false e h = rw (at_place x xs false e) (suc-le-suc h)

  pub find_place : (l : List A) (d : A) → place_of l 0 < length l → find p l ≡ Some (get_or l (place_of l 0) d)
  find_place [] d h = absurd (omega arith)
  find_place (x ∷ xs) d h = go (p x) refl h (find_place xs d)
    where
      go : (b : Bool) → p x ≡ b → place_of (x ∷ xs) 0 < suc (length xs) → (place_of xs 0 < length xs → find p xs ≡ Some (get_or xs (place_of xs 0) d)) → cond b (Some x) (find p xs) ≡ Some (get_or (x ∷ xs) (place_of (x ∷ xs) 0) d)
      go true e g r = rw (at_place x xs true e)
      go false e g r = rw (at_place x xs false e) (r (omega (arith, rw (at_place x xs false e) at g)))

  pub find_nowhere : (l : List A) → place_of l 0 ≡ length l → find p l ≡ None
  find_nowhere [] h = refl
  find_nowhere (x ∷ xs) h = go (p x) refl h (find_nowhere xs)
    where
      go : (b : Bool) → p x ≡ b → place_of (x ∷ xs) 0 ≡ suc (length xs) → (place_of xs 0 ≡ length xs → find p xs ≡ None) → cond b (Some x) (find p xs) ≡ None
      go true e g r = absurd (omega (arith, rw (at_place x xs true e) at g))
      go false e g r = r (omega (arith, rw (at_place x xs false e) at g))

-- ---- in an ascending list a change of the elements of one key is a change at one place
module _ {A : Type 0} (k : A → ℕ) (v : ℕ) where
  abbrev pub key_place : List A → ℕ
  key_place l = place_of (λ a. eqb (k a) v) l 0

module _ {A : Type 0} (k : A → ℕ) (v : ℕ) (f : A → A) where
  abbrev pub changed : A → A
  changed a = cond (eqb (k a) v) (f a) a

  unchanged : (b : ℕ) (l : List A) → Yes (from k b l) → v < b → map changed l ≡ l
  unchanged b [] t h = refl
  unchanged b (x ∷ xs) t h =
      let g : b ≤ k x = from→ k {a = x} b {l = x ∷ xs} t (Memᴰ.head refl) in
      let q : eqb (k x) v ≡ false = ne_eqb (k x) v (λ e. omega arith) in
      rw (q, unchanged (suc (k x)) xs (rest k b x xs t) (omega arith))

  pub change_one : (b : ℕ) (l : List A) (d : A) → Yes (from k b l) → key_place k v l < length l → map changed l ≡ set l (key_place k v l) (f (get_or l (key_place k v l) d))
  change_one b [] d t h = absurd (omega arith)
  change_one b (x ∷ xs) d t h = go (eqb (k x) v) refl h (change_one (suc (k x)) xs d (rest k b x xs t))
    where
      go : (c : Bool) → eqb (k x) v ≡ c → key_place k v (x ∷ xs) < suc (length xs) → (key_place k v xs < length xs → map changed xs ≡ set xs (key_place k v xs) (f (get_or xs (key_place k v xs) d))) → map changed (x ∷ xs) ≡ set (x ∷ xs) (key_place k v (x ∷ xs)) (f (get_or (x ∷ xs) (key_place k v (x ∷ xs)) d))
      go true e g r = rw (at_place (λ a. eqb (k a) v) x xs true e, e, unchanged (suc (k x)) xs (rest k b x xs t) (omega (arith, eqb-true (k x) v e)))
      go false e g r = let q = at_place (λ a. eqb (k a) v) x xs false e in rw (q, e, r (omega (arith, rw q at g)))

-- ---- whether a test keeps anything, by the length of what it keeps
module _ {A : Type 0} (p : A → Bool) (l : List A) where
  pub none_kept : length (filter p l) ≡ 0 → any p l ≡ false
  none_kept e = →no (any p l) (λ t. let w = any→ p l t in some_in (→filter p l w.1 w.2) e)
    where
      some_in : {m : List A} {a : A} → Mem a m → length m ≡ 0 → ⊥
      some_in {m = []} {a = a} x'' e = elim x'' [ ]
      some_in {m = x ∷ xs} (Memᴰ.head q) e = omega arith
      some_in {m = x ∷ xs} (Memᴰ.tail n) e = omega arith

  pub some_kept : (length (filter p l) ≡ 0 → ⊥) → any p l ≡ true
  some_kept f = by (any p l) (any p l ≡ true) (λ t. t) (λ n. absurd (f (ap length (filter_none p l n))))
