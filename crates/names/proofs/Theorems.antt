-- What holds of every table and every name, over the definitions.
-- Assumes nothing.
use mathlib.Core.Path.{◌≡◌, refl, sym, ap, ◌∙◌, subst}
use mathlib.Core.Bool.{Bool, true, false, cond, true≢false, false≢true}
use mathlib.Core.List.{List, [], ◌∷◌}
use Prim.Native.Nat.{ℕ, ◌+◌, ◌≤◌, ◌<◌}
use native.Mathlib.Omega.{arith}
use lib.Dec.{eqb, leb, ltb}
use lib.Seq.{take-take, drop-drop}
use lib.ListN.{length, get_or, take, drop}
use borrow.Author.Tests.{leb-true, leb-false, ltb-true, ltb-false, eqb-true, le-ltb, lt-leb}
use Rattle.lists.specs.Tests.{non, ◌and◌, Yes, No}
use Rattle.lists.specs.Below.{all_below}
use Rattle.lists.proofs.Lists.{all→}
use Rattle.lists.proofs.Places.{mem_at}
use Rattle.lists.proofs.Tests.{non_yes, or_l, or_r, cond_both}
use Rattle.std.specs.Prelude.{Result, Ok, Err, Option, Some}
use Rattle.names.specs.declared.TableRefusal.{TableRefusal}
use Rattle.names.specs.declared.TableRefusal.TheVariants as table
use Rattle.names.specs.declared.NameRefusal.{NameRefusal}
use Rattle.names.specs.declared.NameRefusal.TheVariants.{BadTable, NameTooLong, NamesFull}
use Rattle.names.specs.declared.Named.{Named}
use Rattle.names.specs.declared.Named.TheVariants.{Known, Learned}
use Rattle.names.specs.declared.Place.{Place}
use Rattle.names.specs.Bytes.{is_upper, fold1, keep1, kept, known, place_of, none_twice}
use Rattle.names.specs.Table.{longest, most, entry_size, table_size, count_of, entry_start, entry_at, length_of, name_of, names_from, names_of, zeros, right_table, learned}
use Rattle.names.specs.Answers.{count_in, values_count, Done, done, number_of, paper_of, values_of, is_new, place, place_at, name_at}
use Rattle.names.proofs.Bytes.{→same, kept_length, kept_folded}
use Rattle.names.proofs.Lists.{non_no, known_last, place_kept, place_last, at_place, names_count, place_below, names_at}
use Rattle.names.proofs.Entries.{short_at}
use Rattle.names.proofs.Right.{right_size, right_count, right_short, make_right}
use Rattle.names.proofs.Learning.{zeros_drop, learned_size, learned_count, learned_names, learned_right, entry_before, entry_past}

-- ---- the five answers, and what led to each
module _ (f : Bool) (t name : List ℕ) where
  pub answers : (P : Done → Type 0)
      → (No (right_table f t) → P (done (Err BadTable) t))
      → (Yes (right_table f t) → longest < length name → P (done (Err NameTooLong) t))
      → (Yes (right_table f t) → length name ≤ longest → Yes (known (kept f name) (names_of t)) → P (done (Ok (Known (place_of (kept f name) (names_of t)))) t))
      → (Yes (right_table f t) → length name ≤ longest → No (known (kept f name) (names_of t)) → most ≤ count_of t → P (done (Err NamesFull) t))
      → (Yes (right_table f t) → length name ≤ longest → No (known (kept f name) (names_of t)) → count_of t < most → P (done (Ok (Learned (count_of t))) (learned t (kept f name))))
      → P (number_of f t name)
  unfolding number_of
  answers P a b c d e =
      cond_both P _ _ (non (right_table f t)) (λ n. a (non_yes (right_table f t) n))
      (λ y. cond_both P _ _ (ltb longest (length name)) (λ h. b (non_no (right_table f t) y) (ltb-true longest (length name) h))
      (λ h. cond_both P _ _ (known (kept f name) (names_of t)) (λ k. c (non_no (right_table f t) y) (ltb-false longest (length name) h) k)
      (λ k. cond_both P _ _ (leb most (count_of t)) (λ r. d (non_no (right_table f t) y) (ltb-false longest (length name) h) k (leb-true most (count_of t) r))
      (λ r. e (non_no (right_table f t) y) (ltb-false longest (length name) h) k (leb-false most (count_of t) r)))))

  -- a known name's number, in a full table too
  pub knows : Yes (right_table f t) → length name ≤ longest → Yes (known (kept f name) (names_of t)) → number_of f t name ≡ done (Ok (Known (place_of (kept f name) (names_of t)))) t
  unfolding number_of non
  knows y h k = rw (y, le-ltb longest (length name) h, k)

  -- a new name that is short enough is learned while there is room, and only refused for want of it
  pub learns : Yes (right_table f t) → length name ≤ longest → No (known (kept f name) (names_of t)) → count_of t < most → number_of f t name ≡ done (Ok (Learned (count_of t))) (learned t (kept f name))
  unfolding number_of non
  learns y h k r = rw (y, le-ltb longest (length name) h, k, lt-leb most (count_of t) r)

  short : length name ≤ longest → length (kept f name) ≤ longest
  short h = omega (arith, kept_length f name)

  -- ---- learning keeps a right table right, and a wrong one wrong
  pub stays_right : right_table f (number_of f t name).table ≡ right_table f t
  stays_right = answers (λ d. right_table f d.table ≡ right_table f t) (λ n. refl) (λ y h. refl) (λ y h k. refl) (λ y h k r. refl)
      (λ y h k r. learned_right f t (kept f name) y r (short h) (kept_folded f name) k ∙ sym y)

  -- ---- a refusal leaves every byte, and so does a known name
  pub old_leaves : is_new (number_of f t name).told ≡ false → (number_of f t name).table ≡ t
  old_leaves = answers (λ d. is_new d.told ≡ false → d.table ≡ t) (λ n e. refl) (λ y h e. refl) (λ y h k e. refl) (λ y h k r e. refl) (λ y h k r e. absurd (true≢false e))

  pub refusal_leaves : (paper_of (number_of f t name).told ≡ 0 → ⊥) → (number_of f t name).table ≡ t
  refusal_leaves = answers (λ d. (paper_of d.told ≡ 0 → ⊥) → d.table ≡ t) (λ n e. refl) (λ y h e. refl) (λ y h k e. refl) (λ y h k r e. refl) (λ y h k r e. absurd (e refl))

  -- ---- a new name changes only the count and the next entry
  pub new_changes : is_new (number_of f t name).told ≡ true
      → ((number_of f t name).told ≡ Ok (Learned (count_of t))) × (length (number_of f t name).table ≡ length t) × (count_of (number_of f t name).table ≡ count_of t + 1)
      × ((i : ℕ) → i < count_of t → entry_at (number_of f t name).table i ≡ entry_at t i) × ((i : ℕ) → count_of t < i → entry_at (number_of f t name).table i ≡ entry_at t i)
  new_changes =
      answers
      (λ d. is_new d.told ≡ true → (d.told ≡ Ok (Learned (count_of t))) × (length d.table ≡ length t) × (count_of d.table ≡ count_of t + 1) × ((i : ℕ) → i < count_of t → entry_at d.table i ≡ entry_at t i) × ((i : ℕ) → count_of t < i → entry_at d.table i ≡ entry_at t i))
      (λ n e. absurd (false≢true e))
      (λ y h e. absurd (false≢true e))
      (λ y h k e. absurd (false≢true e))
      (λ y h k r e. absurd (false≢true e))
      (λ y h k r e.
      (refl, learned_size f t (kept f name) y r (short h) ∙ sym (right_size f t y), learned_count f t (kept f name) y r (short h), entry_before f t (kept f name) y r (short h), entry_past f t (kept f name) y r (short h)))

-- ---- a number's name
entry_name : (f : Bool) (t : List ℕ) (i : ℕ) → Yes (right_table f t) → i < count_of t → name_at f t i ≡ name_of (entry_at t i)
unfolding name_at non
entry_name f t i y h = rw (y, lt-leb (count_of t) i h)

name_place : (f : Bool) (t : List ℕ) (i : ℕ) → Yes (right_table f t) → i < count_of t → name_at f t i ≡ get_or (names_of t) i []
unfolding names_of
name_place f t i y h = let e : 0 + i ≡ i = omega arith in entry_name f t i y h ∙ sym (rw (names_at t 0 (count_of t) i h, e))

-- ---- what an answer with a number says: the number is the name's place in the table as the call leaves it
pub record Placed (f : Bool) (name : List ℕ) (k : ℕ) (u : List ℕ) : Type 0 where
  pub right : Yes (right_table f u)
  pub fits : length name ≤ longest
  pub there : Yes (known (kept f name) (names_of u))
  pub number : place_of (kept f name) (names_of u) ≡ k

module _ (f : Bool) (t name : List ℕ) where
  abbrev after : List ℕ
  after = (number_of f t name).table

  pub placed : (k : ℕ) → values_of (number_of f t name).told ≡ k ∷ [] → Placed f name k after
  placed k = answers f t name (λ d. values_of d.told ≡ k ∷ [] → Placed f name k d.table)
      (λ n e. absurd (none e)) (λ y h e. absurd (none e))
      (λ y h w e. record { right = y; fits = h; there = w; number = one e })
      (λ y h w r e. absurd (none e))
      (λ y h w r e. record {
        right = learned_right f t (kept f name) y r (short f t name h) (kept_folded f name) w;
        fits = h;
        there = rw (learned_names f t (kept f name) y r (short f t name h), known_last (kept f name) (kept f name) (names_of t)) (or_r (known (kept f name) (names_of t)) _ (→same (kept f name) (kept f name) refl));
        number = rw (learned_names f t (kept f name) y r (short f t name h)) (place_last (kept f name) (names_of t) w) ∙ count ∙ one e;
      })
    where
      none : ◌≡◌ {A = List ℕ} [] (k ∷ []) → ⊥
      none e = let z : ◌≡◌ {A = ℕ} 0 1 = cc in omega arith

      one : {j : ℕ} → ◌≡◌ {A = List ℕ} (j ∷ []) (k ∷ []) → j ≡ k
      one e = cc

      count : length (names_of t) ≡ count_of t
      count = names_count t

  -- ---- numbers are below 256, and below the count
  pub below_256 : (k : ℕ) → values_of (number_of f t name).told ≡ k ∷ [] → (k < count_of after) × (count_of after ≤ most)
  below_256 k e = let p = placed k e in (omega (arith, place_below after (kept f name) p.there, p.number), right_count f after p.right)

  -- ---- a name that has a number gets it again, in any case of its letters where the table folds
  pub asked_again : (x : List ℕ) (k : ℕ) → kept f x ≡ kept f name → values_of (number_of f t name).told ≡ k ∷ [] → number_of f after x ≡ done (Ok (Known k)) after
  asked_again x k q e =
      let p = placed k e in
      let h : length x ≤ longest = omega (arith, p.fits, kept_length f x, kept_length f name, ap length q) in
      knows f after x p.right h (rw q p.there) ∙ ap (λ (j : ℕ). done (Ok (Known j)) after) (rw q p.number)

  -- ---- the number's name is the name, as the table keeps it
  pub read_back : (k : ℕ) → values_of (number_of f t name).told ≡ k ∷ [] → name_at f after k ≡ kept f name
  read_back k e =
      let p = placed k e in
      name_place f after k p.right (below_256 k e).0 ∙ ap (λ (j : ℕ). get_or (names_of after) j []) (sym p.number) ∙ at_place (kept f name) (names_of after) p.there

-- ---- every earlier name keeps its number, and every earlier number its name
module _ (f : Bool) (t name : List ℕ) where
  pub number_kept : (x : List ℕ) (k : ℕ) → number_of f t x ≡ done (Ok (Known k)) t → number_of f (after f t name) x ≡ done (Ok (Known k)) (after f t name)
  number_kept x k e = answers f t name (λ d. number_of f d.table x ≡ done (Ok (Known k)) d.table) (λ n. e) (λ y h. e) (λ y h w. e) (λ y h w r. e) (λ y h w r.
      let v : values_of (number_of f t x).told ≡ k ∷ [] = ap (λ (d : Done). values_of d.told) e in
      let p : Placed f x k t = subst (λ (u : List ℕ). Placed f x k u) (ap (λ (d : Done). d.table) e) (placed f t x k v) in
      let names = learned_names f t (kept f name) y r (short f t name h) in
      knows f (learned t (kept f name)) x (learned_right f t (kept f name) y r (short f t name h) (kept_folded f name) w) p.fits
      (rw (names, known_last (kept f x) (kept f name) (names_of t)) (or_l (known (kept f x) (names_of t)) _ p.there))
      ∙ ap (λ (j : ℕ). done (Ok (Known j)) (learned t (kept f name))) (rw (names, place_kept (kept f x) (kept f name) (names_of t) p.there) p.number))

  pub name_kept : (k : ℕ) → k < count_of t → name_at f (after f t name) k ≡ name_at f t k
  name_kept k g = answers f t name (λ d. name_at f d.table k ≡ name_at f t k) (λ n. refl) (λ y h. refl) (λ y h w. refl) (λ y h w r. refl) (λ y h w r.
      let q = learned_right f t (kept f name) y r (short f t name h) (kept_folded f name) w in
      entry_name f (learned t (kept f name)) k q (omega (arith, learned_count f t (kept f name) y r (short f t name h)))
      ∙ ap name_of (entry_before f t (kept f name) y r (short f t name h) k g) ∙ sym (entry_name f t k y g))

-- ---- names of one number are one name, as the table keeps it
pub one_name : (f : Bool) (t x y : List ℕ) (k : ℕ) → number_of f t x ≡ done (Ok (Known k)) t → number_of f t y ≡ done (Ok (Known k)) t → kept f x ≡ kept f y
one_name f t x y k e g = sym (back x e) ∙ back y g
  where
    back : (z : List ℕ) → number_of f t z ≡ done (Ok (Known k)) t → name_at f t k ≡ kept f z
    back z q = subst (λ (d : Done). name_at f d.table k ≡ kept f z) q (read_back f t z k (ap (λ (d : Done). values_of d.told) q))

-- ---- the number, the values and whether the name is new say the whole answer
from_paper : ℕ → List ℕ → Bool → Result Named NameRefusal
from_paper p [] n = Err (cond (eqb p 27) BadTable (cond (eqb p 22) NameTooLong NamesFull))
from_paper p (k ∷ ks) true = Ok (Learned k)
from_paper p (k ∷ ks) false = Ok (Known k)

back_again : (a : Result Named NameRefusal) → from_paper (paper_of a) (values_of a) (is_new a) ≡ a
unfolding from_paper
back_again (Err BadTable) = refl
back_again (Err NameTooLong) = refl
back_again (Err NamesFull) = refl
back_again (Ok (Known k)) = refl
back_again (Ok (Learned k)) = refl

pub paper_whole : (a b : Result Named NameRefusal) → paper_of a ≡ paper_of b → values_of a ≡ values_of b → is_new a ≡ is_new b → a ≡ b
paper_whole a b p v n = sym (back_again a) ∙ rw (p, v, n) (back_again b)

-- ---- the count of a right table is the number of its names, and its number and values say the whole answer
pub how_many : (f : Bool) (t : List ℕ) → Yes (right_table f t) → count_in f t ≡ Ok (length (names_of t))
unfolding count_in non
how_many f t y = rw (y, names_count t)

from_count : List ℕ → Result ℕ TableRefusal
from_count [] = Err table.BadTable
from_count (n ∷ ns) = Ok n

count_again : (a : Result ℕ TableRefusal) → from_count (values_count a) ≡ a
unfolding from_count
count_again (Err table.BadTable) = refl
count_again (Ok n) = refl

pub count_whole : (a b : Result ℕ TableRefusal) → values_count a ≡ values_count b → a ≡ b
count_whole a b e = sym (count_again a) ∙ ap from_count e ∙ count_again b

-- ---- a name in another case of its letters is answered alike, the first time too
pub same_letters : (f : Bool) (t x y : List ℕ) → kept f x ≡ kept f y → number_of f t x ≡ number_of f t y
unfolding number_of
same_letters f t x y e = let l : length x ≡ length y = sym (kept_length f x) ∙ ap length e ∙ kept_length f y in rw (e, l)

-- ---- a number's name is the part of the buffer that `place_at` tells
skip_length : (l : List ℕ) → drop 1 (take entry_size l) ≡ take longest (drop 1 l)
skip_length [] = refl
skip_length (x ∷ xs) = refl

part_of : (t : List ℕ) (i : ℕ) → length_of (entry_at t i) ≤ longest → name_of (entry_at t i) ≡ take (length_of (entry_at t i)) (drop (entry_start i + 1) t)
unfolding name_of entry_at
part_of t i h =
    let n = length_of (take entry_size (drop (entry_start i) t)) in
    ap (take n) (skip_length (drop (entry_start i) t)) ∙ take-take n longest (drop 1 (drop (entry_start i) t)) h ∙ ap (take n) (drop-drop 1 (entry_start i) t)

module _ (f : Bool) (t : List ℕ) (i s l : ℕ) where
  abbrev Told : Result (Option Place) TableRefusal → Type 0
  Told d = d ≡ Ok (Some (place s l)) → (s + l ≤ length t) × (name_at f t i ≡ take l (drop s t))

  there_it_is : Yes (right_table f t) → i < count_of t → Told (Ok (Some (place (entry_start i + 1) (length_of (entry_at t i)))))
  there_it_is y h e =
      let e : place (entry_start i + 1) (length_of (entry_at t i)) ≡ place s l = cc in
      let p : entry_start i + 1 ≡ s = ap (λ (x : Place). x.start) e in
      let q : length_of (entry_at t i) ≡ l = ap (λ (x : Place). x.len) e in
      let w = short_at t (entry_at t i) (count_of t) i (right_short f t y) h refl in
      (omega (arith, right_size f t y, right_count f t y), entry_name f t i y h ∙ part_of t i w ∙ rw (p, q))

  pub part_told : Told (place_at f t i)
  unfolding place_at
  part_told =
      cond_both Told _ _ (non (right_table f t)) (λ n e. absurd (let z : ◌≡◌ {A = ℕ} 0 1 = cc in omega arith))
      (λ y. cond_both Told _ _ (leb (count_of t) i) (λ h e. absurd (let z : ◌≡◌ {A = ℕ} 0 1 = cc in omega arith)) (λ h. there_it_is (non_no (right_table f t) y) (leb-false (count_of t) i h)))

-- ---- a buffer of zeros is a right table with no names: where an adapter starts
module _ (t : List ℕ) (l : length t ≡ table_size) (z : Yes (zeros t)) where
  zero_at : (i : ℕ) → i < table_size → get_or t i 0 ≡ 0
  unfolding zeros
  zero_at i h = eqb-true (get_or t i 0) 0 (all→ (λ x. eqb x 0) z (mem_at t i 0 (omega arith)))

  no_count : count_of t ≡ 0
  unfolding count_of
  no_count = omega (arith, zero_at 0 (omega arith), zero_at 1 (omega arith))

  pub empty_names : names_of t ≡ []
  unfolding names_of names_from
  empty_names = rw no_count

  pub empty_right : (f : Bool) → Yes (right_table f t)
  unfolding all_below none_twice
  empty_right f = make_right f t l (omega (arith, no_count)) (rw no_count) (rw no_count (zeros_drop 2 t z)) (rw empty_names)

-- ---- the ends of the letters, worked: `@AZ[`az{` is kept as `@az[`az{` by a table that folds, and as it is by one that does not
pub folds_letters : kept true (0x40 ∷ 0x41 ∷ 0x5A ∷ 0x5B ∷ 0x60 ∷ 0x61 ∷ 0x7A ∷ 0x7B ∷ []) ≡ 0x40 ∷ 0x61 ∷ 0x7A ∷ 0x5B ∷ 0x60 ∷ 0x61 ∷ 0x7A ∷ 0x7B ∷ []
unfolding kept keep1 fold1 is_upper ◌and◌
folds_letters = refl

pub keeps_letters : kept false (0x41 ∷ 0x61 ∷ []) ≡ 0x41 ∷ 0x61 ∷ []
unfolding kept keep1
keeps_letters = refl
