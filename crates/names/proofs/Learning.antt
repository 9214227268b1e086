-- A table with one name more: its count, its entries, its names; and that it is right where the old one was.
-- Assumes nothing.
use mathlib.Core.Path.{◌≡◌, refl, sym, ap, ◌∙◌, subst}
use mathlib.Core.Bool.{Bool}
use mathlib.Core.List.{List, [], ◌∷◌, ◌++◌}
use Prim.Native.Nat.{ℕ, zero, suc, ◌+◌, ◌-◌, ◌*◌, ◌/◌, ◌%◌, ◌≤◌, ◌<◌}
use native.Mathlib.Decide.{ℕ_discrete}
use native.Mathlib.Numerals.{add-one, one-add}
use native.Mathlib.Omega.{arith}
use lib.Dec.{eqb, leb}
use lib.ListN.{length, take, drop}
use lib.Seq.{take-append_seam, drop-append_seam, take-append-add, drop-drop}
use borrow.Author.Tests.{le-leb}
use Rattle.lists.specs.Tests.{◌and◌, ◌imp◌, Yes, No}
use Rattle.lists.specs.Below.{all_below}
use Rattle.lists.specs.Places.{splice}
use Rattle.lists.proofs.Tests.{and_l, and_r, and_i}
use Rattle.lists.proofs.Below.{all_of, all_at}
use Rattle.lists.proofs.Places.{length_splice}
use Rattle.names.specs.Bytes.{folded, known}
use Rattle.names.specs.Table.{longest, most, entry_size, table_size, count_bytes, count_of, entry_start, entry_at, length_of, name_of, rest_of, names_of, zeros, right_entry, right_table, learned}
use Rattle.names.proofs.Lists.{names_same, names_last, once_more}
use Rattle.names.proofs.Puts.{part_before, drop_there, drop_after}
use Rattle.names.proofs.Right.{right_size, right_entries, right_past, right_once, make_right}

-- ---- zeros
pub zeros_take : (k : ℕ) (b : List ℕ) → Yes (zeros b) → Yes (zeros (take k b))
unfolding zeros
zeros_take zero b y = refl
zeros_take (suc k) [] y = refl
zeros_take (suc k) (x ∷ xs) y = and_i (eqb x 0) (zeros (take k xs)) (and_l (eqb x 0) (zeros xs) y) (zeros_take k xs (and_r (eqb x 0) (zeros xs) y))

pub zeros_drop : (k : ℕ) (b : List ℕ) → Yes (zeros b) → Yes (zeros (drop k b))
unfolding zeros
zeros_drop zero b y = y
zeros_drop (suc k) [] y = refl
zeros_drop (suc k) (x ∷ xs) y = zeros_drop k xs (and_r (eqb x 0) (zeros xs) y)

-- ---- the two bytes of the count
module _ (u : List ℕ) (x y : ℕ) where
  counted : count_of (splice u 0 (x ∷ y ∷ [])) ≡ x + y * 256
  unfolding count_of splice
  counted = refl

  -- they stand before all entries
  past_count_lem : (k : ℕ) → drop (2 + k) (splice u 0 (x ∷ y ∷ [])) ≡ drop (2 + k) u
  unfolding splice
  past_count_lem k = sym (drop-drop k 2 (x ∷ y ∷ drop 2 u)) ∙ drop-drop k 2 u

-- ---- a right table learns the name b
module _ (f : Bool) (t b : List ℕ) (y : Yes (right_table f t)) (room : count_of t < most) (short : length b ≤ longest) where
  abbrev n : ℕ
  n = count_of t

  abbrev with_entry : List ℕ
  with_entry = splice t (entry_start n) (length b ∷ b)

  start_in : entry_start n + entry_size ≤ length t
  start_in = omega (arith, right_size f t y)

  start_le : entry_start n ≤ length t
  start_le = omega (arith, start_in)

  long : length with_entry ≡ table_size
  long = length_splice t (entry_start n) (length b ∷ b) (omega (arith, start_in)) ∙ right_size f t y

  pub learned_size : length (learned t b) ≡ table_size
  unfolding learned
  learned_size = length_splice with_entry 0 (count_bytes (n + 1)) (omega (arith, long)) ∙ long

  pub learned_count : count_of (learned t b) ≡ n + 1
  unfolding learned
  learned_count = counted with_entry ((n + 1) % 256) ((n + 1) / 256) ∙ omega arith

  -- every entry but the new one has its bytes
  from_entry : (i : ℕ) → drop (entry_start i) (learned t b) ≡ drop (entry_start i) with_entry
  unfolding learned
  from_entry i = past_count_lem with_entry ((n + 1) % 256) ((n + 1) / 256) (i * entry_size)

  pub entry_before : (i : ℕ) → i < n → entry_at (learned t b) i ≡ entry_at t i
  unfolding entry_at
  entry_before i h = ap (take entry_size) (from_entry i) ∙ part_before t (length b ∷ b) (entry_start n) start_le (entry_start i) entry_size (omega arith)

  past_entry : (i : ℕ) → n < i → drop (entry_start i) (learned t b) ≡ drop (entry_start i) t
  past_entry i h = from_entry i ∙ drop_after t (length b ∷ b) (entry_start n) start_le (entry_start i) (omega arith)

  pub entry_past : (i : ℕ) → n < i → entry_at (learned t b) i ≡ entry_at t i
  unfolding entry_at
  entry_past i h = ap (take entry_size) (past_entry i h)

  -- the new entry
  abbrev blank : List ℕ
  blank = take (longest - length b) (drop (entry_start n + length (length b ∷ b)) t)

  pub entry_new : entry_at (learned t b) n ≡ length b ∷ (b ++ blank)
  unfolding entry_at
  entry_new =
      let e : length b + (longest - length b) ≡ longest = omega arith in
      ap (take entry_size) (from_entry n ∙ drop_there t (length b ∷ b) (entry_start n) start_le)
      ∙ ap (λ (l : List ℕ). length b ∷ l)
      (subst (λ (k : ℕ). take k (b ++ drop (entry_start n + length (length b ∷ b)) t) ≡ b ++ blank) e (take-append-add b (drop (entry_start n + length (length b ∷ b)) t) (longest - length b)))

  pub name_new : name_of (entry_at (learned t b) n) ≡ b
  unfolding name_of
  name_new = rw entry_new (take-append_seam b blank)

  blank_zero : Yes (zeros blank)
  blank_zero =
      zeros_take (longest - length b) (drop (entry_start n + length (length b ∷ b)) t)
      (rw (← (drop-drop (length (length b ∷ b)) (entry_start n) t)) (zeros_drop (length (length b ∷ b)) (drop (entry_start n) t) (right_past f t y)))

  rest_new : Yes (zeros (rest_of (entry_at (learned t b) n)))
  unfolding rest_of
  rest_new = rw (entry_new, one-add (length b), drop-append_seam b blank) blank_zero

  -- ---- its names
  pub learned_names : names_of (learned t b) ≡ names_of t ++ (b ∷ [])
  unfolding names_of
  learned_names =
      let z : 0 + n ≡ n = omega arith in
      rw (learned_count, add-one n, names_last (learned t b) 0 n, z, name_new, names_same (learned t b) t 0 n (λ j h g. entry_before j (omega arith)))

  -- ---- it is right
  right_new : Yes (f imp folded b) → Yes (right_entry f (entry_at (learned t b) n))
  unfolding right_entry
  right_new g =
      let e : length_of (entry_at (learned t b) n) ≡ length b = rw entry_new in
      and_i (leb (length_of (entry_at (learned t b) n)) longest and zeros (rest_of (entry_at (learned t b) n))) (f imp folded (name_of (entry_at (learned t b) n)))
      (and_i (leb (length_of (entry_at (learned t b) n)) longest) (zeros (rest_of (entry_at (learned t b) n))) (le-leb (length_of (entry_at (learned t b) n)) longest (omega (arith, e))) rest_new)
      (rw name_new g)

  learned_entries : Yes (f imp folded b) → Yes (all_below (count_of (learned t b)) (λ i. right_entry f (entry_at (learned t b) i)))
  learned_entries g = rw learned_count (all_of (n + 1) (λ i. right_entry f (entry_at (learned t b) i)) (λ i h. elim (ℕ_discrete i n) [
    | yes e ↦ rw e (right_new g)
    | no e ↦ rw (entry_before i (omega arith)) (all_at n (λ i. right_entry f (entry_at t i)) (right_entries f t y) i (omega arith))
  ]))

  learned_past : Yes (zeros (drop (entry_start (count_of (learned t b))) (learned t b)))
  learned_past =
      let e : entry_start (n + 1) ≡ entry_start n + entry_size = omega arith in
      rw (learned_count, past_entry (n + 1) (omega arith), e, ← (drop-drop entry_size (entry_start n) t)) (zeros_drop entry_size (drop (entry_start n) t) (right_past f t y))

  pub learned_right : Yes (f imp folded b) → No (known b (names_of t)) → Yes (right_table f (learned t b))
  learned_right g k =
      make_right f (learned t b) learned_size (omega (arith, learned_count)) (learned_entries g) learned_past
      (rw learned_names (once_more b (names_of t) (right_once f t y) k))
