-- Laws of a table's entries, as parts of its bytes, and of the test of one.
-- Assumes nothing.
use mathlib.Core.Path.{◌≡◌, refl, sym, ap, ◌∙◌}
use mathlib.Core.Bool.{Bool, true, false}
use mathlib.Core.List.{List}
use Prim.Native.Nat.{ℕ, ◌+◌, ◌-◌, ◌*◌, ◌≤◌, ◌<◌}
use native.Mathlib.Omega.{arith}
use lib.Dec.{leb}
use lib.ListN.{length, get_or, take, drop, length-take, length-drop}
use lib.Seq.{take_all}
use borrow.Author.Tests.{le-leb, lt-leb, leb-true}
use Rattle.lists.specs.Tests.{◌and◌, ◌imp◌, Yes}
use Rattle.lists.specs.Below.{all_below}
use Rattle.lists.proofs.Tests.{and_l, and_t, and_f}
use Rattle.lists.proofs.Below.{all_of, all_at, all_no}
use Rattle.names.specs.Bytes.{folded}
use Rattle.names.specs.Table.{most, entry_size, table_size, longest, count_of, entry_start, entry_at, length_of, name_of, rest_of, zeros, right_entry}
use Rattle.names.specs.Code.{short_names}

pub count_bytes_lem : (t : List ℕ) → get_or t 0 0 + get_or t 1 0 * 256 ≡ count_of t
unfolding count_of
count_bytes_lem t = refl

-- ---- the parts that the code takes
pub entry_part : (t : List ℕ) (i : ℕ) → take (entry_start i + entry_size - entry_start i) (drop (entry_start i) t) ≡ entry_at t i
unfolding entry_at
entry_part t i = let e : entry_start i + entry_size - entry_start i ≡ entry_size = omega arith in rw e

pub name_part : (e : List ℕ) → take (1 + length_of e - 1) (drop 1 e) ≡ name_of e
unfolding name_of
name_part e = let q : 1 + length_of e - 1 ≡ length_of e = omega arith in rw q

-- a part that goes to the end
pub to_end : (t : List ℕ) (a : ℕ) → take (length t - a) (drop a t) ≡ drop a t
to_end t a = take_all (length t - a) (drop a t) (omega (arith, length-drop a t))

pub entry_long : (t e : List ℕ) (i : ℕ) → length t ≡ table_size → i < most → e ≡ entry_at t i → length e ≡ entry_size
unfolding entry_at
entry_long t e i l h q = ap length q ∙ simp (length-take, length-drop) (omega arith)

-- ---- the test of an entry
module _ (f : Bool) (e : List ℕ) where
  pub too_long : longest < length_of e → false ≡ right_entry f e
  unfolding right_entry
  too_long h = rw (and_f (leb (length_of e) longest) (zeros (rest_of e)) (lt-leb (length_of e) longest h)) (sym (and_f false _ refl))

  module _ (h : length_of e ≤ longest) (z : Bool) (q : z ≡ zeros (take (length e - (1 + length_of e)) (drop (1 + length_of e) e))) where
    entry_rest : right_entry f e ≡ (z and (f imp folded (name_of e)))
    unfolding right_entry rest_of
    entry_rest = rw (and_t (leb (length_of e) longest) (zeros (drop (1 + length_of e) e)) (le-leb (length_of e) longest h), q, to_end e (1 + length_of e))

    pub not_unused : z ≡ false → false ≡ right_entry f e
    not_unused g = sym (entry_rest ∙ and_f z _ g)

    pub as_it_is : z ≡ true → f ≡ false → true ≡ right_entry f e
    unfolding ◌imp◌
    as_it_is g k = sym (entry_rest ∙ and_t z _ g ∙ rw k)

    pub if_folded : (n : List ℕ) (r : Bool) → z ≡ true → f ≡ true → n ≡ name_of e → r ≡ folded n → r ≡ right_entry f e
    unfolding ◌imp◌
    if_folded n r g k p u = u ∙ ap folded p ∙ sym (entry_rest ∙ and_t z _ g ∙ rw k)

pub right_entry_lem : (f : Bool) (t e : List ℕ) (i : ℕ) (r : Bool) → e ≡ entry_at t i → r ≡ right_entry f e → r ≡ true → right_entry f (entry_at t i) ≡ true
right_entry_lem f t e i r q u g = ap (right_entry f) (sym q) ∙ sym u ∙ g

-- ---- all entries below the count
module _ (f : Bool) (t : List ℕ) (n : ℕ) where
  pub wrong_entry : (i : ℕ) (e : List ℕ) (r : Bool) → i < n → e ≡ entry_at t i → r ≡ right_entry f e → r ≡ false → false ≡ all_below n (λ i. right_entry f (entry_at t i))
  wrong_entry i e r h q u g = sym (all_no n (λ i. right_entry f (entry_at t i)) i h (ap (right_entry f) (sym q) ∙ sym u ∙ g))

  pub right_entries : (i : ℕ) → n ≤ i → ((k : ℕ) → k < i → right_entry f (entry_at t k) ≡ true) → true ≡ all_below n (λ i. right_entry f (entry_at t i))
  right_entries i h g = sym (all_of n (λ i. right_entry f (entry_at t i)) (λ k l. g k (omega arith)))

  -- so their names are short enough to be read
  pub short_names_lem : Yes (all_below n (λ i. right_entry f (entry_at t i))) → Yes (short_names n t)
  unfolding short_names right_entry
  short_names_lem y = all_of n (λ i. leb (length_of (entry_at t i)) longest) (λ i h.
      and_l _ (zeros (rest_of (entry_at t i))) (and_l _ (f imp folded (name_of (entry_at t i))) (all_at n (λ i. right_entry f (entry_at t i)) y i h)))

pub short_at : (t e : List ℕ) (n i : ℕ) → Yes (short_names n t) → i < n → e ≡ entry_at t i → length_of e ≤ longest
unfolding short_names
short_at t e n i y h q = rw q (leb-true (length_of (entry_at t i)) longest (all_at n (λ i. leb (length_of (entry_at t i)) longest) y i h))

pub fewer_short : (t : List ℕ) (n i : ℕ) → i ≤ n → Yes (short_names n t) → Yes (short_names i t)
unfolding short_names
fewer_short t n i h y = all_of i (λ j. leb (length_of (entry_at t j)) longest) (λ j k. all_at n (λ j. leb (length_of (entry_at t j)) longest) y j (omega arith))
