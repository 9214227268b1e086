-- The test of a table, check by check, and what a right table is.
-- Assumes nothing.
use mathlib.Core.Path.{◌≡◌, sym, ◌∙◌}
use mathlib.Core.Bool.{Bool, true, false}
use mathlib.Core.List.{List}
use Prim.Native.Nat.{ℕ, ◌-◌, ◌≤◌, ◌<◌}
use lib.Dec.{eqb, leb}
use lib.ListN.{length, take, drop}
use borrow.Author.Tests.{eq-eqb, ne_eqb, eqb-true, le-leb, lt-leb, leb-true}
use Rattle.lists.specs.Tests.{◌and◌, Yes, No}
use Rattle.lists.specs.Below.{all_below}
use Rattle.lists.proofs.Tests.{and_l, and_r, and_i}
use Rattle.names.specs.Bytes.{none_twice}
use Rattle.names.specs.Table.{most, table_size, count_of, entry_start, entry_at, names_from, names_of, zeros, right_entry, right_table}
use Rattle.names.specs.Code.{short_names}
use Rattle.names.proofs.Entries.{to_end, short_names_lem}

-- ---- the checks, each after those before it passed
module _ (f : Bool) (t : List ℕ) where
  pub other_size : (length t ≡ table_size → ⊥) → No (right_table f t)
  unfolding right_table ◌and◌
  other_size h = rw (ne_eqb (length t) table_size h)

  module _ (l : length t ≡ table_size) (n : ℕ) (q : n ≡ count_of t) where
    pub over_count : most < n → No (right_table f t)
    unfolding right_table ◌and◌
    over_count h = rw (eq-eqb (length t) table_size l, ← q, lt-leb n most h)

    module _ (h : n ≤ most) (r : Bool) (u : r ≡ all_below n (λ i. right_entry f (entry_at t i))) where
      pub entry_wrong : r ≡ false → No (right_table f t)
      unfolding right_table ◌and◌
      entry_wrong g = rw (eq-eqb (length t) table_size l, ← q, le-leb n most h, ← u, g)

      pub entries_short : r ≡ true → Yes (short_names n t)
      entries_short g = short_names_lem f t n (sym u ∙ g)

      module _ (g : r ≡ true) (z : Bool) (v : z ≡ zeros (take (length t - entry_start n) (drop (entry_start n) t))) where
        pub past_used : z ≡ false → No (right_table f t)
        unfolding right_table ◌and◌
        past_used p = rw (eq-eqb (length t) table_size l, ← q, le-leb n most h, ← u, g, ← (to_end t (entry_start n)), ← v, p)

        pub if_once : (w : Bool) → z ≡ true → w ≡ none_twice (names_from t 0 n) → right_table f t ≡ w
        unfolding right_table names_of ◌and◌
        if_once w p e = rw (eq-eqb (length t) table_size l, ← q, le-leb n most h, ← u, g, ← (to_end t (entry_start n)), ← v, p) (sym e)

-- ---- a right table
module _ (f : Bool) (t : List ℕ) where
  abbrev sized : Bool
  sized = eqb (length t) table_size

  abbrev counted : Bool
  counted = leb (count_of t) most

  abbrev entries : Bool
  entries = all_below (count_of t) (λ i. right_entry f (entry_at t i))

  abbrev past : Bool
  past = zeros (drop (entry_start (count_of t)) t)

  abbrev once : Bool
  once = none_twice (names_of t)

  module _ (y : Yes (right_table f t)) where
    pub right_once : Yes once
    unfolding right_table
    right_once = and_r (sized and counted and entries and past) once y

    pub right_past : Yes past
    unfolding right_table
    right_past = and_r (sized and counted and entries) past (and_l (sized and counted and entries and past) once y)

    pub right_entries : Yes entries
    unfolding right_table
    right_entries = and_r (sized and counted) entries (and_l (sized and counted and entries) past (and_l (sized and counted and entries and past) once y))

    front : Yes (sized and counted)
    unfolding right_table
    front = and_l (sized and counted) entries (and_l (sized and counted and entries) past (and_l (sized and counted and entries and past) once y))

    pub right_size : length t ≡ table_size
    right_size = eqb-true (length t) table_size (and_l sized counted front)

    pub right_count : count_of t ≤ most
    right_count = leb-true (count_of t) most (and_r sized counted front)

    pub right_short : Yes (short_names (count_of t) t)
    right_short = short_names_lem f t (count_of t) right_entries

  pub make_right : length t ≡ table_size → count_of t ≤ most → Yes entries → Yes past → Yes once → Yes (right_table f t)
  unfolding right_table
  make_right l h e p o =
      and_i (sized and counted and entries and past) once
      (and_i (sized and counted and entries) past
      (and_i (sized and counted) entries (and_i sized counted (eq-eqb (length t) table_size l) (le-leb (count_of t) most h)) e)
      p)
      o
