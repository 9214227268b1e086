-- The answers, check by check: each law has what the checks before it found.
-- Assumes nothing.
use mathlib.Core.Path.{◌≡◌, sym, ap, ◌∙◌}
use mathlib.Core.Bool.{Bool}
use mathlib.Core.List.{List, [], ◌∷◌}
use Prim.Native.Nat.{ℕ, ◌+◌, ◌≤◌, ◌<◌}
use native.Mathlib.Omega.{arith}
use lib.Dec.{ltb}
use lib.ListN.{length, get_or, drop}
use lib.Seq.{get_or-take, get_or-drop}
use borrow.Author.Tests.{lt-ltb, le-ltb, le-leb, lt-leb}
use Rattle.lists.specs.Tests.{non, Yes, No}
use Rattle.lists.specs.Places.{splice}
use Rattle.std.specs.Prelude.{Ok, Err, Some, None}
use Rattle.names.specs.declared.TableRefusal.{TableRefusal}
use Rattle.names.specs.declared.TableRefusal.TheVariants as table
use Rattle.names.specs.declared.NameRefusal.TheVariants.{BadTable, NameTooLong, NamesFull}
use Rattle.names.specs.declared.Named.TheVariants.{Known, Learned}
use Rattle.names.specs.Bytes.{kept, known, place_of}
use Rattle.names.specs.Table.{longest, most, entry_size, count_bytes, count_of, entry_start, entry_at, name_of, names_from, names_of, right_table, learned}
use Rattle.names.specs.Answers.{count_in, done, number_of, place, place_at, name_at}
use Rattle.names.proofs.Bytes.{kept_length}
use Rattle.names.proofs.Lists.{known_place, names_length}

-- ---- how many names
module _ (f : Bool) (t : List ℕ) where
  pub no_count : (e : TableRefusal) → No (right_table f t) → Err e ≡ count_in f t
  unfolding count_in non
  no_count table.BadTable g = rw g

  pub counts : (n : ℕ) → Yes (right_table f t) → n ≡ count_of t → Ok n ≡ count_in f t
  unfolding count_in non
  counts n g q = rw (g, q)

-- ---- a name's number
module _ (f : Bool) (t name : List ℕ) where
  pub bad_table : No (right_table f t) → done (Err BadTable) t ≡ number_of f t name
  unfolding number_of non
  bad_table g = rw g

  module _ (g : Yes (right_table f t)) where
    pub too_long : longest < length name → done (Err NameTooLong) t ≡ number_of f t name
    unfolding number_of non
    too_long h = rw (g, lt-ltb longest (length name) h)

    module _ (h : length name ≤ longest) (n p : ℕ) (q : n ≡ count_of t) (v : p ≡ place_of (kept f name) (names_from t 0 n)) where
      place_there : p ≡ place_of (kept f name) (names_of t)
      unfolding names_of
      place_there = v ∙ ap (λ (k : ℕ). place_of (kept f name) (names_from t 0 k)) q

      is_known : known (kept f name) (names_of t) ≡ ltb p n
      unfolding names_of
      is_known =
          known_place (kept f name) (names_from t 0 (count_of t))
          ∙ ap (ltb (place_of (kept f name) (names_from t 0 (count_of t)))) (names_length t 0 (count_of t) ∙ sym q)
          ∙ ap (λ (k : ℕ). ltb k n) (sym place_there)

      pub there : p < n → done (Ok (Known p)) t ≡ number_of f t name
      unfolding number_of non
      there k = rw (g, le-ltb longest (length name) h, is_known, lt-ltb p n k, ← place_there)

      pub full : n ≤ p → most ≤ n → done (Err NamesFull) t ≡ number_of f t name
      unfolding number_of non
      full k l = rw (g, le-ltb longest (length name) h, is_known, le-ltb p n k, ← q, le-leb most n l)

      pub taught : (x : List ℕ) → n ≤ p → n < most → x ≡ splice (splice t (entry_start n) (length name ∷ kept f name)) 0 (count_bytes (n + 1)) → done (Ok (Learned n)) x ≡ number_of f t name
      unfolding number_of learned non
      taught x k l e = rw (g, le-ltb longest (length name) h, is_known, le-ltb p n k, ← q, lt-leb most n l, kept_length f name, e)

-- ---- a number's name
module _ (f : Bool) (t : List ℕ) (i : ℕ) where
  pub no_place : (e : TableRefusal) → No (right_table f t) → Err e ≡ place_at f t i
  unfolding place_at non
  no_place table.BadTable g = rw g

  pub no_name : No (right_table f t) → [] ≡ name_at f t i
  unfolding name_at non
  no_name g = rw g

  module _ (g : Yes (right_table f t)) (n : ℕ) (q : n ≡ count_of t) where
    pub past_place : n ≤ i → Ok None ≡ place_at f t i
    unfolding place_at non
    past_place h = rw (g, ← q, le-leb n i h)

    pub past_name : n ≤ i → [] ≡ name_at f t i
    unfolding name_at non
    past_name h = rw (g, ← q, le-leb n i h)

    pub found : i < n → Ok (Some (place (entry_start i + 1) (get_or t (entry_start i) 0))) ≡ place_at f t i
    unfolding place_at entry_at non
    found h =
        let a : entry_start i + 0 ≡ entry_start i = omega arith in
        rw (g, ← q, lt-leb n i h, get_or-take entry_size (drop (entry_start i) t) 0 0 (omega arith), get_or-drop (entry_start i) t 0 0, a)

    pub named : (x : List ℕ) → i < n → x ≡ name_of (entry_at t i) → x ≡ name_at f t i
    unfolding name_at non
    named x h w = rw (g, ← q, lt-leb n i h) w
