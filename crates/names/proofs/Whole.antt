-- A right table has its names and nothing else: it is the table of its names, and the table of lawful names has these.
-- Assumes nothing.
use mathlib.Core.Path.{◌≡◌, refl, sym, ap, ap₂, ◌∙◌, subst}
use mathlib.Core.Bool.{Bool}
use mathlib.Core.List.{List, [], ◌∷◌, ◌++◌, append_assoc}
use Prim.Native.Nat.{ℕ, zero, suc, ◌+◌, ◌-◌, ◌*◌, ◌/◌, ◌%◌, ◌≤◌, ◌<◌}
use native.Mathlib.Numerals.{one-add}
use native.Mathlib.Omega.{arith}
use lib.Dec.{eqb, leb}
use lib.ListN.{length, get_or, take, drop, replicate, take-append-drop, length-append, length-replicate, length-take, length-drop}
use lib.Seq.{ext_get_or, drop-drop, length-take-le, take-append_seam, drop-append_seam, take_at, drop_at}
use borrow.Author.Tests.{eq-eqb, eqb-true, le-leb, leb-true}
use Rattle.lists.specs.Tests.{◌and◌, ◌imp◌, Yes, No}
use Rattle.lists.specs.Lists.{all, Mem}
use Rattle.lists.specs.Places.{splice}
use Rattle.lists.proofs.Tests.{and_l, and_r, and_i}
use Rattle.lists.proofs.Lists.{all→, →all}
use Rattle.lists.proofs.Below.{all_of, all_at}
use Rattle.lists.proofs.Places.{mem_at, at_mem}
use Rattle.names.specs.Bytes.{folded, known, none_twice}
use Rattle.names.specs.Table.{longest, most, entry_size, first_entry, table_size, count_of, entry_start, entry_at, length_of, name_of, rest_of, names_from, names_of, zeros, right_entry, right_table, lawful_name, lawful_names, entry_of, entries_of, table_of, learned}
use Rattle.names.proofs.Entries.{entry_long, short_at}
use Rattle.names.proofs.Lists.{names_count, names_length, names_at}
use Rattle.names.proofs.Right.{right_size, right_count, right_short, right_entries, right_past, right_once, make_right}
use Rattle.names.proofs.Learning.{learned_count, learned_names, learned_right}

-- ---- zeros
blanks : (b : List ℕ) → Yes (zeros b) → b ≡ replicate (length b) 0
unfolding zeros
blanks [] y = refl
blanks (x ∷ xs) y = ap₂ {C = List ℕ} (λ h l. h ∷ l) (eqb-true x 0 (and_l (eqb x 0) (zeros xs) y)) (blanks xs (and_r (eqb x 0) (zeros xs) y))

zeros_blank : (k : ℕ) → Yes (zeros (replicate k 0))
unfolding zeros
zeros_blank zero = refl
zeros_blank (suc k) = and_i (eqb 0 0) (zeros (replicate k 0)) (eq-eqb 0 0 refl) (zeros_blank k)

-- ---- an entry is its name's length, its name, and zeros
entry_whole : (f : Bool) (e : List ℕ) → length e ≡ entry_size → Yes (right_entry f e) → e ≡ entry_of (name_of e)
unfolding right_entry name_of rest_of entry_of
entry_whole f [] l y = absurd (omega arith)
entry_whole f (x ∷ xs) l y =
    let g = and_l (leb x longest and zeros (drop (1 + x) (x ∷ xs))) (f imp folded (take x xs)) y in
    let h : x ≤ longest = leb-true x longest (and_l (leb x longest) (zeros (drop (1 + x) (x ∷ xs))) g) in
    let z : Yes (zeros (drop x xs)) = rw (one-add x) at (and_r (leb x longest) (zeros (drop (1 + x) (x ∷ xs))) g) in
    let n : length (take x xs) ≡ x = length-take-le x xs (omega arith) in
    let r : length (drop x xs) ≡ longest - x = length-drop x xs ∙ omega arith in
    rw n (ap (λ (s : List ℕ). x ∷ s) (sym (take-append-drop x xs) ∙ ap (λ (s : List ℕ). take x xs ++ s) (blanks (drop x xs) z ∙ ap (λ (k : ℕ). replicate k 0) r)))

entry_name : (n : List ℕ) → name_of (entry_of n) ≡ n
unfolding name_of entry_of
entry_name n = take-append_seam n (replicate (longest - length n) 0)

entry_size_lem : (n : List ℕ) → length n ≤ longest → length (entry_of n) ≡ entry_size
unfolding entry_of
entry_size_lem n h = simp (length-append, length-replicate) (omega arith)

module _ (f : Bool) (n : List ℕ) (y : Yes (lawful_name f n)) where
  name_short : length n ≤ longest
  unfolding lawful_name
  name_short = leb-true (length n) longest (and_l (leb (length n) longest) (f imp folded n) y)

  name_folded : Yes (f imp folded n)
  unfolding lawful_name
  name_folded = and_r (leb (length n) longest) (f imp folded n) y

  rest_blank : Yes (zeros (rest_of (entry_of n)))
  unfolding rest_of entry_of
  rest_blank = rw (one-add (length n), drop-append_seam n (replicate (longest - length n) 0)) (zeros_blank (longest - length n))

  length_right : Yes (leb (length_of (entry_of n)) longest)
  unfolding entry_of
  length_right = le-leb (length n) longest name_short

  entry_right : Yes (right_entry f (entry_of n))
  unfolding right_entry
  entry_right =
      and_i (leb (length_of (entry_of n)) longest and zeros (rest_of (entry_of n))) (f imp folded (name_of (entry_of n)))
      (and_i (leb (length_of (entry_of n)) longest) (zeros (rest_of (entry_of n))) length_right rest_blank)
      (rw (entry_name n) name_folded)

-- ---- the table of lawful names, byte by byte
entries_size : (f : Bool) (ns : List (List ℕ)) → Yes (all (lawful_name f) ns) → length (entries_of ns) ≡ length ns * entry_size
unfolding entries_of
entries_size f [] y = refl
entries_size f (n ∷ ns) y =
    let a = entry_size_lem n (name_short f n (and_l (lawful_name f n) (all (lawful_name f) ns) y)) in
    let b = entries_size f ns (and_r (lawful_name f n) (all (lawful_name f) ns) y) in
    length-append (entry_of n) (entries_of ns) ∙ omega (arith, a, b)

-- what stands past the entries of k names
abbrev unused : ℕ → List ℕ
unused k = replicate (table_size - entry_start k) 0

table_bytes : (f : Bool) (ns : List (List ℕ)) → Yes (all (lawful_name f) ns) → table_of ns ≡ length ns % 256 ∷ length ns / 256 ∷ (entries_of ns ++ unused (length ns))
unfolding table_of
table_bytes f ns y =
    let e : table_size - suc (suc (length (entries_of ns))) ≡ table_size - entry_start (length ns) = omega (arith, entries_size f ns y) in
    ap (λ (k : ℕ). length ns % 256 ∷ length ns / 256 ∷ (entries_of ns ++ replicate k 0)) e

-- an entry where it stands, and what comes next
module _ (t n r : List ℕ) (i : ℕ) (h : length n ≤ longest) (e : drop (entry_start i) t ≡ entry_of n ++ r) where
  entry_here : entry_at t i ≡ entry_of n
  unfolding entry_at
  entry_here = ap (take entry_size) e ∙ take_at (entry_of n) r entry_size (entry_size_lem n h)

  entry_next : drop (entry_start (suc i)) t ≡ r
  entry_next =
      let q : entry_start (suc i) ≡ entry_start i + entry_size = omega arith in
      ap (λ (k : ℕ). drop k t) q ∙ sym (drop-drop entry_size (entry_start i) t) ∙ ap (drop entry_size) e ∙ drop_at (entry_of n) r entry_size (entry_size_lem n h)

entry_there : (f : Bool) (t r : List ℕ) (i : ℕ) (ns : List (List ℕ)) → Yes (all (lawful_name f) ns) → drop (entry_start i) t ≡ entries_of ns ++ r → (j : ℕ) → j < length ns → entry_at t (i + j) ≡ entry_of (get_or ns j [])
unfolding entries_of
entry_there f t r i [] y e j h = absurd (omega arith)
entry_there f t r i (n ∷ ns) y e zero h =
    let q : i + 0 ≡ i = omega arith in
    rw q (entry_here t n (entries_of ns ++ r) i (name_short f n (and_l (lawful_name f n) (all (lawful_name f) ns) y)) (e ∙ append_assoc (entry_of n) (entries_of ns) r))
entry_there f t r i (n ∷ ns) y e (suc j) h =
    let q : i + suc j ≡ suc i + j = omega arith in
    let next = entry_next t n (entries_of ns ++ r) i (name_short f n (and_l (lawful_name f n) (all (lawful_name f) ns) y)) (e ∙ append_assoc (entry_of n) (entries_of ns) r) in
    rw q (entry_there f t r (suc i) ns (and_r (lawful_name f n) (all (lawful_name f) ns) y) next j (omega arith))

module _ (f : Bool) (ns : List (List ℕ)) (y : Yes (lawful_names f ns)) where
  abbrev few : Bool
  few = leb (length ns) most

  abbrev each : Bool
  each = all (lawful_name f) ns

  lawful_each : Yes each
  unfolding lawful_names
  lawful_each = and_r few each (and_l (few and each) (none_twice ns) y)

  lawful_few : length ns ≤ most
  unfolding lawful_names
  lawful_few = leb-true (length ns) most (and_l few each (and_l (few and each) (none_twice ns) y))

  lawful_once : Yes (none_twice ns)
  unfolding lawful_names
  lawful_once = and_r (few and each) (none_twice ns) y

  abbrev table : List ℕ
  table = table_of ns

  table_count : count_of table ≡ length ns
  unfolding count_of
  table_count = rw (table_bytes f ns lawful_each) (omega arith)

  past_count_lem : drop first_entry table ≡ entries_of ns ++ unused (length ns)
  past_count_lem = ap (drop first_entry) (table_bytes f ns lawful_each)

  table_entry : (j : ℕ) → j < length ns → entry_at table j ≡ entry_of (get_or ns j [])
  table_entry j h = let z : 0 + j ≡ j = omega arith in rw z at (entry_there f table (unused (length ns)) 0 ns lawful_each past_count_lem j h)

  -- ---- it has these names
  pub names_back : names_of (table_of ns) ≡ ns
  unfolding names_of
  names_back = rw table_count (ext_get_or [] (names_from table 0 (length ns)) ns (names_length table 0 (length ns)) (λ j h.
      let k : j < length ns = omega (arith, h, names_length table 0 (length ns)) in
      let z : 0 + j ≡ j = omega arith in
      names_at table 0 (length ns) j k ∙ rw (z, table_entry j k) (entry_name (get_or ns j []))))

  table_size_lem : length table ≡ table_size
  table_size_lem = ap length (table_bytes f ns lawful_each) ∙ simp (length-append, length-replicate) (omega (arith, entries_size f ns lawful_each, lawful_few))

  table_past : Yes (zeros (drop (entry_start (count_of table)) table))
  table_past =
      let e : drop (entry_start (length ns)) table ≡ unused (length ns) =
      sym (drop-drop (length ns * entry_size) first_entry table) ∙ ap (drop (length ns * entry_size)) past_count_lem
      ∙ drop_at (entries_of ns) (unused (length ns)) (length ns * entry_size) (entries_size f ns lawful_each) in
      rw (table_count, e) (zeros_blank (table_size - entry_start (length ns)))

  -- ---- and it is right
  pub table_right : Yes (right_table f (table_of ns))
  table_right =
      make_right f table table_size_lem (omega (arith, table_count, lawful_few))
      (rw table_count (all_of (length ns) (λ i. right_entry f (entry_at table i)) (λ i h.
      rw (table_entry i h) (entry_right f (get_or ns i []) (all→ (lawful_name f) lawful_each (mem_at ns i [] h))))))
      table_past (rw names_back lawful_once)

-- ---- a right table's names are lawful
name_long : (e : List ℕ) → length (name_of e) ≤ length_of e
unfolding name_of
name_long e = omega (arith, length-take (length_of e) (drop 1 e))

name_at_lem : (t : List ℕ) (i : ℕ) → i < count_of t → get_or (names_of t) i [] ≡ name_of (entry_at t i)
unfolding names_of
name_at_lem t i h = let z : 0 + i ≡ i = omega arith in rw z at (names_at t 0 (count_of t) i h)

module _ (f : Bool) (t : List ℕ) (y : Yes (right_table f t)) where
  entry_ok : (i : ℕ) → i < count_of t → Yes (right_entry f (entry_at t i))
  entry_ok i h = all_at (count_of t) (λ i. right_entry f (entry_at t i)) (right_entries f t y) i h

  used : (i : ℕ) → i < count_of t → entry_at t i ≡ entry_of (name_of (entry_at t i))
  used i h = entry_whole f (entry_at t i) (entry_long t (entry_at t i) i (right_size f t y) (omega (arith, right_count f t y)) refl) (entry_ok i h)

  name_ok : (i : ℕ) → i < count_of t → Yes (lawful_name f (name_of (entry_at t i)))
  unfolding lawful_name right_entry
  name_ok i h =
      let n = name_of (entry_at t i) in
      let l = short_at t (entry_at t i) (count_of t) i (right_short f t y) h refl in
      and_i (leb (length n) longest) (f imp folded n) (le-leb (length n) longest (omega (arith, name_long (entry_at t i), l)))
      (and_r (leb (length_of (entry_at t i)) longest and zeros (rest_of (entry_at t i))) (f imp folded n) (entry_ok i h))

  pub names_lawful : Yes (lawful_names f (names_of t))
  unfolding lawful_names
  names_lawful =
      let few = le-leb (length (names_of t)) most (omega (arith, names_count t, right_count f t y)) in
      and_i (leb (length (names_of t)) most and all (lawful_name f) (names_of t)) (none_twice (names_of t))
      (and_i (leb (length (names_of t)) most) (all (lawful_name f) (names_of t)) few (→all (lawful_name f) (names_of t) each)) (right_once f t y)
    where
      each : (n : List ℕ) → Mem n (names_of t) → Yes (lawful_name f n)
      each n m =
          let w = at_mem [] m in
          let k : w.0 < count_of t = omega (arith, w.1, names_count t) in
          subst (λ (x : List ℕ). Yes (lawful_name f x)) (sym (name_at_lem t w.0 k) ∙ w.2) (name_ok w.0 k)

  -- ---- and it is their table: each entry, then zeros
  entries_from : (i k : ℕ) → i + k ≤ count_of t → drop (entry_start i) t ≡ entries_of (names_from t i k) ++ drop (entry_start (i + k)) t
  unfolding entries_of names_from entry_at
  entries_from i zero h = let e : i + 0 ≡ i = omega arith in rw e
  entries_from i (suc k) h =
      let e : i + suc k ≡ suc i + k = omega arith in
      let q : entry_start i + entry_size ≡ entry_start (suc i) = omega arith in
      sym (take-append-drop entry_size (drop (entry_start i) t))
      ∙ ap₂ {C = List ℕ} (λ a b. a ++ b) (used i (omega arith)) (drop-drop entry_size (entry_start i) t ∙ ap (λ (m : ℕ). drop m t) q ∙ entries_from (suc i) k (omega arith))
      ∙ rw e (sym (append_assoc (entry_of (name_of (entry_at t i))) (entries_of (names_from t (suc i) k)) (drop (entry_start (suc i + k)) t)))

  right_bytes : drop first_entry t ≡ entries_of (names_of t) ++ unused (count_of t)
  unfolding names_of
  right_bytes =
      let z : 0 + count_of t ≡ count_of t = omega arith in
      let l : length (drop (entry_start (count_of t)) t) ≡ table_size - entry_start (count_of t) = length-drop (entry_start (count_of t)) t ∙ omega (arith, right_size f t y) in
      entries_from 0 (count_of t) (omega arith)
      ∙ rw z (ap (λ (l : List ℕ). entries_of (names_from t 0 (count_of t)) ++ l)
      (blanks (drop (entry_start (count_of t)) t) (right_past f t y) ∙ ap (λ (k : ℕ). replicate k 0) l))

-- ---- an accepted table is the table of its names: the count's two bytes, then the entries
two_first : (t : List ℕ) → first_entry ≤ length t → t ≡ get_or t 0 0 ∷ get_or t 1 0 ∷ drop first_entry t
two_first [] h = absurd (omega arith)
two_first (a ∷ []) h = absurd (omega arith)
two_first (a ∷ b ∷ t) h = refl

module _ (f : Bool) (t : List ℕ) (y : Yes (right_table f t)) where
  by_count : get_or t 0 0 ≡ count_of t % 256 → get_or t 1 0 ≡ count_of t / 256 → t ≡ table_of (names_of t)
  by_count p q =
      let e : length (names_of t) ≡ count_of t = names_count t in
      two_first t (omega (arith, right_size f t y)) ∙ rw (p, q, right_bytes f t y) (sym (rw e at (table_bytes f (names_of t) (lawful_each f (names_of t) (names_lawful f t y)))))

  pub of_its_names : ((i : ℕ) → get_or t i 0 < 256) → t ≡ table_of (names_of t)
  unfolding count_of
  of_its_names b = by_count (omega (arith, b 0)) (omega (arith, b 0))

-- so two right tables with the same names are the same bytes
pub same_table : (f : Bool) (t u : List ℕ) → Yes (right_table f t) → Yes (right_table f u) → names_of t ≡ names_of u → ((i : ℕ) → get_or t i 0 < 256) → ((i : ℕ) → get_or u i 0 < 256) → t ≡ u
same_table f t u y w e bt bu = of_its_names f t y bt ∙ ap table_of e ∙ sym (of_its_names f u w bu)

-- ---- a table that learns a name is the table of its names with this one after them
module _ (f : Bool) (t b : List ℕ) (y : Yes (right_table f t)) (room : count_of t < most) (short : length b ≤ longest) (g : Yes (f imp folded b)) (k : No (known b (names_of t))) where
  least : get_or (learned t b) 0 0 ≡ count_of (learned t b) % 256
  unfolding learned splice
  least = ap (λ (n : ℕ). n % 256) (sym (learned_count f t b y room short))

  great : get_or (learned t b) 1 0 ≡ count_of (learned t b) / 256
  unfolding learned splice
  great = ap (λ (n : ℕ). n / 256) (sym (learned_count f t b y room short))

  pub learned_table : learned t b ≡ table_of (names_of t ++ (b ∷ []))
  learned_table = by_count f (learned t b) (learned_right f t b y room short g k) least great ∙ ap table_of (learned_names f t b y room short)
