-- The name table. Document 01: "a lent buffer of 16,642 bytes: count (u16), then 256 entries of one length byte and 64 bytes,
-- unused bytes zero." The count is little-endian. Unused are the bytes of an entry past its length, and all bytes of the
-- entries at or past the count.
use Rattle.std.specs.Prelude.{ℕ, zero, suc, ◌+◌, ◌*◌, ◌/◌, ◌%◌, Bool, List, [], ◌∷◌, ◌++◌, eqb, leb, length, get_or, take, drop}
use Rattle.lists.specs.Tests.{◌and◌, ◌imp◌}
use Rattle.lists.specs.Lists.{all}
use Rattle.lists.specs.Below.{all_below}
use Rattle.lists.specs.Places.{in_places, splice}
use Rattle.names.specs.Bytes.{folded, none_twice}

-- the sizes, each said here only
abbrev pub longest : ℕ
longest = 64

abbrev pub most : ℕ
most = 256

abbrev pub entry_size : ℕ
entry_size = 1 + longest

abbrev pub first_entry : ℕ
first_entry = 2

abbrev pub table_size : ℕ
table_size = first_entry + most * entry_size

-- "count (u16)"
unfoldable pub count_of : List ℕ → ℕ
count_of t = get_or t 0 0 + get_or t 1 0 * 256

abbrev pub count_bytes : ℕ → List ℕ
count_bytes n = n % 256 ∷ n / 256 ∷ []

-- where entry i starts
abbrev pub entry_start : ℕ → ℕ
entry_start i = first_entry + i * entry_size

-- "entries of one length byte and 64 bytes"
unfoldable pub entry_at : List ℕ → ℕ → List ℕ
entry_at t i = take entry_size (drop (entry_start i) t)

-- of an entry: its length byte, its name, and what is unused of it
abbrev pub length_of : List ℕ → ℕ
length_of e = get_or e 0 0

unfoldable pub name_of : List ℕ → List ℕ
name_of e = take (length_of e) (drop 1 e)

unfoldable pub rest_of : List ℕ → List ℕ
rest_of e = drop (1 + length_of e) e

-- the names of k entries from i on, and those of a table: the name of number i stands at place i
unfoldable pub names_from : List ℕ → ℕ → ℕ → List (List ℕ)
names_from t i zero = []
names_from t i (suc k) = name_of (entry_at t i) ∷ names_from t (suc i) k

unfoldable pub names_of : List ℕ → List (List ℕ)
names_of t = names_from t 0 (count_of t)

unfoldable pub zeros : List ℕ → Bool
zeros b = all (λ x. eqb x 0) b

-- an entry below the count: not "length over 64", not "an unused byte not zero", not "wrongly unfolded"
unfoldable pub right_entry : Bool → List ℕ → Bool
right_entry folding e = leb (length_of e) longest and zeros (rest_of e) and (folding imp folded (name_of e))

-- 27: "BadTable: another size, count over 256, length over 64, an unused byte not zero, a name twice or wrongly unfolded."
unfoldable pub right_table : Bool → List ℕ → Bool
right_table folding t =
    eqb (length t) table_size
    and leb (count_of t) most
    and all_below (count_of t) (λ i. right_entry folding (entry_at t i))
    and zeros (drop (entry_start (count_of t)) t)
    and none_twice (names_of t)

-- names that a table can hold
unfoldable pub lawful_name : Bool → List ℕ → Bool
lawful_name folding name = leb (length name) longest and (folding imp folded name)

unfoldable pub lawful_names : Bool → List (List ℕ) → Bool
lawful_names folding names = leb (length names) most and all (lawful_name folding) names and none_twice names

-- the bytes of their table: `names_of` read backwards
unfoldable pub entry_of : List ℕ → List ℕ
entry_of name = length name ∷ in_places longest 0 name

unfoldable pub entries_of : List (List ℕ) → List ℕ
entries_of [] = []
entries_of (n ∷ ns) = entry_of n ++ entries_of ns

unfoldable pub table_of : List (List ℕ) → List ℕ
table_of names = in_places table_size 0 (count_bytes (length names) ++ entries_of names)

-- "a new one [gives] the next number": the entry at the old count takes the name, and the count is one more
unfoldable pub learned : List ℕ → List ℕ → List ℕ
learned t name =
    splice (splice t (entry_start (count_of t)) (length name ∷ name)) 0 (count_bytes (count_of t + 1))
