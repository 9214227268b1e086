-- What only the contracts of private functions cite. No promise of this crate rests on it: a reader need not believe it.
use Rattle.std.specs.Prelude.{ℕ, ◌+◌, ◌*◌, ◌%◌, Bool, List, [], ◌∷◌, map, leb}
use Rattle.lists.specs.Below.{all_below}
use Rattle.lists.specs.Places.{in_places}
use Rattle.names.specs.Table.{longest, most, entry_at, length_of, names_from}

-- the lengths of the first n entries
unfoldable pub short_names : ℕ → List ℕ → Bool
short_names n t = all_below n (λ i. leb (length_of (entry_at t i)) longest)

-- a name's fingerprint, FNV's fold with a sum in place of its exclusive or
unfoldable pub print_from : ℕ → List ℕ → ℕ
print_from h [] = h
print_from h (b ∷ bs) = print_from ((h * 16777619 + b) % 4294967296) bs

unfoldable pub print_of : List ℕ → ℕ
print_of name = print_from 2166136261 name

-- those of a table's first n names
unfoldable pub prints_of : ℕ → List ℕ → List ℕ
prints_of n t = in_places most 0 (map print_of (names_from t 0 n))
