-- Names as bytes. Document 01, "Name table": "ECU and group names are folded as `normalize_name` does (ASCII letters only);
-- subjects keep their case. [..] Names have 0..=64 bytes." Any bytes are a name, the empty one too.
use Rattle.std.specs.Prelude.{ℕ, zero, suc, ◌+◌, Bool, true, false, cond, List, [], ◌∷◌, map, eqb, leb}
use Rattle.lists.specs.Tests.{◌and◌, non}
use Rattle.lists.specs.Lists.{all, any}

-- an ASCII capital letter
unfoldable pub is_upper : ℕ → Bool
is_upper b = leb 0x41 b and leb b 0x5A

-- `normalize_name`: ASCII capital letters to small ones, and nothing else
unfoldable pub fold1 : ℕ → ℕ
fold1 b = cond (is_upper b) (b + 0x20) b

-- a byte as a table keeps it: folded where the table folds
unfoldable pub keep1 : Bool → ℕ → ℕ
keep1 folding b = cond folding (fold1 b) b

unfoldable pub kept : Bool → List ℕ → List ℕ
kept folding name = map (keep1 folding) name

-- no byte of the name is a capital letter
unfoldable pub folded : List ℕ → Bool
folded name = all (λ b. non (is_upper b)) name

-- the same name: as many bytes, and the same ones
unfoldable pub same_bytes : List ℕ → List ℕ → Bool
same_bytes [] [] = true
same_bytes [] (y ∷ ys) = false
same_bytes (x ∷ xs) [] = false
same_bytes (x ∷ xs) (y ∷ ys) = eqb x y and same_bytes xs ys

-- the name is one of the list
unfoldable pub known : List ℕ → List (List ℕ) → Bool
known name names = any (λ n. same_bytes n name) names

-- its place there, from 0; the length where it is none of them
unfoldable pub place_of : List ℕ → List (List ℕ) → ℕ
place_of name [] = zero
place_of name (n ∷ ns) = cond (same_bytes n name) zero (suc (place_of name ns))

-- no name twice
unfoldable pub none_twice : List (List ℕ) → Bool
none_twice [] = true
none_twice (n ∷ ns) = non (known n ns) and none_twice ns
