-- A layout: fields that stand one after the other. Assumes nothing.
use Rattle.std.specs.Prelude.{ℕ, ◌+◌, ◌^◌, ◌<◌, List, [], ◌∷◌, ◌++◌}
use Rattle.records.specs.Numbers.{Field, size, field, bytes_of, splice}

-- how many bytes a layout takes
abbrev pub total : List Field → ℕ
total [] = 0
total (f ∷ fs) = size f + total fs

-- the numbers of the fields that stand in s from at
abbrev pub fields_at : List Field → List ℕ → ℕ → List ℕ
fields_at [] s at = []
fields_at (f ∷ fs) s at = field f s at ∷ fields_at fs s (at + size f)

-- the bytes of the fields with these numbers
unfoldable pub pack : List Field → List ℕ → List ℕ
pack [] vs = []
pack (f ∷ fs) [] = []
pack (f ∷ fs) (v ∷ vs) = bytes_of f v ++ pack fs vs

-- d after each field was stored, one after the other, from at
abbrev pub emit : List Field → List ℕ → List ℕ → ℕ → List ℕ
emit [] vs d at = d
emit (f ∷ fs) [] d at = d
emit (f ∷ fs) (v ∷ vs) d at = emit fs vs (splice d at (bytes_of f v)) (at + size f)

-- a number for each field, which fits it
abbrev pub Fit : List Field → List ℕ → Type 0
Fit [] [] = Unit {0}
Fit [] (v ∷ vs) = ⊥
Fit (f ∷ fs) [] = ⊥
Fit (f ∷ fs) (v ∷ vs) = (v < 256 ^ size f) × Fit fs vs
