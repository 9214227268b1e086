-- What a program is given by a file. What stands in a file no contract can say: only that it is some bytes. Assumes nothing.
use Rattle.std.specs.Prelude.{◌≡◌, List, ℕ, ⊤, Option, None, Some, Result, Ok, Err}
use Rattle.image.specs.declared.Spare.{Spare}
use Rattle.image.specs.declared.ImageRefusal.{ImageRefusal}
use Rattle.image.specs.Image.{read_on}

-- a refused image holds no spare
abbrev pub spare_of : Result ⊤ ImageRefusal → Spare → Option Spare
spare_of (Ok done) spare = Some spare
spare_of (Err why) spare = None

-- what these bytes read as
abbrev pub given_by : List ℕ → Option Spare
given_by s = spare_of (read_on s).told (read_on s).spare

-- what some bytes read as; no bytes where there is no file
abbrev pub FromBytes : Option Spare → Type 0
FromBytes g = (s : List ℕ) × (g ≡ given_by s)
