-- An image as a host has it: these bytes are accepted and hold this spare. Assumes nothing.
use Rattle.std.specs.Prelude.{ℕ, List, ◌≡◌}
use Rattle.image.specs.declared.Spare.{Spare}
use Rattle.std.specs.Prelude.{Ok}
use Rattle.image.specs.Image.{read_on}

abbrev pub reads : List ℕ → Spare → Type 0
reads s sp = read_on s ≡ record { told = Ok tt; spare = sp }
