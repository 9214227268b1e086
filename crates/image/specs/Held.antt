-- A reader that keeps the image and its place. Assumes nothing.
use Rattle.std.specs.Prelude.{ℕ, List}
use Rattle.std.specs.Borrow.{Bor}
use Rattle.image.specs.declared.reader.Due.{Due}
use Rattle.image.specs.declared.reader.Reader.{Reader}
use Rattle.image.specs.declared.reader.Moved.{Moved}
use Rattle.image.specs.Steps.{step_of}

-- at the image's first byte
abbrev pub start_of : Bor (List ℕ) → Reader
start_of image = record { image = image; at = 0 }

-- the record that is due where the reader stands, and the reader past it
abbrev pub moved_of : Reader → Due → Moved
moved_of r due = record { reader = record { image = r.image; at = (step_of r.image.now r.at due).at }; step = (step_of r.image.now r.at due).step }
