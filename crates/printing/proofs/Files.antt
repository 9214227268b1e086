-- What no file reads as, and that a spare which is given is sound. Assumes nothing.
use mathlib.Core.Path.{◌≡◌, refl}
use mathlib.Core.List.{[]}
use Rattle.std.specs.Prelude.{⊤, Some, None, Result, Ok, Err}
use Rattle.rules.specs.Rules.{broken_rule}
use Rattle.records.specs.Framing.{frame_at}
use Rattle.image.specs.declared.Spare.{Spare}
use Rattle.image.specs.declared.ImageRefusal.{ImageRefusal}
use Rattle.image.specs.declared.ImageRefusal.TheVariants.{Torn}
use Rattle.image.specs.Image.{and_then, record_at, held_by, records_of, read_on, refusal}
use Rattle.image.proofs.Trips.{accepted}
use Rattle.printing.specs.Files.{spare_of, FromBytes}

no_bytes : read_on [] ≡ refusal (Torn 0)
unfolding read_on records_of held_by and_then record_at frame_at
no_bytes = refl

pub no_file : FromBytes None
no_file = ([], rw no_bytes)

-- a refusal holds none
done_by : (t : Result ⊤ ImageRefusal) (x sp : Spare) → Some sp ≡ spare_of t x → (t ≡ Ok tt) × (sp ≡ x)
done_by (Ok u) x sp q = (refl, cc)
done_by (Err why) x sp q = absurd (cc)

pub given_sound : (sp : Spare) → FromBytes (Some sp) → broken_rule sp.state ≡ Ok tt
given_sound sp (s, e) =
    let d = done_by (read_on s).told (read_on s).spare sp e in
    rw d.1 (accepted s (read_on s).spare (rw d.0)).sound
