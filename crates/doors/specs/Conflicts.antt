-- 02, C-13 at the library's door: what cablegorse_apply tells a host by 7, of the image and the feed that it was given.
-- Assumes nothing.
use Rattle.std.specs.Prelude.{ℕ, List, ◌≡◌}
use Rattle.lists.specs.Papers.{Paper}
use Rattle.promises.specs.Spots.{InConflict}
use Rattle.image.specs.declared.Spare.{Spare}
use Rattle.feed.specs.declared.taking.Placed.{Placed}
use Rattle.std.specs.Prelude.{Ok}
use Rattle.feed.specs.Feed.{numbered, body_in, taken_at}
use Rattle.cablegorse.specs.declared.Told.{Told}
use Rattle.cablegorse.specs.declared.Applied.{Applied}
use Rattle.cablegorse.specs.Telling.{told_of}
use Rattle.doors.specs.Reads.{reads}

-- the record at this place of the feed asks for what p refuses
pub record ConflictAt (sp : Spare) (feed : List ℕ) (at : ℕ) (p : Paper) : Type 0 where
  pub placed : Placed
  pub taken : taken_at feed at ≡ Ok placed
  pub refused : InConflict sp.state placed.request (numbered placed (body_in feed placed.frame)).list p

-- the number and the values of an answer
abbrev pub told_in : Applied → Told
told_in a = record { number = a.number; count = a.count; v0 = a.v0; v1 = a.v1; v2 = a.v2; v3 = a.v3; v4 = a.v4 }

-- the answer tells p, and p is 7 of a lock of the image, which is in the way of the one that the record brings
pub record InTheWay (image feed : List ℕ) (at : ℕ) (answer : Applied) : Type 0 where
  pub spare : Spare
  pub read : reads image spare
  pub paper : Paper
  pub conflict : ConflictAt spare feed at paper
  pub values : told_in answer ≡ told_of paper
