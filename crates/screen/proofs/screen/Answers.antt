use Rattle.std.proofs.Common.{subst}
use Rattle.printing.specs.Files.{FromBytes}
use Rattle.printing.proofs.Files.{given_sound}
use Rattle.screen.proofs.screen.Goals as goal

-- `screen::screen` is safe: what is accepted is sound. Assumes nothing.
pub board_of-requires : goal.board_of-requires
board_of-requires g c = given_sound _ (subst FromBytes c.in-Some.is c.requires)
