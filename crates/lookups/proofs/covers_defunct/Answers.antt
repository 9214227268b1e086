use Rattle.lists.proofs.Tests.{codes}
use Rattle.lookups.specs.Reads.{covers_defunct}
use Rattle.lookups.proofs.covers_defunct.Goals as goal

pub returns : goal.returns
unfolding covers_defunct
returns c = simp codes (rw (c.contains.ensures, c.same_scope.ensures, c.is_vehicle.ensures))
