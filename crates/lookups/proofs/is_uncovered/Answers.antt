use Rattle.lists.proofs.Tests.{codes}
use Rattle.lookups.specs.Reads.{uncovered}
use Rattle.lookups.proofs.is_uncovered.Goals as goal

pub returns : goal.returns
unfolding uncovered
returns c = simp codes (rw (c.covers_defunct.ensures, c.meets.ensures, c.same_scope.ensures, c.is_vehicle.ensures))
