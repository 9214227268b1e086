use Rattle.lists.proofs.Tests.{codes}
use Rattle.operations.specs.Defuncts.{superseded}
use Rattle.operations.proofs.defuncts.is_superseded.Goals as goal

pub returns : goal.returns
unfolding superseded
returns c = simp codes (rw c.covers_defunct.ensures)
