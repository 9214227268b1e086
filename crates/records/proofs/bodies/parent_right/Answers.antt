use Rattle.records.proofs.Wire.{unless}
use Rattle.lists.proofs.Tests.{and_code}
use Rattle.records.specs.Wire.{parent_right}
use Rattle.records.proofs.bodies.parent_right.Goals as goal

pub returns : goal.returns
unfolding parent_right
returns c = unless _ _ _ _ (and_code _ _)
