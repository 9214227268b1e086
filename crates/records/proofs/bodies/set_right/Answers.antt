use Rattle.records.proofs.Wire.{unless, four}
use Rattle.records.specs.Wire.{set_right}
use Rattle.records.proofs.bodies.set_right.Goals as goal

pub returns : goal.returns
unfolding set_right
returns c = unless _ _ _ _ (four _ _ _ _)
