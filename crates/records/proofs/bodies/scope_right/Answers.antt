use mathlib.Core.Path.{refl}
use Rattle.records.proofs.Wire.{unless}
use Rattle.records.specs.Wire.{scope_right}
use Rattle.records.proofs.bodies.scope_right.Goals as goal

pub returns : goal.returns
unfolding scope_right
returns c = unless _ _ _ _ refl
