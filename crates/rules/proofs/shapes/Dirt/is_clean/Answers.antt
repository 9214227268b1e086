use mathlib.Core.Path.{refl}
use Rattle.lists.specs.Tests.{◌and◌, non}
use Rattle.rules.specs.Code.{clean}
use Rattle.rules.proofs.shapes.Dirt.is_clean.Goals as goal

pub returns : goal.returns
unfolding clean ◌and◌ non
returns c = refl
