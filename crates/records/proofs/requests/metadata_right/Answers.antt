use mathlib.Core.Path.{refl}
use Rattle.records.specs.Feeds.{metadata_right}
use Rattle.records.proofs.Wire.{unless}
use Rattle.records.proofs.requests.metadata_right.Goals as goal

pub returns : goal.returns
unfolding metadata_right
returns c = unless _ _ _ _ refl
