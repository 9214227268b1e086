use Rattle.lists.specs.Tests.{◌and◌, ◌or◌}
use Rattle.rules.specs.Rules.{zero_id, neat_a}
use Rattle.rules.proofs.shapes.neat_active.Goals as goal

pub returns : goal.returns
unfolding zero_id neat_a ◌or◌ ◌and◌
returns c = cc
