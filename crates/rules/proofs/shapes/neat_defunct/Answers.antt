use Rattle.rules.specs.Rules.{neat_d}
use Rattle.rules.proofs.shapes.neat_defunct.Goals as goal

pub returns : goal.returns
unfolding neat_d
returns c = c.neat_lock.ensures
