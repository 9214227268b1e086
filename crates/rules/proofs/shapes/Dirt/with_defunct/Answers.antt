use Rattle.rules.proofs.Blanks.{defunct_gathered}
use Rattle.rules.proofs.shapes.Dirt.with_defunct.Goals as goal

pub returns : goal.returns
returns c = defunct_gathered _ c.args.x _ _ c.with_lock-d.ensures c.with.ensures
