use Rattle.rules.proofs.Blanks.{active_gathered}
use Rattle.rules.proofs.shapes.Dirt.with_active.Goals as goal

pub returns : goal.returns
returns c = active_gathered _ c.args.x _ _ c.with_lock-d.ensures c.with.ensures
