use Rattle.rules.proofs.Blanks.{lock_gathered}
use Rattle.rules.proofs.shapes.Dirt.with_lock.Goals as goal

pub returns : goal.returns
returns c = lock_gathered _ c.args.x _ _ c.kind.ensures c.with.ensures
