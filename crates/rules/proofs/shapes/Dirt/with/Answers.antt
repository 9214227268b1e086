use Rattle.rules.proofs.Blanks.{gathered}
use Rattle.rules.proofs.shapes.Dirt.with.Goals as goal

pub returns : goal.returns
returns c = gathered c.args.self _ _ _ _
