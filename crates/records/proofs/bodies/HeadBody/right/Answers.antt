use mathlib.Core.Path.{sym}
use Rattle.records.proofs.Wire.{head_right}
use Rattle.records.proofs.bodies.HeadBody.right.Goals as goal

pub returns : goal.returns
returns c = sym (head_right c.args.s.now _ c.made-h.ensures)
