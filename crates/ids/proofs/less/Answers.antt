use native.Mathlib.Omega.{arith}
use mathlib.Core.Path.{◌∙◌}
use Rattle.ids.proofs.Laws.{lt_before}
use Rattle.ids.proofs.less.Goals as goal

pub returns : goal.returns
returns c = let p = c.args in c.lt.ensures ∙ lt_before p.a p.b (omega arith) (omega arith)
