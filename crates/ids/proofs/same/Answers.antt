use mathlib.Core.Path.{◌∙◌}
use native.Mathlib.Omega.{arith}
use Rattle.ids.proofs.Laws.{same_words}
use Rattle.ids.proofs.same.Goals as goal

pub returns : goal.returns
returns c = let p = c.args in c.eq.ensures ∙ same_words p.a p.b (omega arith) (omega arith)
