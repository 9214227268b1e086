use mathlib.Core.Path.{◌∙◌}
use Rattle.state.proofs.Laws.{eq_scope}
use Rattle.state.proofs.same_scope.Goals as goal

pub returns : goal.returns
returns c = c.eq.ensures ∙ eq_scope c.args.a c.args.b
