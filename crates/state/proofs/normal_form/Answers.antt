use Rattle.state.proofs.Laws.{normal_child, normal_lone}
use Rattle.state.proofs.normal_form.Goals as goal

pub returns-then-given : goal.returns-then-given
returns-then-given c = normal_child _ _ c.normal_coverage-lock.ensures c.if-given.true

pub returns : goal.returns
returns c = normal_lone _ _ c.normal_coverage-lock.ensures c.if-given.false
