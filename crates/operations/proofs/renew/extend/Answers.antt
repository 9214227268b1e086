use Rattle.operations.specs.Renew.{extended}
use Rattle.operations.proofs.renew.extend.Goals as goal

pub returns-then-given : goal.returns-then-given
unfolding extended
returns-then-given c = rw c.if-given.true

pub returns-else-given : goal.returns-else-given
unfolding extended
returns-else-given c = rw c.if-given.false
