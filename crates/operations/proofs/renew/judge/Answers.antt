use borrow.Author.Tests.{le-leb, lt-leb, eq-eqb, ne_eqb}
use Rattle.operations.specs.Answers.{refuse_if}
use Rattle.operations.specs.Checks.{at_last_lem}
use Rattle.operations.proofs.renew.judge.Goals as goal

pub returns-then-a-now : goal.returns-then-a-now
unfolding refuse_if
returns-then-a-now c = simp (le-leb _ _ c.if-a-now.true)

pub returns-then-expires-a : goal.returns-then-expires-a
unfolding refuse_if
returns-then-expires-a c = simp (lt-leb _ _ c.if-a-now.false, le-leb _ _ c.if-expires-a.true)

pub returns-then-revision-eq18446744073709551615 : goal.returns-then-revision-eq18446744073709551615
unfolding refuse_if at_last_lem
returns-then-revision-eq18446744073709551615 c = simp (lt-leb _ _ c.if-a-now.false, lt-leb _ _ c.if-expires-a.false, eq-eqb _ _ c.if-revision-eq18446744073709551615.true)

pub returns : goal.returns
unfolding refuse_if at_last_lem
returns c = simp (lt-leb _ _ c.if-a-now.false, lt-leb _ _ c.if-expires-a.false, ne_eqb _ _ c.if-revision-eq18446744073709551615.false)
