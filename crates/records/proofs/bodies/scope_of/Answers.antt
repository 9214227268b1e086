use borrow.Author.Tests.{eq-eqb, ne_eqb}
use Rattle.records.specs.Wire.{scope_of}
use Rattle.records.proofs.bodies.scope_of.Goals as goal

pub returns-then-kind-eq0 : goal.returns-then-kind-eq0
unfolding scope_of
returns-then-kind-eq0 c = simp (eq-eqb _ _ c.if-kind-eq0.true)

pub returns-then-kind-eq1 : goal.returns-then-kind-eq1
unfolding scope_of
returns-then-kind-eq1 c = simp (ne_eqb _ _ c.if-kind-eq0.false, eq-eqb _ _ c.if-kind-eq1.true)

pub returns : goal.returns
unfolding scope_of
returns c = simp (ne_eqb _ _ c.if-kind-eq0.false, ne_eqb _ _ c.if-kind-eq1.false)
