use Rattle.names.proofs.Lists.{none_before, twice, once, none_left}
use Rattle.names.proofs.twice.none_twice.Goals as goal

pub loop-i-init : goal.loop-i-init
loop-i-init c = none_before _

pub returns-then-not-is_new : goal.returns-then-not-is_new
returns-then-not-is_new c = twice _ _ _ c.is_new.ensures _ c.loop-i-test.true c.if-not-is_new.true

pub loop-i-preserved : goal.loop-i-preserved
loop-i-preserved c = once _ _ _ c.is_new.ensures c.if-not-is_new.false c.loop-i.invariant

pub returns : goal.returns
returns c = none_left _ _ c.loop-i.i c.loop-i.auto.i-end c.loop-i-test.false c.loop-i.invariant
