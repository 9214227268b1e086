use Rattle.names.proofs.Lists.{search_starts, found_there, not_there, nowhere}
use Rattle.names.proofs.judged.Names.place_of.Goals as goal

pub loop-i-init : goal.loop-i-init
loop-i-init c = search_starts _ _ _

pub returns-then-same_name : goal.returns-then-same_name
returns-then-same_name c = found_there _ _ _ _ _ c.loop-i.invariant _ _ c.loop-i-test.true c.name.ensures c.same_name.ensures c.if-same_name.true

pub loop-i-preserved : goal.loop-i-preserved
loop-i-preserved c = not_there _ _ _ _ _ c.loop-i.invariant _ _ c.loop-i-test.true c.name.ensures c.same_name.ensures c.if-same_name.false

pub returns : goal.returns
returns c = nowhere _ _ _ c.loop-i.i _ c.loop-i.invariant c.loop-i.auto.i-end c.loop-i-test.false
