use Rattle.std.proofs.Common.{rules, arith}
use Rattle.names.specs.Code.{print_from, print_of}
use Rattle.names.proofs.Prints.{print_more, print_end}
use Rattle.names.proofs.twice.fingerprint.Goals as goal

pub loop-b-init : goal.loop-b-init
unfolding print_from print_of
loop-b-init c = search rules

pub loop-b-preserved : goal.loop-b-preserved
loop-b-preserved c = (omega arith, print_more _ _ _ c.loop-b.invariant.1 c.loop-b-test.true)

pub returns : goal.returns
returns c = print_end _ _ c.loop-b.b-index c.loop-b.invariant.1 c.loop-b-test.false
