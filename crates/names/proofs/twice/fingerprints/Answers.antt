use Rattle.std.proofs.Common.{arith}
use mathlib.Core.Path.{ap, ◌∙◌}
use Rattle.names.specs.Code.{print_of}
use Rattle.names.proofs.Prints.{prints_start, prints_more, prints_end}
use Rattle.names.proofs.twice.fingerprints.Goals as goal

pub loop-i-init : goal.loop-i-init
loop-i-init c = prints_start _

pub loop-i-preserved : goal.loop-i-preserved
loop-i-preserved c = prints_more _ _ _ _ c.loop-i.invariant (omega arith) (c.fingerprint.ensures ∙ ap print_of c.name.ensures)

pub returns : goal.returns
returns c = prints_end _ _ _ c.loop-i.i c.loop-i.auto.i-end c.loop-i-test.false c.loop-i.invariant
