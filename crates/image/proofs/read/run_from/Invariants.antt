use Rattle.std.proofs.Common.{length}
use Rattle.ids.specs.Order.{key}
use Rattle.image.proofs.Running.{Going}
use Rattle.image.proofs.read.run_from.Given as goal

abbrev pub invariant-loop-i : goal.invariant-loop-i
invariant-loop-i g l = Going g.R.Entry.list l.strict l.image (length l.fn.places) l.fn.at l.places (key l.last) l.next l.i
