use Rattle.std.proofs.Common.{◌-◌}
use Rattle.coverage.specs.Coverage.{covers}
use Rattle.board.proofs.Filling.{Turning}
use Rattle.board.proofs.entries.touch.Given as goal

abbrev pub invariant-loop-e : goal.invariant-loop-e
invariant-loop-e l = Turning (covers l.c) l.lock l.initial.board l.board l.e

abbrev pub decreases-loop-e : goal.decreases-loop-e
decreases-loop-e l = 256 - l.e
