use Rattle.std.proofs.Common.{take}
use Rattle.lists.specs.Tests.{◌or◌}
use Rattle.lists.specs.Lists.{any}
use Rattle.coverage.specs.Coverage.{covers}
use Rattle.board.specs.Board.{on}
use Rattle.board.specs.Code.{Covers}
use Rattle.board.proofs.changes.went.Given as goal

abbrev pub invariant-loop-lock : goal.invariant-loop-lock
invariant-loop-lock l = Covers l.all (λ e. covers l.initial.all e or any (on e) (take l.lock-index l.removed))
