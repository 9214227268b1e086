use Rattle.std.proofs.Common.{ap, ◌∙◌}
use Rattle.lists.specs.Tests.{◌or◌}
use Rattle.lists.specs.Lists.{any}
use Rattle.board.specs.Board.{on}
use Rattle.board.proofs.Followed.{followed}
use Rattle.board.proofs.changes.follow.Goals as goal

pub returns : goal.returns
returns c = let a = c.args in
    c.refresh.ensures ∙ followed c.went-all.result a.request a.number a.removed.now a.active.now a.board.now (λ e. c.went-all.ensures e ∙ ap (λ t. t or any (on e) a.removed.now) (c.came.ensures e))
