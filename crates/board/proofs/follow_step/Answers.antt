use Rattle.std.proofs.Common.{◌∙◌}
use Rattle.board.proofs.Boarding.{followed_off, followed_on}
use Rattle.board.proofs.follow_step.Goals as goal

pub returns-then-board-ne-SIZE : goal.returns-then-board-ne-SIZE
returns-then-board-ne-SIZE c = followed_off c.args.feed.now c.args.at c.args.step c.args.board.now c.if-board-ne-SIZE.true

pub returns : goal.returns
returns c = c.follow_record.ensures ∙ followed_on c.args.feed.now c.args.at c.args.step c.args.board.now c.if-board-ne-SIZE.false
