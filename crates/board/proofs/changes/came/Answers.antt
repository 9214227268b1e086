use Rattle.board.proofs.Followed.{came_yes, came_no}
use Rattle.board.proofs.changes.came.Goals as goal

pub returns-then-number-eq0 : goal.returns-then-number-eq0
returns-then-number-eq0 c = came_yes c.args.request c.args.number c.brought.result c.if-number-eq0.true c.brought.ensures

pub returns : goal.returns
returns c = came_no c.args.request c.args.number c.empty.result c.if-number-eq0.false c.empty.ensures
