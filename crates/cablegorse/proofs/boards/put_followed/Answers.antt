use Rattle.cablegorse.proofs.Boarded.{put_nothing, put_board}
use Rattle.cablegorse.proofs.boards.put_followed.Goals as goal

pub returns-then-done-ne-WRITTEN : goal.returns-then-done-ne-WRITTEN
returns-then-done-ne-WRITTEN c = let a = c.args in put_nothing a.stream.now a.at a.s a.board.now _ _ _ _ _ c.put_step-done.ensures c.if-done-ne-WRITTEN.true

pub returns : goal.returns
returns c = let a = c.args in put_board a.stream.now a.at a.s a.board.now _ _ _ _ _ c.put_step-done.ensures c.if-done-ne-WRITTEN.false _ c.follow_step.ensures
