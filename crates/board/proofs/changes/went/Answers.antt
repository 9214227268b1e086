use Rattle.board.proofs.Followed.{none_went, went_more}
use Rattle.board.proofs.changes.went.Goals as goal

pub loop-lock-init : goal.loop-lock-init
loop-lock-init c = none_went c.args.c c.args.removed.now

pub loop-lock-preserved : goal.loop-lock-preserved
loop-lock-preserved c = went_more c.args.c c.args.removed.now _ _ _ _ c.loop-lock-test.true c.loop-lock.invariant c.joined-all.ensures
