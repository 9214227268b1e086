use Rattle.state.specs.Locks.{blank_active}
use Rattle.board.proofs.mismatched_step.Goals as goal

pub returns : goal.returns
unfolding blank_active
returns c = rw c.blank_active.ensures
