use Rattle.std.proofs.Common.{◌≡◌, length, rules}
use Rattle.lists.proofs.Loops.{length_of_mapped}
use Rattle.board.proofs.Followed.{follow_moved}
use Rattle.board.proofs.changes.follow_request.Goals as goal
use Rattle.board.proofs.changes.follow_request.Goals.{Start}

long : (c : Start) → length c.args.step.told.removed ≡ 64
long c = search (rules, length_of_mapped)

pub returns : goal.returns
returns c = let d = c.args.step.told in
    follow_moved c.args.request _ _ d.gone _ d.removed _ _ _ _ (long (goal.at.returns c).Start) c.min.ensures c.number-number.ensures c.active_locks.ensures c.follow.ensures
