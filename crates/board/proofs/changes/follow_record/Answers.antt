use Rattle.std.proofs.Common.{sym, ap, ◌∙◌}
use Rattle.std.specs.Prelude.{Result}
use Rattle.records.specs.declared.frame.Unread.{Unread}
use Rattle.feed.specs.declared.taking.Placed.{Placed}
use Rattle.board.specs.Forms.{taken_moved}
use Rattle.board.proofs.Boarding.{taken_none, taken_some}
use Rattle.board.proofs.changes.follow_record.Goals as goal

pub returns-in-Ok : goal.returns-in-Ok
returns-in-Ok c = c.follow_request.ensures ∙ taken_some c.args.feed.now c.args.at c.args.step c.args.board.now _ (sym c.taken_at.ensures ∙ c.in-Ok.is)

pub returns-in-Err : goal.returns-in-Err
returns-in-Err c = taken_none c.args.feed.now c.args.at c.args.step c.args.board.now c.requires (ap (λ (t : Result Placed Unread). taken_moved t c.args.step) (sym c.taken_at.ensures ∙ c.in-Err.is))
