use Rattle.std.proofs.Common.{◌∙◌}
use Rattle.board.proofs.Filling.{turn_put}
use Rattle.board.proofs.entries.turn.Goals as goal

pub returns : goal.returns
returns c = c.put_id.ensures ∙ rw c.unwrap_or-id.ensures (turn_put c.args.board.now c.args.e c.count_after.result c.args.lock c.requires.1 c.requires.0 c.count_after.ensures)
