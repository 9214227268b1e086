use Rattle.board.proofs.Covering.{joined_sets}
use Rattle.board.proofs.ecus.joined.Goals as goal

pub returns : goal.returns
returns c = joined_sets _ _
