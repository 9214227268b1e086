use Rattle.screen.proofs.Reading.{board_alone}
use borrow.Author.Rules.{rules}
use Rattle.screen.proofs.board_of.Goals as goal

pub returns : goal.returns
returns c = board_alone c.args.state _ c.requires (search rules) c.fresh.ensures
