use Rattle.operations.specs.Acknowledge.{lapsed}
use borrow.Author.Rules.{rules}
use Rattle.operations.proofs.acknowledge.has_lapsed.Goals as goal

pub returns : goal.returns
unfolding lapsed
returns c = search rules
