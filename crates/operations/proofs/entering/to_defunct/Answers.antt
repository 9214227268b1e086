use borrow.Author.Rules.{rules}
use Rattle.operations.specs.Defuncts.{to_defunct}
use Rattle.operations.proofs.entering.to_defunct.Goals as goal

pub returns : goal.returns
unfolding to_defunct
returns c = search rules
