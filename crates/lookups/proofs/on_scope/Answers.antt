use Rattle.lookups.specs.Reads.{on_scope}
use borrow.Author.Rules.{rules}
use Rattle.lookups.proofs.on_scope.Goals as goal

pub returns : goal.returns
unfolding on_scope
returns c = search rules
