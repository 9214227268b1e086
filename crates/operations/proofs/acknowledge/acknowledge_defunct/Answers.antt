use mathlib.Core.Path.{◌≡◌, sym, ◌∙◌}
use borrow.Author.Rules.{rules}
use Rattle.lists.proofs.Loops.{length_of_mapped}
use Rattle.operations.specs.Acknowledge.{acknowledge_on}
use Rattle.operations.proofs.Closing.{on_unsound}
use Rattle.operations.proofs.acknowledge.acknowledge_defunct.Goals as goal

pub acknowledged-told-requires : goal.acknowledged-told-requires
acknowledged-told-requires c = (search (rules, length_of_mapped), search (rules, length_of_mapped), sym c.broken.ensures ∙ c.in-Ok.is)

pub returns-in-Err : goal.returns-in-Err
unfolding acknowledge_on
returns-in-Err c = rw c.from.ensures (on_unsound _ _ _ _ _ c.broken.ensures c.in-Err.is)
