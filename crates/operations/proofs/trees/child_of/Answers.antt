use Rattle.lists.proofs.Tests.{codes}
use Rattle.ids.specs.Order.{same_id}
use Rattle.operations.specs.Trees.{child_of}
use Rattle.operations.proofs.trees.child_of.Goals as goal

pub returns : goal.returns
unfolding child_of same_id
returns c = simp codes (rw c.same.ensures)
