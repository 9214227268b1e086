use Rattle.lists.proofs.Tests.{codes}
use Rattle.operations.specs.Trees.{in_tree}
use Rattle.operations.proofs.trees.in_tree.Goals as goal

pub returns : goal.returns
unfolding in_tree
returns c = simp codes (rw (c.child_of.ensures, c.narrow_of.ensures, c.has_id.ensures))
