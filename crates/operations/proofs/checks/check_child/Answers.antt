use Rattle.operations.proofs.Chains.{child_owner, child_covered}
use Rattle.operations.proofs.checks.check_child.Goals as goal

pub returns-then-new-child : goal.returns-then-new-child
returns-then-new-child c = child_owner c.args.new c.args.child c.if-new-child.true

pub returns-then-not-contains : goal.returns-then-not-contains
returns-then-not-contains c = child_covered c.args.new c.args.child c.if-new-child.false _ c.contains.ensures c.if-not-contains.true-raw
