use Rattle.operations.proofs.Chains.{conflict_meets, conflict_at}
use Rattle.operations.proofs.checks.conflict_with.Goals as goal

pub returns-in-None : goal.returns-in-None
returns-in-None c = absurd (conflict_meets c.args.new c.args.a _ c.overlaps.ensures c.requires c.in-None.is)

pub returns-in-Some : goal.returns-in-Some
returns-in-Some c = conflict_at c.args.new c.args.a _ c.overlaps.ensures _ c.in-Some.is
