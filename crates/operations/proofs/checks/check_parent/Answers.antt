use Rattle.operations.proofs.Chains.{parent_2}
use Rattle.operations.proofs.checks.check_parent.Goals as goal

pub returns-then-parent-new : goal.returns-then-parent-new
returns-then-parent-new c = parent_2 c.args.new c.args.parent _ c.is_vehicle.ensures c.if-not-is_vehicle.false-raw c.if-parent-new.true
