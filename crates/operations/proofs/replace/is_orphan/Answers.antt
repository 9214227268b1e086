use Rattle.operations.proofs.Replacing.{orphan_is}
use Rattle.operations.proofs.replace.is_orphan.Goals as goal

pub returns : goal.returns
returns c = orphan_is c.args.new c.args.a _ _ c.is_vehicle.ensures c.has_id.ensures
