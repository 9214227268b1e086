use Rattle.image.proofs.Stores.{size_of}
use Rattle.image.proofs.write.image_size.Goals as goal

pub returns : goal.returns
returns c = size_of c.args.spare _ _ c.active_locks.ensures c.defunct_locks.ensures
