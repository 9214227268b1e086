use Rattle.records.proofs.Wire.{active_long}
use Rattle.records.proofs.writing.put_active.Goals as goal

pub put_whole-requires : goal.put_whole-requires
put_whole-requires c = active_long
