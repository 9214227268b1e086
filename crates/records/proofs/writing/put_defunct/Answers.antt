use Rattle.records.proofs.Wire.{defunct_long}
use Rattle.records.proofs.writing.put_defunct.Goals as goal

pub put_whole-requires : goal.put_whole-requires
put_whole-requires c = defunct_long
