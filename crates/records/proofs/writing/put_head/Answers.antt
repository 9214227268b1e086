use Rattle.records.proofs.Wire.{head_long}
use Rattle.records.proofs.writing.put_head.Goals as goal

pub put_whole-requires : goal.put_whole-requires
put_whole-requires c = head_long
