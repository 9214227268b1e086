use Rattle.names.proofs.Bytes.{keep_folding, keep_as_is}
use Rattle.names.proofs.keep_byte.Goals as goal

pub returns-then-folding : goal.returns-then-folding
returns-then-folding c = keep_folding _ _ _ c.if-folding.true c.fold_byte.ensures

pub returns-else-folding : goal.returns-else-folding
returns-else-folding c = keep_as_is _ _ c.if-folding.false
