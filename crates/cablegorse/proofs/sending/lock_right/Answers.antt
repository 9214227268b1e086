use Rattle.records.proofs.Wire.{four}
use Rattle.cablegorse.proofs.sending.lock_right.Goals as goal

pub returns : goal.returns
returns c = four _ _ _ _
