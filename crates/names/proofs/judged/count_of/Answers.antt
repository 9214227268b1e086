use Rattle.names.specs.Table.{count_of}
use Rattle.names.proofs.judged.count_of.Goals as goal

pub returns : goal.returns
unfolding count_of
returns c = c.from_le_bytes.ensures
