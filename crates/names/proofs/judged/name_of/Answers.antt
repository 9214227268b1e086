use Rattle.names.proofs.Entries.{name_part}
use Rattle.names.proofs.judged.name_of.Goals as goal

pub returns : goal.returns
returns c = name_part _
