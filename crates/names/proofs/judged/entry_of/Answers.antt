use Rattle.names.proofs.Entries.{entry_part}
use Rattle.names.proofs.judged.entry_of.Goals as goal

pub returns : goal.returns
returns c = entry_part _ _
