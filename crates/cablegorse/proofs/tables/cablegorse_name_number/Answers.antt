use Rattle.cablegorse.proofs.Naming.{named}
use Rattle.cablegorse.proofs.tables.cablegorse_name_number.Goals as goal

pub returns : goal.returns
returns c = named _ _ _ _ _ _ c.number_of.ensures c.from.ensures
