use Rattle.records.specs.Table.{length_of}
use Rattle.records.proofs.kinds.length_of.Goals as goal

pub returns-in-Some : goal.returns-in-Some
unfolding length_of
returns-in-Some c = rw (← c.row_of.ensures, c.in-Some.is)

pub returns-in-None : goal.returns-in-None
unfolding length_of
returns-in-None c = rw (← c.row_of.ensures, c.in-None.is)
