use Rattle.lists.proofs.Tests.{codes}
use Rattle.lookups.specs.Reads.{narrow}
use Rattle.lookups.proofs.narrow_of.Goals as goal

pub returns : goal.returns
unfolding narrow
returns c = simp codes (rw (c.ecu_in.ensures, c.is_group.ensures))
