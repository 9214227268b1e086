use Rattle.lists.proofs.Tests.{codes}
use Rattle.lookups.specs.Reads.{group_over}
use Rattle.lookups.proofs.group_over.Goals as goal

pub returns : goal.returns
unfolding group_over
returns c = simp codes (rw (c.contains_ecu.ensures, c.is_group.ensures))
