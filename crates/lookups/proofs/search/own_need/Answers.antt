use Rattle.lists.proofs.Std.{any_std}
use Rattle.lists.proofs.Tests.{non_code}
use Rattle.lookups.specs.Code.{own_need}
use Rattle.lookups.proofs.search.own_need.Goals as goal

pub returns-in-Ecu : goal.returns-in-Ecu
unfolding own_need
returns-in-Ecu c = rw (c.in-Ecu.is, c.has_group.ensures, any_std) (non_code _)

pub returns-in-Functional : goal.returns-in-Functional
unfolding own_need
returns-in-Functional c = rw c.in-Functional.is
