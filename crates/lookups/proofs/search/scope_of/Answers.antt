use Rattle.lookups.specs.Code.{scope_of}
use Rattle.lookups.proofs.search.scope_of.Goals as goal

pub returns-in-Ecu : goal.returns-in-Ecu
unfolding scope_of
returns-in-Ecu c = rw c.in-Ecu.is

pub returns-in-Functional : goal.returns-in-Functional
unfolding scope_of
returns-in-Functional c = rw c.in-Functional.is
