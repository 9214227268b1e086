use Rattle.std.proofs.Common.{rules}
use Rattle.lookups.proofs.Verdicts.{read_err}
use Rattle.locks.specs.Locks.{has_non_vehicle_on}
use Rattle.locks.proofs.Laws.{others_read}
use Rattle.locks.proofs.has_non_vehicle_locks.Goals as goal

pub returns-in_err-broken : goal.returns-in_err-broken
unfolding has_non_vehicle_on
returns-in_err-broken c = search (rules, read_err)

pub returns : goal.returns
returns c = search (rules, others_read)
