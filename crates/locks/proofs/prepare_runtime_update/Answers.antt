use Rattle.std.proofs.Common.{rules}
use Rattle.lookups.specs.Reads.{on_sound}
use Rattle.locks.specs.Locks.{prepare_update_on}
use Rattle.locks.proofs.Laws as laws
use Rattle.locks.proofs.prepare_runtime_update.Goals as goal

pub returns-in_err-broken : goal.returns-in_err-broken
unfolding prepare_update_on on_sound
returns-in_err-broken c = search (rules, laws.err_from)

pub returns-then-has_group : goal.returns-then-has_group
returns-then-has_group c = search (rules, laws.group_held)

pub returns-then-has_other : goal.returns-then-has_other
returns-then-has_other c = search (rules, laws.ecu_held)

pub returns : goal.returns
returns c = search (rules, laws.none_held, laws.raised_is)
