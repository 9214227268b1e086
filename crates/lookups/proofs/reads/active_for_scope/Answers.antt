use Rattle.std.proofs.Common.{rules}
use Rattle.lookups.specs.Reads.{active_for_scope_on}
use Rattle.lookups.proofs.Verdicts.{read_err, read_ok}
use Rattle.lookups.proofs.reads.active_for_scope.Goals as goal

pub returns-in_err-broken : goal.returns-in_err-broken
unfolding active_for_scope_on
returns-in_err-broken c = search (rules, read_err)

pub returns : goal.returns
unfolding active_for_scope_on
returns c = search (rules, read_ok)
