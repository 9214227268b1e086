use Rattle.std.proofs.Common.{rules}
use Rattle.lookups.specs.Reads.{covering_group_on}
use Rattle.lookups.proofs.Verdicts.{read_err, read_ok}
use Rattle.lookups.proofs.reads.covering_functional_group.Goals as goal

pub returns-in_err-broken : goal.returns-in_err-broken
unfolding covering_group_on
returns-in_err-broken c = search (rules, read_err)

pub returns : goal.returns
unfolding covering_group_on
returns c = search (rules, read_ok)
