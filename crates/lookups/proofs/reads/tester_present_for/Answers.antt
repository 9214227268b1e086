use Rattle.std.proofs.Common.{rules}
use Rattle.lookups.specs.Reads.{tester_present_for_on}
use Rattle.lookups.proofs.Verdicts.{read_err, read_ok}
use Rattle.lookups.proofs.reads.tester_present_for.Goals as goal

pub returns-in_err-broken : goal.returns-in_err-broken
unfolding tester_present_for_on
returns-in_err-broken c = search (rules, read_err)

pub returns : goal.returns
unfolding tester_present_for_on
returns c = search (rules, read_ok)
