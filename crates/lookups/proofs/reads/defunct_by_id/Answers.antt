use Rattle.std.proofs.Common.{rules}
use Rattle.lookups.specs.Reads.{defunct_by_id_on}
use Rattle.lookups.proofs.Verdicts.{read_err, read_ok}
use Rattle.lookups.proofs.reads.defunct_by_id.Goals as goal

pub returns-in_err-broken : goal.returns-in_err-broken
unfolding defunct_by_id_on
returns-in_err-broken c = search (rules, read_err)

pub returns : goal.returns
unfolding defunct_by_id_on
returns c = search (rules, read_ok)
