use Rattle.std.proofs.Common.{rules, ◌≡◌, ap, arith, length, Ok}
use lib.ListN.{length-take}
use Rattle.rules.specs.Rules.{broken_rule}
use Rattle.lookups.specs.Reads.{covered_narrow_on}
use Rattle.lookups.proofs.Verdicts.{read_err, read_ok, actives_fit}
use Rattle.lookups.proofs.reads.covered_narrow_locks.Goals as goal

pub returns-in_err-broken : goal.returns-in_err-broken
unfolding covered_narrow_on
returns-in_err-broken c = search (rules, read_err)

pub narrow_ids-requires : goal.narrow_ids-requires
narrow_ids-requires c =
    let e : broken_rule c.args.s ≡ Ok tt = search rules in
    omega (arith, ap length c.active_locks.ensures, length-take c.args.s.actives c.args.s.active, actives_fit _ e)

pub returns : goal.returns
unfolding covered_narrow_on
returns c = search (rules, read_ok)
