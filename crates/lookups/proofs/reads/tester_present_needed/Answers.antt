use Rattle.std.proofs.Common.{rules, ◌≡◌, ap, sym, ◌∙◌, subst, Ok}
use Rattle.rules.proofs.Sound.{facts_of_state}
use Rattle.rules.specs.Rules.{broken_rule}
use Rattle.lookups.specs.Code.{Alone}
use Rattle.lookups.specs.Reads.{tester_present_needed_on, needs}
use Rattle.lists.specs.Lists.{any}
use Rattle.lookups.proofs.Presents.{alone_of}
use Rattle.lookups.proofs.Verdicts.{read_err, read_ok}
use Rattle.lookups.proofs.reads.tester_present_needed.Goals as goal

pub returns-in_err-broken : goal.returns-in_err-broken
unfolding tester_present_needed_on
returns-in_err-broken c = search (rules, read_err)

pub is_needed-requires : goal.is_needed-requires
is_needed-requires c =
    let e : broken_rule c.args.s ≡ Ok tt = search rules in
    let f = facts_of_state _ e in
    subst Alone (sym c.active_locks.ensures) (alone_of _ f.order f.two)

pub returns : goal.returns
unfolding tester_present_needed_on
returns c = read_ok c.args.s _ _ _ (search rules) (c.is_needed.ensures ∙ ap (λ l. any (needs l c.args.t) l) c.active_locks.ensures)
