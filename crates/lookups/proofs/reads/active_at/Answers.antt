use Rattle.std.proofs.Common.{rules, ap, ◌∙◌, slice_get}
use Rattle.lists.proofs.Std.{get_std}
use Rattle.lookups.specs.Reads.{active_at_on}
use Rattle.lookups.proofs.Verdicts.{read_err, read_ok}
use Rattle.lookups.proofs.reads.active_at.Goals as goal

pub returns-in_err-broken : goal.returns-in_err-broken
unfolding active_at_on
returns-in_err-broken c = search (rules, read_err)

pub returns : goal.returns
unfolding active_at_on
returns c =
    let h = c.get.ensures.lookup in
    read_ok c.args.s _ _ _ (search rules) (c.copied.ensures ∙ get_std _ c.args.i _ h.0 h.1 ∙ ap (λ l. slice_get l c.args.i) c.active_locks.ensures)
