use Rattle.std.proofs.Common.{◌≡◌, ℕ, Err, sym, ap, ◌∙◌, subst, length, ◌+◌, slice_set, rules, arith}
use Rattle.ids.specs.Order.{key}
use Rattle.image.proofs.Running.{Going, ends, stops, turns}
use Rattle.std.proofs.lemmas.Result.{err_from_is_err_and}
use Rattle.image.proofs.read.run_from.Goals as goal

pub returns-in_err-r : goal.returns-in_err-r
returns-in_err-r g c =
    let p = err_from_is_err_and c.from_residual.result c.from_residual.ensures.1 in
    rw (p.1, p.2) (sym (stops g.R.Entry.list c.args.strict _ _ _ _ _ _ _ c.loop-i.invariant (omega arith) _ (sym c.record_after.ensures ∙ c.in_err-r.was)))

pub loop-i-preserved : goal.loop-i-preserved
loop-i-preserved g c =
    subst (λ (k : ℕ). Going g.R.Entry.list c.args.strict c.args.image.now (length c.args.places.now) c.args.at (slice_set c.loop-i.places c.loop-i.i c.in_ok-r.r) k c.in_ok-r.past (c.loop-i.i + 1))
    (g.met.R.Entry.ids _ ∙ ap key (sym c.id-last.ensures))
    (turns g.R.Entry.list c.args.strict _ _ _ _ _ _ _ c.loop-i.invariant (omega arith) _ _ (sym c.record_after.ensures ∙ c.in_ok-r.was))

pub returns : goal.returns
returns g c = sym (ends g.R.Entry.list c.args.strict _ _ _ _ _ _ _ c.loop-i.invariant (omega arith))
