use mathlib.Core.Path.{sym, ap, ◌∙◌}
use Rattle.std.specs.Prelude.{Some}
use Rattle.coverage.proofs.Shared.{shared_apart, shared_spot}
use Rattle.coverage.proofs.LockCoverage.overlaps.Goals as goal

pub returns-then-not-meets : goal.returns-then-not-meets
returns-then-not-meets c = let o = c.args in sym (shared_apart o.self o.other (sym c.meets.ensures ∙ c.if-not-meets.true))

pub returns : goal.returns
returns c = let o = c.args in
    ap Some c.spot_of.ensures ∙ sym (shared_spot o.self o.other (sym c.meets.ensures ∙ c.if-not-meets.false))
