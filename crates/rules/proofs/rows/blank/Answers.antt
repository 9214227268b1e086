use Rattle.std.proofs.Common.{ap, ◌∙◌, sym, Bool}
use native.Mathlib.Omega.{arith}
use Rattle.lists.specs.Tests.{◌and◌, non}
use Rattle.rules.specs.Code.{clean}
use Rattle.rules.proofs.Keys.{all_more}
use Rattle.rules.proofs.rows.blank.Goals as goal

pub loop-x-init : goal.loop-x-init
unfolding clean ◌and◌ non
loop-x-init g c = ap clean c.nothing-dirt.ensures

pub loop-x-preserved : goal.loop-x-preserved
loop-x-preserved g c =
    c.stain-dirt.ensures
    ∙ ap (λ (b : Bool). b and g.T.Row.is_blank c.x-item.result) c.loop-x.invariant
    ∙ sym (all_more g.T.Row.is_blank c.args.rows.now c.loop-x.x-index c.x-item.result (omega arith) c.x-item.is)
