use mathlib.Core.Path.{◌≡◌, refl, ap, ◌∙◌}
use mathlib.Core.Bool.{Bool, true, false, not, beq, ◌&&◌, ◌||◌}
use lib.Dec.{eqb}
use Rattle.coverage.specs.declared.LockCoverage.{LockCoverage}
use Rattle.lists.specs.Tests.{◌and◌, ◌imp◌}
use Rattle.rules.specs.Rules.{zero_set, neat_l}
use Rattle.rules.proofs.shapes.neat_lock.Goals as goal

-- a coverage that is the whole vehicle's has no set
no_set : (w a b c d : Bool) → (not w || (a && (b && (c && (d && beq w true))))) ≡ (w imp (a and b and c and d))
unfolding ◌and◌ ◌imp◌
no_set false a b c d = refl
no_set true false b c d = refl
no_set true true false c d = refl
no_set true true true false d = refl
no_set true true true true false = refl
no_set true true true true true = refl

pub returns : goal.returns
unfolding zero_set neat_l
returns c =
    let k = c.args.x.coverage in
    ap (λ (r : Bool). not k.whole || r) (c.eq.ensures ∙ ap (λ (v : LockCoverage). eqb k.w0 v.w0 && (eqb k.w1 v.w1 && (eqb k.w2 v.w2 && (eqb k.w3 v.w3 && beq k.whole v.whole)))) c.vehicle.ensures)
    ∙ no_set k.whole (eqb k.w0 0) (eqb k.w1 0) (eqb k.w2 0) (eqb k.w3 0)
