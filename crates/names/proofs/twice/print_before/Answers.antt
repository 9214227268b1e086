use lib.Dec.{eqb}
use lib.ListN.{get_or, length-take}
use lib.Seq.{get_or-take}
use Rattle.std.proofs.Common.{rules, arith, ◌<◌}
use Rattle.lists.specs.Below.{any_below}
use Rattle.names.proofs.Prints.{any_more, any_end}
use Rattle.names.proofs.twice.print_before.Goals as goal

pub loop-earlier-init : goal.loop-earlier-init
unfolding any_below
loop-earlier-init c = search rules

pub loop-earlier-preserved : goal.loop-earlier-preserved
loop-earlier-preserved c =
    let a = c.args in
    let k : c.loop-earlier.earlier-index < a.i = omega (arith, length-take a.i a.prints.now) in
    rw (get_or-take a.i a.prints.now c.loop-earlier.earlier-index 0 k) (any_more (λ k. eqb (get_or a.prints.now k 0) (get_or a.prints.now a.i 0)) _ _ c.loop-earlier.invariant)

pub returns : goal.returns
returns c =
    let a = c.args in
    any_end _ _ c.loop-earlier.earlier-index _ (omega (arith, length-take a.i a.prints.now)) (omega (arith, length-take a.i a.prints.now)) c.loop-earlier.invariant
