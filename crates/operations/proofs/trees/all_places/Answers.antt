use mathlib.Core.Path.{◌≡◌, refl}
use Prim.Native.Nat.{◌+◌}
use native.Mathlib.Omega.{arith}
use lib.ListN.{replicate}
use Rattle.lists.proofs.Loops.{push}
use Rattle.operations.specs.Code.{up_to}
use Rattle.operations.proofs.Going.{up_more}
use Rattle.operations.proofs.trees.all_places.Goals as goal

pub loop-i-init : goal.loop-i-init
loop-i-init c = (refl, refl)

pub loop-i-preserved : goal.loop-i-preserved
loop-i-preserved c = let l = c.loop-i in push 64 0 (up_to l.i) (up_to (l.i + 1)) l.kept l.i l.i l.invariant (omega arith) (up_more l.i)

pub returns : goal.returns
returns c =
    let e : c.loop-i.i ≡ c.args.n = omega arith in
    let h = rw e at c.loop-i.invariant in
    λ j. record { left = h.1 j; kept = h.0 j; gone = 0; removed = replicate 64 0 }
