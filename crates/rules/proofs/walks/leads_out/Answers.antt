use mathlib.Core.Path.{◌≡◌, sym}
use Prim.Native.Nat.{◌<◌}
use native.Mathlib.Omega.{arith}
use lib.ListN.{length, get_or}
use Rattle.rules.specs.Code.{Step}
use Rattle.rules.proofs.Steps.{zeros_set, goes_on, stays, pass_none, pass_more, pass_next}
use Rattle.rules.proofs.walks.leads_out.Goals as goal
use Rattle.rules.proofs.walks.leads_out.Goals.{After-from-j, In-loop-j}

-- the walk goes on from here
here : (c : In-loop-j) → (c.loop-j.j < length c.args.next.now) × (get_or c.loop-j.passed c.loop-j.j 0 ≡ 0)
here c = goes_on _ _ _ c.loop-j-test.true

-- and comes to this place
next : (c : After-from-j) → Step c.args.next.now (length c.args.next.now) c.loop-j.j c.from-j.result
next c = ((here (goal.at.After-from-j c).In-loop-j).0, sym c.from-j.ensures)

pub loop-i-init : goal.loop-i-init
loop-i-init c = pass_none _ _

pub loop-j-smaller : goal.loop-j-smaller
loop-j-smaller c =
    let h = here (goal.at.loop-j-smaller c).In-loop-j in
    zeros_set c.loop-j.passed c.loop-j.j _ (omega (arith, c.loop-j.invariant.1.long)) h.1 (λ e. omega arith)

pub loop-j-preserved : goal.loop-j-preserved
loop-j-preserved c =
    let w = next c in
    (omega (arith, w.1, c.requires.1 c.loop-j.j w.0), pass_more _ _ _ _ _ c.loop-j.invariant.1 c.from-j.result (omega arith) w.0 c.requires.0 w)

pub loop-i-preserved : goal.loop-i-preserved
loop-i-preserved c =
    pass_next _ _ _ _ _ c.loop-j.invariant.1 (omega arith) c.if-passed-j.false (stays _ _ _ c.loop-j-test.false)
