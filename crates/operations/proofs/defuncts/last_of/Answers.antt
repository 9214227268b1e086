use mathlib.Core.Path.{◌≡◌, ◌∙◌}
use Prim.Native.Nat.{◌-◌}
use native.Mathlib.Omega.{arith}
use Rattle.operations.proofs.Landing.{walk_starts, walk_turns, walk_stops, walk_spent}
use Rattle.operations.proofs.defuncts.last_of.Goals as goal

pub loop-init : goal.loop-init
loop-init c = λ gone e. let q : c.args.n - 0 ≡ c.args.n = omega arith in rw q

pub returns-then-n-at : goal.returns-then-n-at
returns-then-n-at c =
    let l = c.loop in
    λ gone e. walk_stops gone _ _ e (c.args.n - l.counter) l.at l.last c.if-n-at.true ∙ l.invariant gone e ∙ walk_starts gone _ _ e c.args.first

pub loop-preserved : goal.loop-preserved
loop-preserved c =
    let l = c.loop in
    λ gone e. walk_turns gone _ _ e l.counter l.at l.last (omega arith) (omega arith) ∙ l.invariant gone e

pub returns : goal.returns
returns c =
    let l = c.loop in
    λ gone e. walk_spent gone _ _ e l.counter l.at l.last (omega arith) ∙ l.invariant gone e ∙ walk_starts gone _ _ e c.args.first
