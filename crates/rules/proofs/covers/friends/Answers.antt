use mathlib.Core.Path.{◌≡◌, refl, sym, ◌∙◌, subst}
use mathlib.Core.Bool.{true}
use Prim.Native.Nat.{ℕ}
use native.Mathlib.Omega.{arith}
use Rattle.lists.specs.Below.{all_below}
use Rattle.lists.proofs.Below.{all_no}
use Rattle.state.specs.Locks.{blank_active}
use Rattle.rules.specs.Code.{clear_at}
use Rattle.rules.proofs.Keys.{one_more}
use Rattle.rules.proofs.Clash.{lone_vehicle, kept_none, kept_vehicle, kept_more}
use Rattle.rules.proofs.covers.friends.Goals as goal

pub loop-i-init : goal.loop-i-init
unfolding all_below
loop-i-init c = (kept_none _ _, refl)

pub loop-i-preserved-then-is_vehicle : goal.loop-i-preserved-then-is_vehicle
unfolding blank_active
loop-i-preserved-then-is_vehicle c =
    let v = sym c.is_vehicle.ensures ∙ c.if-is_vehicle.true in (
      kept_vehicle c.args.active.now c.loop-i.i c.loop-i-test.true _ _ _ c.loop-i.invariant.0 v,
      one_more c.loop-i.i (clear_at c.args.active.now) c.loop-i.invariant.1 (lone_vehicle _ _ v),
    )

pub returns-then-not-settled : goal.returns-then-not-settled
unfolding blank_active
returns-then-not-settled c = sym (all_no _ (clear_at c.args.active.now) c.loop-i.i c.loop-i-test.true (sym c.settled.ensures ∙ c.if-not-settled.true))

pub loop-i-preserved : goal.loop-i-preserved
unfolding blank_active
loop-i-preserved c = (
  kept_more c.args.active.now c.loop-i.i c.loop-i-test.true _ _ _ c.loop-i.invariant.0 c.union-set.result c.union-set.ensures,
  one_more c.loop-i.i (clear_at c.args.active.now) c.loop-i.invariant.1 (sym c.settled.ensures ∙ c.if-not-settled.false),
)

pub returns : goal.returns
returns c = sym (subst (λ (n : ℕ). all_below n (clear_at c.args.active.now) ≡ true) (omega arith) c.loop-i.invariant.1)
