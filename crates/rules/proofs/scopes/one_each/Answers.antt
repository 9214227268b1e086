use mathlib.Core.Path.{◌≡◌, refl, sym, subst}
use mathlib.Core.Bool.{true}
use Prim.Native.Nat.{ℕ}
use native.Mathlib.Omega.{arith}
use Rattle.lists.specs.Below.{all_below}
use Rattle.lists.proofs.Below.{all_no}
use Rattle.state.specs.Locks.{blank_active}
use Rattle.rules.specs.Code.{code_at, alone_at}
use Rattle.rules.proofs.Keys.{one_more}
use Rattle.rules.proofs.Scans.{mark_none, mark_more, seen_yes, seen_no}
use Rattle.rules.proofs.scopes.one_each.Goals as goal

pub loop-a-init : goal.loop-a-init
unfolding all_below
loop-a-init c = (mark_none (code_at c.args.active.now), refl)

pub returns-then-seen-k : goal.returns-then-seen-k
unfolding blank_active
returns-then-seen-k c = sym (all_no _ (alone_at c.args.active.now) c.loop-a.a-index c.loop-a-test.true (seen_yes (code_at c.args.active.now) c.loop-a.a-index c.loop-a.seen c.loop-a.invariant.0 _ c.number-k.ensures.0 c.if-seen-k.true))

pub loop-a-preserved : goal.loop-a-preserved
unfolding blank_active
loop-a-preserved c = (
  mark_more (code_at c.args.active.now) c.loop-a.a-index c.loop-a.seen c.loop-a.invariant.0 _ c.number-k.ensures.0 c.number-k.ensures.1,
  one_more c.loop-a.a-index (alone_at c.args.active.now) c.loop-a.invariant.1 (seen_no (code_at c.args.active.now) c.loop-a.a-index c.loop-a.seen c.loop-a.invariant.0 _ c.number-k.ensures.0 c.if-seen-k.false),
)

pub returns : goal.returns
returns c = sym (subst (λ (n : ℕ). all_below n (alone_at c.args.active.now) ≡ true) (omega arith) c.loop-a.invariant.1)
