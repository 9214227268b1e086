use mathlib.Core.Path.{sym, ◌∙◌}
use Prim.Native.Nat.{◌+◌}
use native.Mathlib.Omega.{arith}
use Rattle.lists.proofs.Loops.{push, stay, sift_yes, sift_no}
use Rattle.ids.specs.Order.{no_id}
use Rattle.lookups.specs.Reads.{narrow}
use Rattle.lookups.proofs.search.narrow_ids.Invariants.{chosen}
use Rattle.lookups.proofs.search.narrow_ids.Goals as goal
use Rattle.lookups.proofs.search.narrow_ids.Goals.{then-narrow_of, else-narrow_of}

pub loop-a-preserved : goal.loop-a-preserved
loop-a-preserved c =
    let locks = c.args.locks.now in
    let i = c.loop-a.a-index in
    let kept = chosen c.args.broad locks i in
    elim c.if-narrow_of.branch [
      | then-narrow_of w ↦ rw (w.count-is, w.ids-is) (
        omega arith,
        push 64 no_id kept (chosen c.args.broad locks (i + 1)) c.loop-a.ids c.loop-a.count _ c.loop-a.invariant.1 (omega arith)
            (sift_yes (λ a. a.lock.id) (narrow c.args.broad) locks i _ c.loop-a-test.true (sym c.narrow_of.ensures ∙ w.if-narrow_of.true)),
      )
      | else-narrow_of w ↦ rw (w.count-is, w.ids-is) (
        omega arith,
        stay 64 no_id kept (chosen c.args.broad locks (i + 1)) c.loop-a.ids c.loop-a.count c.loop-a.invariant.1
            (sift_no (λ a. a.lock.id) (narrow c.args.broad) locks i _ c.loop-a-test.true (sym c.narrow_of.ensures ∙ w.if-narrow_of.false)),
      )
    ]
