use mathlib.Core.Path.{◌≡◌, sym, ◌∙◌}
use mathlib.Core.List.{append-nil}
use native.Mathlib.Omega.{arith}
use lib.ListN.{length}
use lib.Seq.{take-length, drop-length}
use Rattle.lists.proofs.Tests.{cond_true, cond_false}
use Rattle.state.specs.Locks.{blank_active}
use Rattle.operations.specs.Renew.{extend_at}
use Rattle.operations.proofs.Adopting.{place_changed}
use Rattle.operations.proofs.renew.extend_in.Goals as goal
use Rattle.operations.proofs.renew.extend_in.Goals.{then-has_id, else-has_id}

pub loop-a-preserved : goal.loop-a-preserved
unfolding extend_at blank_active
loop-a-preserved c =
    let l = c.loop-a in
    let a = c.args in
    elim c.if-has_id.branch [
      | then-has_id w ↦ w.locks-is ∙ place_changed (extend_at a.id a.expires a.given a.metadata) a.locks.now l.locks l.a-index c.loop-a-test.true l.invariant _ (w.extend.ensures ∙ sym (cond_true _ _ _ (sym c.has_id.ensures ∙ w.if-has_id.true)))
      | else-has_id w ↦ rw w.locks-is (place_changed (extend_at a.id a.expires a.given a.metadata) a.locks.now l.locks l.a-index c.loop-a-test.true l.invariant _ (sym (cond_false _ _ _ (sym c.has_id.ensures ∙ w.if-has_id.false))))
    ]

pub returns : goal.returns
returns c =
    let e : c.loop-a.a-index ≡ length c.args.locks.now = omega arith in
    c.loop-a.invariant ∙ rw (e, take-length, drop-length, append-nil)
