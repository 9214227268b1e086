use mathlib.Core.Path.{◌≡◌, refl, sym, ◌∙◌}
use mathlib.Core.List.{append-nil}
use native.Mathlib.Omega.{arith}
use lib.ListN.{length, get_or}
use lib.Seq.{take-length, drop-length}
use Rattle.lists.proofs.Tests.{cond_true, cond_false}
use Rattle.state.specs.Locks.{blank_active}
use Rattle.operations.specs.Vehicle.{adopt}
use Rattle.operations.proofs.Adopting.{place_changed}
use Rattle.operations.proofs.insert_vehicle.taken_in.Goals as goal
use Rattle.operations.proofs.insert_vehicle.taken_in.Goals.{then-takes, else-takes}

pub loop-a-preserved : goal.loop-a-preserved
unfolding adopt blank_active
loop-a-preserved g c = λ p t.
    let l = c.loop-a in
    let e : c.takes.result ≡ p (get_or l.locks l.a-index blank_active) = t _ _ (record { shown = _; shows = refl; says = record { met = c.takes.ensures } }) in
    elim c.if-takes.branch [
      | then-takes w ↦ w.locks-is ∙ place_changed (adopt p c.args.new) c.args.locks.now l.locks l.a-index c.loop-a-test.true (l.invariant p t) _ (w.nested.ensures ∙ sym (cond_true _ _ _ (sym e ∙ w.if-takes.true)))
      | else-takes w ↦ rw w.locks-is (place_changed (adopt p c.args.new) c.args.locks.now l.locks l.a-index c.loop-a-test.true (l.invariant p t) _ (sym (cond_false _ _ _ (sym e ∙ w.if-takes.false))))
    ]

pub returns : goal.returns
returns g c = λ p t.
    let e : c.loop-a.a-index ≡ length c.args.locks.now = omega arith in
    c.loop-a.invariant p t ∙ rw (e, take-length, drop-length, append-nil)
