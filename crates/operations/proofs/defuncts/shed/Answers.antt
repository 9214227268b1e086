use mathlib.Core.Bool.{Bool, false}
use mathlib.Core.List.{map}
use mathlib.Core.Path.{◌≡◌, refl, sym, ◌∙◌}
use Prim.Native.Nat.{◌<◌}
use native.Mathlib.Omega.{arith}
use lib.ListN.{length, get_or, take}
use Rattle.std.proofs.Common.{rules}
use Rattle.std.specs.Fn.{FnReturnsAt}
use Rattle.lists.specs.Lists.{filter}
use Rattle.state.specs.Locks.{blank_defunct}
use Rattle.operations.specs.Code.{left_by}
use Rattle.operations.proofs.Passing.{read_yes, read_no, read_all, stay, go_out, shed_done, shed_none, gone_order}
use Rattle.operations.proofs.defuncts.shed.Goals as goal
use Rattle.operations.proofs.defuncts.shed.Goals.{then-goes, else-goes, then-not-goes, else-not-goes}

pub loop-d-preserved : goal.loop-d-preserved
unfolding blank_defunct
loop-d-preserved g c =
    let l = c.loop-d in
    let es = c.args.entries.now in
    let h : l.d-index < 128 = omega (arith, c.requires.settled.few) in
    elim c.if-goes.branch [
      | then-goes w ↦ (
        omega (arith, w.n-is),
        λ p t.
            let e : c.goes.result ≡ p (get_or es l.d-index blank_defunct) = t _ _ (record { shown = _; shows = refl; says = record { met = c.goes.ensures } }) in
            rw (w.gone-is, w.n-is) (read_yes p es l.gone l.n l.d-index (l.invariant.1 p t) (omega arith) c.loop-d-test.true (sym e ∙ w.if-goes.true)),
      )
      | else-goes w ↦ (
        omega (arith, w.n-is),
        λ p t.
            let e : c.goes.result ≡ p (get_or es l.d-index blank_defunct) = t _ _ (record { shown = _; shows = refl; says = record { met = c.goes.ensures } }) in
            rw (w.gone-is, w.n-is) (read_no p es l.gone l.n l.d-index (l.invariant.1 p t) c.loop-d-test.true (sym e ∙ w.if-goes.false)),
      )
    ]

pub returns-then-n-entries : goal.returns-then-n-entries
returns-then-n-entries g c = λ p t.
    let es = c.args.entries.now in
    let k = read_all p es c.loop-d.gone c.loop-d.n c.loop-d.d-index (c.loop-d.invariant.1 p t) c.loop-d-test.false in
    shed_none p es c.requires.settled c.loop-d.n k.1 c.if-n-entries.true c.fill.new.self c.blank_defunct.result c.blank_defunct.ensures (c.fill.ensures.after (λ y s. search rules))

pub loop-i-preserved : goal.loop-i-preserved
unfolding blank_defunct
loop-i-preserved g c =
    let l = c.loop-i in
    let es = c.args.entries.now in
    elim c.if-not-goes.branch [
      | then-not-goes w ↦ (
        omega (arith, w.left-is),
        λ p t.
            let e : c.goes-in-loop-i.result ≡ p (get_or l.entries l.i blank_defunct) = t _ _ (record { shown = _; shows = refl; says = record { met = c.goes-in-loop-i.ensures } }) in
            let k = read_all p es c.loop-d.gone c.loop-d.n c.loop-d.d-index (c.loop-d.invariant.1 p t) c.loop-d-test.false in
            let o = gone_order p es c.requires.settled in
            let v = l.invariant.1 p t in
            rw (w.entries-is, w.left-is) (stay p es l.i c.loop-i-test.true l.entries l.left v.0 v.1 _ e w.if-not-goes.true w.handed_on.result (w.handed_on.ensures (filter p es) k.0 o (c.steps-next.ensures.1 (filter p es) k.0 o))),
      )
      | else-not-goes w ↦ (
        omega (arith, w.left-is),
        λ p t.
            let e : c.goes-in-loop-i.result ≡ p (get_or l.entries l.i blank_defunct) = t _ _ (record { shown = _; shows = refl; says = record { met = c.goes-in-loop-i.ensures } }) in
            let v = l.invariant.1 p t in
            rw (w.entries-is, w.left-is) (go_out p es l.i c.loop-i-test.true l.entries l.left v.0 v.1 _ e w.if-not-goes.false),
      )
    ]

pub returns : goal.returns
returns g c = λ p t.
    let es = c.args.entries.now in
    let v = c.loop-i.invariant.1 p t in
    shed_done p es c.requires.settled c.loop-i.i c.loop-i-test.false c.loop-i.auto.i-end c.loop-i.entries c.loop-i.left v.0 v.1 c.fill-2.new.self c.blank_defunct-2.result c.blank_defunct-2.ensures (c.fill-2.ensures.after (λ y s. search rules))
