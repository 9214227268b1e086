use mathlib.Core.Path.{◌≡◌, refl}
use Prim.Native.Nat.{◌+◌, ◌<◌}
use native.Mathlib.Omega.{arith}
use lib.ListN.{length, get_or, take}
use Rattle.std.proofs.lemmas.List.{take_all}
use Rattle.std.specs.Fn.{FnReturnsAt}
use Rattle.state.specs.Locks.{blank_active}
use Rattle.operations.specs.Code.{Tells, lock_at, halves_of}
use Rattle.operations.proofs.Going.{low_at, gone_yes, gone_no, kept_yes, kept_no, gone_start, left_count}
use Rattle.operations.proofs.trees.take_out.Goals as goal
use Rattle.operations.proofs.trees.take_out.Goals.{then-goes, else-goes}

pub loop-j-init : goal.loop-j-init
loop-j-init g c = (omega arith, λ p t. ((refl, refl), gone_start _ c.args.s.now c.requires.sorting))

pub offset_bounds-locks-j : goal.offset_bounds-locks-j
offset_bounds-locks-j g c = omega (arith, low_at _ _ c.loop-j.j-index c.requires.sorting.stays c.loop-j-test.true, c.fits-s)

pub bounds-locks-j : goal.bounds-locks-j
bounds-locks-j g c = low_at _ _ c.loop-j.j-index c.requires.sorting.stays c.loop-j-test.true

pub loop-j-preserved : goal.loop-j-preserved
unfolding blank_active
loop-j-preserved g c =
    let l = c.loop-j in
    let items = (halves_of c.args.s.now).kept in
    let j = get_or items l.j-index 0 in
    let small : l.left + l.gone < 64 = omega (arith, left_count _ c.args.s.now c.requires.sorting, c.requires.sorting.room, c.loop-j-test.true) in
    elim c.if-goes.branch [
      | then-goes w ↦ (
        omega (arith, w.left-is, w.gone-is),
        λ p t.
            let q = λ (k : _). p (lock_at c.args.locks.now k) in
            let e : c.goes.result ≡ q j = t _ _ (record { shown = _; shows = refl; says = record { met = c.goes.ensures } }) in (
              rw (w.kept-is, w.left-is) (kept_no q 0 0 items (halves_of c.args.s.now).gone l.j-index _ c.loop-j-test.true e l.kept l.left (l.invariant.1 p t).0 w.if-goes.true),
              rw (w.removed-is, w.gone-is) (gone_yes q 0 0 items (halves_of c.args.s.now).gone l.j-index _ c.loop-j-test.true e l.removed l.gone (l.invariant.1 p t).1 (omega arith) w.if-goes.true),
            ),
      )
      | else-goes w ↦ (
        omega (arith, w.left-is, w.gone-is),
        λ p t.
            let q = λ (k : _). p (lock_at c.args.locks.now k) in
            let e : c.goes.result ≡ q j = t _ _ (record { shown = _; shows = refl; says = record { met = c.goes.ensures } }) in (
              rw (w.kept-is, w.left-is) (kept_yes q 0 0 items (halves_of c.args.s.now).gone l.j-index _ c.loop-j-test.true e l.kept l.left (l.invariant.1 p t).0 (omega arith) w.if-goes.false),
              rw (w.removed-is, w.gone-is) (gone_no q 0 0 items (halves_of c.args.s.now).gone l.j-index _ c.loop-j-test.true e l.removed l.gone (l.invariant.1 p t).1 w.if-goes.false),
            ),
      )
    ]

pub returns : goal.returns
returns g c = λ p t.
    let h = c.loop-j.invariant.1 p t in
    let e : take c.loop-j.j-index (halves_of c.args.s.now).kept ≡ (halves_of c.args.s.now).kept = take_all _ _ c.loop-j-test.false in
    let k = rw e at h in
    λ j. record { left = k.0.1 j; kept = k.0.0 j; gone = k.1.1 j; removed = k.1.0 j }
