use mathlib.Core.Path.{◌≡◌, refl, sym, ap, subst, ◌∙◌}
use mathlib.Core.List.{map}
use Prim.Native.Nat.{◌≤◌, ◌<◌, ◌+◌}
use native.Mathlib.Omega.{arith}
use Rattle.std.proofs.Common.{rules}
use lib.ListN.{length, get_or, take, replicate, length-map}
use lib.Seq.{get_or-take, length-take-le}
use Rattle.lists.proofs.Loops.{length_of_mapped, more, map_more}
use Rattle.state.specs.Locks.{blank_active}
use Rattle.operations.specs.Code.{lock_at, halves_of}
use Rattle.operations.proofs.Over.{over, over_long, taken_down, blanking_start, blanking_step, closed_end}
use Rattle.operations.proofs.Going.{low_at, ahead_of, left_count}
use Rattle.operations.proofs.trees.moved_down.Goals as goal
use Rattle.operations.proofs.trees.moved_down.Goals.{In-loop-i, After-loop-i, Start}

many : (c : Start) → length c.args.s.now.kept ≡ 64
many c = search (rules, length_of_mapped)

few : (c : Start) → c.args.s.now.left ≤ 64
few c = omega (arith, c.requires.0.room)

low : (c : In-loop-i) → get_or c.args.s.now.kept c.loop-i.i 0 < 64
low c =
    let o = (goal.at.In-loop-i c).Start in
    let s = o.args.s.now in
    let k = low_at _ (take s.left s.kept) c.loop-i.i o.requires.0.stays (omega (arith, length-take-le s.left s.kept (omega (arith, many o, few o)), c.loop-i-test.true)) in
    omega (arith, get_or-take s.left s.kept c.loop-i.i 0 c.loop-i-test.true, k, o.requires.1)

pub offset_bounds-locks-s : goal.offset_bounds-locks-s
offset_bounds-locks-s c = omega (arith, low (goal.at.offset_bounds-locks-s c).In-loop-i)

pub slice_copy_out-a : goal.slice_copy_out-a
slice_copy_out-a c = omega (arith, low (goal.at.slice_copy_out-a c).In-loop-i, c.loop-i.auto.locks, c.requires.1)

pub loop-i-preserved : goal.loop-i-preserved
unfolding blank_active
loop-i-preserved c =
    let o = (goal.at.loop-i-preserved c).Start in
    let s = o.args.s.now in
    let a = o.args.locks.now in
    let l = c.loop-i in
    let e = length-map (take l.i s.kept) (lock_at a) ∙ length-take-le l.i s.kept (omega (arith, many o, few o)) in
    taken_down (map (lock_at a) (take l.i s.kept)) _ a l.locks blank_active l.i _ l.invariant (sym e) (ahead_of s.kept s.left l.i o.requires.0.rises c.loop-i-test.true (omega (arith, many o, few o))) (omega (arith, o.requires.1, few o))
    (ap (map (lock_at a)) (more s.kept l.i 0 (omega (arith, many o, few o))) ∙ map_more (lock_at a) (take l.i s.kept) (get_or s.kept l.i 0))

-- ---- after the first loop: those that stay have been taken down
closed : (c : After-loop-i) → c.loop-i.locks ≡ over (map (lock_at (goal.at.After-loop-i c).Start.args.locks.now) (halves_of (goal.at.After-loop-i c).Start.args.s.now).kept) (goal.at.After-loop-i c).Start.args.locks.now
closed c = let e : c.loop-i.i ≡ (goal.at.After-loop-i c).Start.args.s.now.left = omega arith in rw e at c.loop-i.invariant

pub loop-i-2-preserved : goal.loop-i-2-preserved
loop-i-2-preserved c = blanking_step c.loop-i.locks _ c.args.s.now.left c.loop-i-2.locks c.loop-i-2.i c.loop-i-2.invariant c.loop-i-2.auto.i (omega (arith, c.loop-i.auto.locks, c.requires.1, c.loop-i-2-test.true))

front : (c : After-loop-i) → length (map (lock_at (goal.at.After-loop-i c).Start.args.locks.now) (halves_of (goal.at.After-loop-i c).Start.args.s.now).kept) ≡ (goal.at.After-loop-i c).Start.args.s.now.left
front c =
    let s = (goal.at.After-loop-i c).Start.args.s.now in
    length-map (take s.left s.kept) (lock_at (goal.at.After-loop-i c).Start.args.locks.now) ∙ length-take-le s.left s.kept (omega (arith, many (goal.at.After-loop-i c).Start, few (goal.at.After-loop-i c).Start))
