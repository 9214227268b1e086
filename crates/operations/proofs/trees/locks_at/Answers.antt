use mathlib.Core.Path.{refl}
use native.Mathlib.Omega.{arith}
use Rattle.lists.proofs.Loops.{copy_more}
use Rattle.state.specs.Locks.{blank_active}
use Rattle.operations.specs.Code.{lock_at}
use Rattle.operations.proofs.Going.{low_at}
use Rattle.operations.proofs.trees.locks_at.Goals as goal

pub offset_bounds-locks-j : goal.offset_bounds-locks-j
offset_bounds-locks-j c = omega (arith, low_at _ _ c.loop-i.i c.requires.1 c.loop-i-test.true)

pub bounds-locks-j : goal.bounds-locks-j
bounds-locks-j c = low_at _ _ c.loop-i.i c.requires.1 c.loop-i-test.true

pub loop-i-preserved : goal.loop-i-preserved
unfolding blank_active
loop-i-preserved c =
    let l = c.loop-i in
    copy_more (lock_at c.args.locks.now) 64 blank_active c.args.places.now l.out l.i 0 _ l.invariant (omega arith) c.loop-i-test.true refl
