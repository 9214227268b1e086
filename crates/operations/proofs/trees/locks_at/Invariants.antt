use mathlib.Core.List.{map}
use lib.ListN.{take}
use Rattle.lists.specs.Places.{Holds}
use Rattle.state.specs.Locks.{blank_active}
use Rattle.operations.specs.Code.{lock_at}
use Rattle.operations.proofs.trees.locks_at.Given as goal

abbrev pub invariant-loop-i : goal.invariant-loop-i
invariant-loop-i l = Holds 64 blank_active (map (lock_at l.fn.locks) (take l.i l.fn.places)) l.out l.i
