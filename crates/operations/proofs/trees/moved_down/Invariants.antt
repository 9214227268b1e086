use mathlib.Core.Path.{◌≡◌}
use mathlib.Core.List.{map}
use lib.ListN.{take}
use Rattle.lists.specs.Places.{in_places}
use Rattle.operations.specs.Code.{lock_at}
use Rattle.operations.proofs.Over.{over}
use Rattle.operations.proofs.trees.moved_down.Given as goal

abbrev pub invariant-loop-i : goal.invariant-loop-i
invariant-loop-i l = l.locks ≡ over (map (lock_at l.fn.locks) (take l.i l.s.kept)) l.fn.locks

abbrev pub invariant-loop-i-2 : goal.invariant-loop-i-2
invariant-loop-i-2 l = l.locks ≡ over (in_places l.i l.blank (take l.s.left l.initial.locks)) l.initial.locks
