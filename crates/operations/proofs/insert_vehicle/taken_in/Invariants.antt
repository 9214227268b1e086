use mathlib.Core.Bool.{Bool}
use mathlib.Core.Path.{◌≡◌}
use mathlib.Core.List.{map, ◌++◌}
use lib.ListN.{take, drop}
use Rattle.std.specs.Fn.{FnReturnsAt}
use Rattle.state.specs.declared.ActiveLock.{ActiveLock}
use Rattle.operations.specs.Vehicle.{adopt}
use Rattle.operations.specs.Code.{Tells}
use Rattle.operations.proofs.insert_vehicle.taken_in.Given as goal

abbrev pub invariant-loop-a : goal.invariant-loop-a
invariant-loop-a g l = (p : ActiveLock → Bool) → Tells (FnReturnsAt g.F.Fn l.takes) p → l.locks ≡ map (adopt p l.new) (take l.a-index l.fn.locks) ++ drop l.a-index l.fn.locks
