use mathlib.Core.Bool.{Bool}
use mathlib.Core.List.{map}
use mathlib.Core.Path.{◌≡◌}
use Prim.Native.Nat.{◌≤◌}
use lib.ListN.{length, take}
use Rattle.std.specs.Fn.{FnReturnsAt}
use Rattle.lists.specs.Lists.{filter}
use Rattle.lists.specs.Places.{Holds}
use Rattle.state.specs.declared.DefunctLock.{DefunctLock}
use Rattle.operations.specs.Code.{Tells, left_by}
use Rattle.operations.proofs.Over.{over}
use Rattle.operations.proofs.Passing.{staying, nothing}
use Rattle.operations.proofs.defuncts.shed.Given as goal

abbrev pub invariant-loop-d : goal.invariant-loop-d
invariant-loop-d g l = (l.n ≤ l.d-index) × ((p : DefunctLock → Bool) → Tells (FnReturnsAt g.F.Fn l.goes) p → Holds 128 nothing (map left_by (filter p (take l.d-index l.fn.entries))) l.gone l.n)

abbrev pub invariant-loop-i : goal.invariant-loop-i
invariant-loop-i g l = (l.left ≤ l.i) × ((p : DefunctLock → Bool) → Tells (FnReturnsAt g.F.Fn l.goes) p → (l.entries ≡ over (staying p l.fn.entries l.i) l.fn.entries) × (l.left ≡ length (staying p l.fn.entries l.i)))
