use mathlib.Core.List.{◌++◌}
use mathlib.Core.Path.{◌≡◌}
use mathlib.Core.Bool.{Bool}
use Prim.Native.Nat.{◌+◌}
use lib.ListN.{take}
use Rattle.std.specs.Fn.{FnReturnsAt}
use Rattle.lists.specs.Tests.{non}
use Rattle.lists.specs.Lists.{filter}
use Rattle.lists.specs.Places.{Holds}
use Rattle.state.specs.declared.ActiveLock.{ActiveLock}
use Rattle.operations.specs.Code.{Tells, lock_at, halves_of}
use Rattle.operations.proofs.trees.take_out.Given as goal

abbrev pub invariant-loop-j : goal.invariant-loop-j
invariant-loop-j g l =
    (l.left + l.gone ≡ l.j-index + l.s.gone)
    × ((p : ActiveLock → Bool) → Tells (FnReturnsAt g.F.Fn l.goes) p →
    Holds 64 0 (filter (λ j. non (p (lock_at l.fn.locks j))) (take l.j-index l.j-items)) l.kept l.left
    × Holds 64 0 ((halves_of l.s).gone ++ filter (λ j. p (lock_at l.fn.locks j)) (take l.j-index l.j-items)) l.removed l.gone)
