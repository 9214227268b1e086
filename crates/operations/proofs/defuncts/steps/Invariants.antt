use mathlib.Core.List.{List, map}
use mathlib.Core.Path.{◌≡◌}
use Prim.Native.Nat.{ℕ, ◌<◌}
use lib.ListN.{length, get_or}
use Rattle.lists.specs.Tests.{Yes}
use Rattle.lists.specs.Lists.{ascending}
use Rattle.ids.specs.Order.{key}
use Rattle.state.specs.declared.DefunctLock.{DefunctLock}
use Rattle.state.specs.Locks.{dkey, blank_defunct}
use Rattle.rules.specs.Rules.{find_d}
use Rattle.operations.specs.Code.{left_by, entry_at}
use Rattle.operations.proofs.defuncts.steps.Given as goal

abbrev pub invariant-loop-i : goal.invariant-loop-i
invariant-loop-i l =
    (length l.out ≡ 128)
    × ((t : List DefunctLock) → l.fn.gone ≡ map left_by t → Yes (ascending dkey t) → (i : ℕ) → i < l.i → entry_at t (get_or l.out i 0) ≡ find_d t (key (get_or t i blank_defunct).target))
