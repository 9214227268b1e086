use mathlib.Core.Path.{◌≡◌}
use Prim.Native.Nat.{ℕ, ◌<◌}
use lib.ListN.{length, get_or}
use Rattle.ids.specs.Order.{key}
use Rattle.state.specs.Locks.{blank_defunct}
use Rattle.rules.specs.Code.{entry_key, Sought}
use Rattle.rules.proofs.walks.steps.Given as goal

abbrev pub invariant-loop-i : goal.invariant-loop-i
invariant-loop-i l =
    (length l.out ≡ 128)
    × ((j : ℕ) → j < l.i → Sought (entry_key l.places.entries.now) (length l.places.entries.now) (key (get_or l.places.entries.now j blank_defunct).target) (get_or l.out j 0))
