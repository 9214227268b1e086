use mathlib.Core.Path.{◌≡◌}
use mathlib.Core.Bool.{true}
use lib.ListN.{get_or, take}
use Rattle.lists.specs.Below.{all_below}
use Rattle.state.specs.Locks.{blank_active}
use Rattle.rules.specs.Code.{Kept, clear_at}
use Rattle.rules.proofs.covers.friends.Given as goal

abbrev pub invariant-loop-i : goal.invariant-loop-i
invariant-loop-i l = Kept (take l.i l.active) (get_or l.active 0 blank_active).lock.subject l.same l.set × (all_below l.i (clear_at l.active) ≡ true)
