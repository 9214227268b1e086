use mathlib.Core.List.{List}
use Prim.Native.Nat.{ℕ, ◌≤◌}
use lib.ListN.{take}
use Rattle.lists.specs.Lists.{filter}
use Rattle.lists.specs.Places.{Holds}
use Rattle.ids.specs.declared.LockId.{LockId}
use Rattle.ids.specs.Order.{no_id}
use Rattle.state.specs.declared.DefunctLock.{DefunctLock}
use Rattle.operations.specs.Acknowledge.{lapsed, ids_of_entries}
use Rattle.operations.proofs.acknowledge.expired.Given as goal

abbrev pub chosen : ℕ → List DefunctLock → ℕ → List LockId
chosen clock l i = ids_of_entries (filter (lapsed clock) (take i l))

abbrev pub invariant-loop-d : goal.invariant-loop-d
invariant-loop-d l = (l.gone ≤ l.d-index) × Holds 128 no_id (chosen l.fn.now l.d-items l.d-index) l.ids l.gone
