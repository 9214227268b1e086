use mathlib.Core.List.{List, map}
use Prim.Native.Nat.{ℕ, ◌≤◌}
use lib.ListN.{take}
use Rattle.lists.specs.Lists.{filter}
use Rattle.lists.specs.Places.{Holds}
use Rattle.ids.specs.declared.LockId.{LockId}
use Rattle.ids.specs.Order.{no_id}
use Rattle.state.specs.declared.ActiveLock.{ActiveLock}
use Rattle.lookups.specs.Reads.{narrow}
use Rattle.lookups.proofs.search.narrow_ids.Given as goal

abbrev pub chosen : ActiveLock → List ActiveLock → ℕ → List LockId
chosen broad locks i = map (λ a. a.lock.id) (filter (narrow broad) (take i locks))

abbrev pub invariant-loop-a : goal.invariant-loop-a
invariant-loop-a l = (l.count ≤ l.a-index) × Holds 64 no_id (chosen l.broad l.locks l.a-index) l.ids l.count
