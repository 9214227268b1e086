use mathlib.Core.Path.{◌≡◌}
use mathlib.Core.List.{map}
use lib.ListN.{drop}
use Rattle.lists.specs.Lists.{any}
use Rattle.state.specs.Locks.{has_id}
use Rattle.operations.specs.Code.{lock_at}
use Rattle.operations.proofs.trees.root_out.Given as goal

abbrev pub invariant-loop-j : goal.invariant-loop-j
invariant-loop-j l = any (has_id l.fn.r.lock.id) (map (lock_at l.fn.locks) (drop l.j-index l.j-items)) ≡ any (has_id l.fn.r.lock.id) (map (lock_at l.fn.locks) l.j-items)
