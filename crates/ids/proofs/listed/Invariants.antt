use mathlib.Core.Path.{◌≡◌}
use lib.ListN.{length}
use Rattle.lists.specs.Lists.{any}
use Rattle.ids.specs.Order.{same_id}
use Rattle.ids.specs.Words.{ids_of, listed_in}
use Rattle.ids.proofs.listed.Given as goal

abbrev pub invariant-loop-rest : goal.invariant-loop-rest
invariant-loop-rest l = any (same_id l.id) (ids_of l.rest) ≡ listed_in l.list l.id

abbrev pub decreases-loop-rest : goal.decreases-loop-rest
decreases-loop-rest l = length l.rest
