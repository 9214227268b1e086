use mathlib.Core.Path.{◌≡◌}
use lib.Dec.{eqb}
use lib.ListN.{get_or}
use Rattle.lists.specs.Below.{any_below}
use Rattle.names.proofs.twice.print_before.Given as goal

abbrev pub invariant-loop-earlier : goal.invariant-loop-earlier
invariant-loop-earlier l = l.before ≡ any_below l.earlier-index (λ k. eqb (get_or l.prints k 0) (get_or l.prints l.i 0))
