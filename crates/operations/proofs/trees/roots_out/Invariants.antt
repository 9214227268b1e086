use mathlib.Core.Path.{◌≡◌}
use Rattle.operations.specs.Code.{places_of}
use Rattle.operations.proofs.Going.{halves_at}
use Rattle.operations.proofs.trees.roots_out.Given as goal

abbrev pub invariant-loop-r : goal.invariant-loop-r
invariant-loop-r l = l.out ≡ places_of (halves_at l.fn.list l.fn.locks l.r-index)
