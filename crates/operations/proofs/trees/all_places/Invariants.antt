use Rattle.lists.specs.Places.{Holds}
use Rattle.operations.specs.Code.{up_to}
use Rattle.operations.proofs.trees.all_places.Given as goal

abbrev pub invariant-loop-i : goal.invariant-loop-i
invariant-loop-i l = Holds 64 0 (up_to l.i) l.kept l.i
