use mathlib.Core.List.{map}
use Rattle.lists.specs.Places.{Holds}
use Rattle.names.specs.Table.{most, names_from}
use Rattle.names.specs.Code.{print_of}
use Rattle.names.proofs.twice.fingerprints.Given as goal

abbrev pub invariant-loop-i : goal.invariant-loop-i
invariant-loop-i l = Holds most 0 (map print_of (names_from l.names.table.now 0 l.i)) l.prints l.i
