use mathlib.Core.Path.{◌≡◌}
use mathlib.Core.Bool.{true}
use Rattle.names.specs.Bytes.{none_twice}
use Rattle.names.specs.Table.{names_from}
use Rattle.names.proofs.twice.none_twice.Given as goal

abbrev pub invariant-loop-i : goal.invariant-loop-i
invariant-loop-i l = none_twice (names_from l.names.table.now 0 l.i) ≡ true
