use mathlib.Core.Path.{◌≡◌}
use Prim.Native.Nat.{◌+◌, ◌-◌}
use Rattle.names.specs.Bytes.{kept, place_of}
use Rattle.names.specs.Table.{names_from}
use Rattle.names.proofs.judged.Names.place_of.Given as goal

abbrev pub invariant-loop-i : goal.invariant-loop-i
invariant-loop-i l = l.i + place_of (kept l.folding l.name) (names_from l.self.table.now l.i (l.self.count - l.i)) ≡ place_of (kept l.folding l.name) (names_from l.self.table.now 0 l.self.count)
