use mathlib.Core.Path.{◌≡◌}
use lib.ListN.{length}
use lib.Seq.{paste}
use Rattle.names.specs.Bytes.{kept}
use Rattle.names.specs.Table.{table_size}
use Rattle.names.proofs.learn.Given as goal

abbrev pub invariant-loop-i : goal.invariant-loop-i
invariant-loop-i l = (length l.table ≡ table_size) × (l.table ≡ paste l.initial.table l.at (kept l.folding l.name) l.i)
