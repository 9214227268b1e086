use mathlib.Core.Path.{◌≡◌}
use mathlib.Core.Bool.{true}
use Prim.Native.Nat.{ℕ, ◌<◌}
use Rattle.names.specs.Table.{entry_at, right_entry}
use Rattle.names.proofs.judged.all_right.Given as goal

abbrev pub invariant-loop-i : goal.invariant-loop-i
invariant-loop-i l = (k : ℕ) → k < l.i → right_entry l.folding (entry_at l.table k) ≡ true
