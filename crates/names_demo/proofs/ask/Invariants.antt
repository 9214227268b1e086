use Prim.Native.Nat.{◌≤◌}
use Rattle.names_demo.proofs.ask.Given as goal

abbrev pub invariant-loop-i : goal.invariant-loop-i
invariant-loop-i l = l.good ≤ l.i
