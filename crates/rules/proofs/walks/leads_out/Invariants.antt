use Prim.Native.Nat.{◌+◌, ◌≤◌}
use lib.ListN.{length}
use Rattle.rules.proofs.Steps.{zeros, Passed, Passing}
use Rattle.rules.proofs.walks.leads_out.Given as goal

abbrev pub invariant-loop-j : goal.invariant-loop-j
invariant-loop-j l = (l.j ≤ length l.next) × Passing l.next (length l.next) (l.i + 1) l.j l.passed

abbrev pub decreases-loop-j : goal.decreases-loop-j
decreases-loop-j l = zeros l.passed

abbrev pub invariant-loop-i : goal.invariant-loop-i
invariant-loop-i l = Passed l.next (length l.next) l.i l.passed
