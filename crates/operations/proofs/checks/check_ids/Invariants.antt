use mathlib.Core.Path.{◌≡◌}
use Prim.Native.Nat.{◌≤◌, ◌-◌}
use lib.ListN.{length}
use Rattle.operations.specs.Code.{check_named}
use Rattle.operations.proofs.Listing.{goes_on}
use Rattle.operations.proofs.Refusing.{refuses}
use Rattle.ids.proofs.Words.{lowest_where}
use Rattle.operations.proofs.checks.check_ids.Given as goal

abbrev pub invariant-loop-j : goal.invariant-loop-j
invariant-loop-j s = (s.j ≤ s.words) × (s.words ≡ length s.list) × (goes_on (refuses (check_named s.child s.locks)) s.list s.lowest s.j ≡ lowest_where (refuses (check_named s.child s.locks)) s.list)

abbrev pub decreases-loop-j : goal.decreases-loop-j
decreases-loop-j l = l.words - l.j
