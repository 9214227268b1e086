use Prim.Native.Nat.{◌-◌}
use lib.ListN.{length}
use Rattle.player.proofs.Playing.{Left}
use Rattle.player.proofs.play.Given as goal

abbrev pub invariant-loop-at : goal.invariant-loop-at
invariant-loop-at g l = Left l.initial.spare l.feed l.spare l.at

abbrev pub decreases-loop-at : goal.decreases-loop-at
decreases-loop-at g l = length l.feed - l.at
