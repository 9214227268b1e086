use Rattle.std.proofs.Common.{◌-◌, length}
use Rattle.feed.proofs.Chunks.{Left}
use Rattle.feed.proofs.following.follow.Given as goal

abbrev pub invariant-loop-place : goal.invariant-loop-place
invariant-loop-place l = Left l.initial.spare l.chunk l.spare l.place l.read l.applied

abbrev pub decreases-loop-place : goal.decreases-loop-place
decreases-loop-place l = length l.chunk - l.place
