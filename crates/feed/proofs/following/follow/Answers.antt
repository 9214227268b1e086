use Rattle.std.proofs.Common.{arith}
use Rattle.feed.specs.Feed.{is_applied}
use Rattle.feed.proofs.Chunks.{at_most_one, starts, ends, halts, moves, turns}
use Rattle.feed.proofs.following.follow.Goals as goal

pub loop-place-init : goal.loop-place-init
loop-place-init c = starts c.args.start c.args.chunk.now

pub returns-then-stops : goal.returns-then-stops
returns-then-stops c = rw c.why.ensures (halts c.args.start c.args.chunk.now _ _ _ _ c.loop-place.invariant c.loop-place-test.true _ c.step-s.ensures _ c.stops.ensures c.if-stops.true)

pub overflow_add-read : goal.overflow_add-read
overflow_add-read c = omega (arith, c.loop-place.invariant.few, c.loop-place-test.true, c.well_formed)

pub overflow_add-applied : goal.overflow_add-applied
overflow_add-applied c = omega (arith, c.loop-place.invariant.few, c.loop-place.invariant.fewer, c.loop-place-test.true, c.well_formed, c.one_if_applied-applied.ensures, at_most_one (is_applied c.step-s.result.told.event))

pub loop-place-smaller : goal.loop-place-smaller
loop-place-smaller c = omega (arith, c.loop-place-test.true, moves c.args.start c.args.chunk.now _ _ _ _ c.loop-place.invariant c.loop-place-test.true _ c.step-s.ensures _ c.stops.ensures c.if-stops.false)

pub loop-place-preserved : goal.loop-place-preserved
loop-place-preserved c = turns c.args.start c.args.chunk.now _ _ _ _ c.loop-place.invariant c.loop-place-test.true _ c.step-s.ensures _ c.stops.ensures c.if-stops.false _ c.one_if_applied-applied.ensures

pub returns : goal.returns
returns c = ends c.args.start c.args.chunk.now _ _ _ _ c.loop-place.invariant c.loop-place-test.false
