use native.Mathlib.Omega.{arith}
use Rattle.player.proofs.Playing.{play_starts, play_ends, play_stops, play_moves, play_turns}
use Rattle.player.proofs.play.Goals as goal

pub loop-at-init : goal.loop-at-init
loop-at-init g c = play_starts c.args.start c.args.feed.now

pub returns-then-stops : goal.returns-then-stops
returns-then-stops g c =
    let a = c.args in
    play_stops a.start a.feed.now c.loop-at.spare c.loop-at.at c.loop-at-test.true c.step-s.result c.step-s.ensures _ c.stops.ensures c.if-stops.true c.loop-at.invariant

pub loop-at-smaller : goal.loop-at-smaller
loop-at-smaller g c =
    let a = c.args in
    omega (arith, c.loop-at-test.true, play_moves a.start a.feed.now c.loop-at.spare c.loop-at.at c.loop-at-test.true c.step-s.result c.step-s.ensures _ c.stops.ensures c.if-stops.false)

pub loop-at-preserved : goal.loop-at-preserved
loop-at-preserved g c =
    let a = c.args in
    play_turns a.start a.feed.now c.loop-at.spare c.loop-at.at c.loop-at-test.true c.step-s.result c.step-s.ensures _ c.stops.ensures c.if-stops.false c.loop-at.invariant

pub returns : goal.returns
returns g c = play_ends c.args.start c.args.feed.now c.loop-at.spare c.loop-at.at c.loop-at-test.false c.loop-at.invariant
