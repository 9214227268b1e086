use Rattle.std.proofs.Common.{◌-◌, refl, arith}
use Rattle.board.proofs.Filling.{filling_turns, filling_ends}
use Rattle.board.proofs.entries.fill.Goals as goal

pub loop-i-preserved : goal.loop-i-preserved
loop-i-preserved c =
    let a = c.args in
    filling_turns a.c a.board.now a.locks.now _ _ c.loop-i.board _ c.loop-i.i (c.loop-i.i - 1) c.common.result refl c.loop-i.invariant (omega (arith, c.requires.0)) (omega (arith, c.loop-i-test.true)) c.common.ensures c.touch.ensures

pub returns : goal.returns
returns c = let a = c.args in
    filling_ends a.c a.board.now a.locks.now c.loop-i.board c.loop-i.i c.loop-i.invariant (omega (arith, c.loop-i-test.false))
