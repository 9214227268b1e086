use Rattle.std.proofs.Common.{sym, ◌∙◌, arith}
use Rattle.coverage.specs.Coverage.{covers}
use Rattle.board.proofs.Filling.{turning_starts, turning_turns, turning_ends}
use Rattle.board.proofs.entries.touch.Goals as goal

pub loop-e-init : goal.loop-e-init
loop-e-init c = turning_starts (covers c.args.c) c.args.lock c.args.board.now c.next_from-e.result c.requires c.next_from-e.ensures

pub turn-requires : goal.turn-requires
turn-requires c = (c.loop-e-test.true, c.loop-e.invariant.size)

pub overflow_add-e : goal.overflow_add-e
overflow_add-e c = omega (arith, c.loop-e-test.true)

pub next_from-e-requires-in-loop-e : goal.next_from-e-requires-in-loop-e
next_from-e-requires-in-loop-e c = omega (arith, c.loop-e-test.true)

pub loop-e-smaller : goal.loop-e-smaller
loop-e-smaller c = omega (arith, c.next_from-e-in-loop-e.ensures.after, c.loop-e-test.true)

pub loop-e-preserved : goal.loop-e-preserved
loop-e-preserved c =
    let l = c.loop-e in
    turning_turns (covers c.args.c) c.args.lock c.args.board.now l.board _ l.e c.next_from-e-in-loop-e.result l.invariant c.loop-e-test.true c.turn.ensures c.next_from-e-in-loop-e.ensures

pub shape_of-board : goal.shape_of-board
shape_of-board c = c.loop-e.invariant.size ∙ sym c.requires

pub returns : goal.returns
returns c = let l = c.loop-e in
    turning_ends (covers c.args.c) c.args.lock c.args.board.now l.board l.e l.invariant c.loop-e-test.false
