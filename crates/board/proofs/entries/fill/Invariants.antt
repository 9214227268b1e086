use Rattle.board.proofs.Filling.{Filling}
use Rattle.board.proofs.entries.fill.Given as goal

abbrev pub invariant-loop-i : goal.invariant-loop-i
invariant-loop-i l = Filling l.c l.initial.board l.locks l.board l.i
