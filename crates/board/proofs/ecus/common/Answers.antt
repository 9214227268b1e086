use Rattle.board.proofs.Covering.{common_left, common_right, common_sets}
use Rattle.board.proofs.ecus.common.Goals as goal

pub returns-then-a : goal.returns-then-a
returns-then-a c = let a = c.args in common_left a.a a.b c.if-a.true

pub returns-then-b : goal.returns-then-b
returns-then-b c = let a = c.args in common_right a.a a.b c.if-b.true

pub returns : goal.returns
returns c = let a = c.args in
    common_sets a.a a.b c.if-a.false c.if-b.false
