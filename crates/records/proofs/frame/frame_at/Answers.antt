use mathlib.Core.Path.{sym, ◌∙◌}
use native.Mathlib.Omega.{arith}
use Rattle.records.proofs.Table.{rule}
use Rattle.records.proofs.Framing.{under_four, by_row}
use Rattle.records.proofs.frame.frame_at.Goals as goal

pub returns-then-s-at : goal.returns-then-s-at
returns-then-s-at c = let a = c.args in under_four a.s.now a.at a.due (omega arith)

pub returns-then-left-lt-FRAME : goal.returns-then-left-lt-FRAME
returns-then-left-lt-FRAME c = let a = c.args in under_four a.s.now a.at a.due c.if-left-lt-FRAME.true

pub frame_of-requires : goal.frame_of-requires
frame_of-requires c = omega (arith, c.well_formed, rule _ c.in-Some.row (sym c.row_of.ensures ∙ c.in-Some.is))

pub returns-in-Some : goal.returns-in-Some
returns-in-Some c =
    let a = c.args in
    rw (by_row a.s.now a.at a.due c.if-left-lt-FRAME.false, ← c.u16_at-n.ensures, ← c.u16_at.ensures, ← c.row_of.ensures, c.in-Some.is) c.frame_of.ensures

pub returns-in-None : goal.returns-in-None
returns-in-None c =
    let a = c.args in
    rw (by_row a.s.now a.at a.due c.if-left-lt-FRAME.false, ← c.u16_at.ensures, ← c.row_of.ensures, c.in-None.is)
