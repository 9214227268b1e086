use mathlib.Core.Path.{sym, ◌∙◌}
use native.Mathlib.Omega.{arith}
use Rattle.records.proofs.Table.{length_of_lem}
use Rattle.records.proofs.Framing.{not_due, impossible, missing, is_whole}
use Rattle.records.proofs.frame.frame_of.Goals as goal

pub returns-then-row-due : goal.returns-then-row-due
returns-then-row-due c = let a = c.args in not_due a.row a.n a.at a.left a.due c.if-row-due.true

pub returns-then-not-possible : goal.returns-then-not-possible
returns-then-not-possible c =
    let a = c.args in
    impossible a.row a.n a.at a.left a.due c.if-row-due.false (sym c.possible.ensures ∙ c.if-not-possible.true)

pub returns-then-left-size : goal.returns-then-left-size
returns-then-left-size c =
    let a = c.args in
    missing a.row a.n a.at a.left a.due c.if-row-due.false (sym c.possible.ensures ∙ c.if-not-possible.false) c.if-left-size.true

pub overflow_add-result : goal.overflow_add-result
overflow_add-result c =
    let a = c.args in
    omega (arith, c.requires, c.if-left-size.false, length_of_lem a.row a.n (sym c.possible.ensures ∙ c.if-not-possible.false))

pub overflow_sub-result : goal.overflow_sub-result
overflow_sub-result c =
    let a = c.args in
    omega (arith, c.requires, c.if-left-size.false, length_of_lem a.row a.n (sym c.possible.ensures ∙ c.if-not-possible.false))

pub returns : goal.returns
returns c =
    let a = c.args in
    rw c.units_in-units.ensures
    (is_whole a.row a.n a.at a.left a.due c.if-row-due.false (sym c.possible.ensures ∙ c.if-not-possible.false) c.if-left-size.false)
