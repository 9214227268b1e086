use Rattle.std.proofs.lemmas.Result.{err_from_is_err_and}
use Rattle.names.proofs.Chain.{bad_table, too_long, there, full, taught}
use Rattle.names.proofs.number_of.Goals as goal

pub returns-in_err-names : goal.returns-in_err-names
returns-in_err-names c = let p = err_from_is_err_and c.from_residual.result c.from_residual.ensures.1 in rw (p.1, p.2) (bad_table _ _ _ c.in_err-names.ensures)

pub returns-then-name-gt-LONGEST : goal.returns-then-name-gt-LONGEST
returns-then-name-gt-LONGEST c = too_long _ _ _ c.in_ok-names.ensures.0 c.if-name-gt-LONGEST.true

pub returns-then-at-n : goal.returns-then-at-n
returns-then-at-n c =
    let g = c.in_ok-names.ensures in
    there _ _ _ g.0 c.if-name-gt-LONGEST.false _ _ g.2 (rw g.1 at c.place_of-at.ensures) c.if-at-n.true

pub returns-then-n-ge-MOST : goal.returns-then-n-ge-MOST
returns-then-n-ge-MOST c =
    let g = c.in_ok-names.ensures in
    full _ _ _ g.0 c.if-name-gt-LONGEST.false _ _ g.2 (rw g.1 at c.place_of-at.ensures) c.if-at-n.false c.if-n-ge-MOST.true

pub returns : goal.returns
returns c =
    let g = c.in_ok-names.ensures in
    taught _ _ _ g.0 c.if-name-gt-LONGEST.false _ _ g.2 (rw g.1 at c.place_of-at.ensures) _ c.if-at-n.false c.if-n-ge-MOST.false c.learn.ensures
