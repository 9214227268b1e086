use mathlib.Core.Path.{sym, ◌∙◌}
use Rattle.records.proofs.Table.{with_units_fits}
use Rattle.records.specs.Table.{length_with}
use borrow.Author.Rules.{rules}
use Rattle.records.proofs.kinds.length_with.Goals as goal

pub overflow_mul-result : goal.overflow_mul-result
overflow_mul-result c = let h = with_units_fits c.args.kind c.in-Some.row (sym c.row_of.ensures ∙ c.in-Some.is) c.args.units (search rules) in search rules

pub overflow_add-result : goal.overflow_add-result
overflow_add-result c = let h = with_units_fits c.args.kind c.in-Some.row (sym c.row_of.ensures ∙ c.in-Some.is) c.args.units (search rules) in search rules

pub returns-in-Some : goal.returns-in-Some
unfolding length_with
returns-in-Some c = rw (← c.row_of.ensures, c.in-Some.is)

pub returns-in-None : goal.returns-in-None
unfolding length_with
returns-in-None c = rw (← c.row_of.ensures, c.in-None.is)
