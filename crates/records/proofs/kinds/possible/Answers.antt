use Rattle.records.proofs.Table.{units_many, units_few, sum_fits}
use native.Mathlib.Omega.{arith}
use borrow.Author.Rules.{rules}
use Rattle.records.proofs.kinds.possible.Goals as goal

pub returns-then-units-gt-UNITS : goal.returns-then-units-gt-UNITS
returns-then-units-gt-UNITS c = units_many c.args.row c.args.n c.units_in-units.result c.units_in-units.ensures c.if-units-gt-UNITS.true

pub overflow_mul-result : goal.overflow_mul-result
overflow_mul-result c = omega (arith, sum_fits c.args.row c.args.n c.units_in-units.result (search rules) (search rules) c.if-units-gt-UNITS.false)

pub overflow_add-result : goal.overflow_add-result
overflow_add-result c = omega (arith, sum_fits c.args.row c.args.n c.units_in-units.result (search rules) (search rules) c.if-units-gt-UNITS.false)

pub returns : goal.returns
returns c = units_few c.args.row c.args.n c.units_in-units.result c.units_in-units.ensures c.if-units-gt-UNITS.false
