use Rattle.records.specs.Table.{units_in}
use Rattle.records.proofs.Table.{units_none, units_short}
use mathlib.Core.Path.{refl}
use Rattle.records.proofs.kinds.units_in.Goals as goal

pub returns-then-row-eq0 : goal.returns-then-row-eq0
returns-then-row-eq0 c = units_none c.args.row c.args.n c.if-row-eq0.true

pub returns-then-n-row : goal.returns-then-n-row
returns-then-n-row c = units_short c.args.row c.args.n c.if-n-row.true

pub returns : goal.returns
unfolding units_in
returns c = refl
