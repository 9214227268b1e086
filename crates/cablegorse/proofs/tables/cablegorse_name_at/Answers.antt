use mathlib.Core.Path.{refl, ap, ◌∙◌}
use Rattle.std.specs.Prelude.{Ok}
use native.Mathlib.Omega.{arith}
use Rattle.cablegorse.proofs.Naming.{no_table, no_name, inside, name_short, name_copied}
use Rattle.cablegorse.proofs.tables.cablegorse_name_at.Goals as goal

pub returns-then-out-place : goal.returns-then-out-place
returns-then-out-place c = name_short _ _ _ _ _ c.place_at.ensures _ _ _ (c.in-Ok-Some.is ∙ ap Ok c.in-Ok-Some.field-0-is) c.if-out-place.true c.new-then-out-place.ensures

pub overflow_add-end : goal.overflow_add-end
overflow_add-end c = omega (arith, inside _ _ _ _ _ _ c.place_at.ensures (c.in-Ok-Some.is ∙ ap Ok c.in-Ok-Some.field-0-is))

pub slice_bounds-copy-end : goal.slice_bounds-copy-end
slice_bounds-copy-end c = omega (arith, inside _ _ _ _ _ _ c.place_at.ensures (c.in-Ok-Some.is ∙ ap Ok c.in-Ok-Some.field-0-is))

pub returns-in-Err-BadTable : goal.returns-in-Err-BadTable
returns-in-Err-BadTable c = no_table _ _ _ _ _ c.place_at.ensures _ _ c.in-Err-BadTable.is c.new.ensures

pub returns-in-Ok-None : goal.returns-in-Ok-None
returns-in-Ok-None c = no_name _ _ _ _ _ c.place_at.ensures _ (c.in-Ok-None.is ∙ ap Ok c.in-Ok-None.field-0-is) c.new-in-Ok-None.ensures

pub returns-else-out-place : goal.returns-else-out-place
returns-else-out-place c = name_copied _ _ _ _ _ c.place_at.ensures _ _ _ (c.in-Ok-Some.is ∙ ap Ok c.in-Ok-Some.field-0-is) c.if-out-place.false _ _ _ refl c.copy-n.ensures.count c.copy-n.ensures.written c.new-in-Ok-Some.ensures
