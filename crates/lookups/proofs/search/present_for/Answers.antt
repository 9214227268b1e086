use Rattle.std.proofs.Common.{sym, ◌∙◌}
use Rattle.lists.proofs.Std.{any_std}
use Rattle.lookups.proofs.Presents.{of_vehicle, of_group, of_covered, of_ecu}
use Rattle.lookups.proofs.search.present_for.Goals as goal

pub returns-in-Vehicle : goal.returns-in-Vehicle
returns-in-Vehicle c = of_vehicle _ _ _ c.in-Vehicle.is

pub returns-then-has_group : goal.returns-then-has_group
returns-then-has_group c = of_covered _ _ _ _ c.in-Ecu.is (sym (any_std _ _) ∙ sym c.has_group.ensures ∙ c.if-has_group.true)

pub returns-else-has_group : goal.returns-else-has_group
returns-else-has_group c = of_ecu _ _ _ _ c.in-Ecu.is (sym (any_std _ _) ∙ sym c.has_group.ensures ∙ c.if-has_group.false)

pub returns-in-FunctionalGroup : goal.returns-in-FunctionalGroup
returns-in-FunctionalGroup c = of_group _ _ _ _ c.in-FunctionalGroup.is
