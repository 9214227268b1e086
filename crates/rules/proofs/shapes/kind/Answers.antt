use Rattle.state.specs.Locks.{is_vehicle}
use borrow.Author.Rules.{rules}
use Rattle.rules.proofs.shapes.kind.Goals as goal

pub returns-in-Vehicle : goal.returns-in-Vehicle
unfolding is_vehicle
returns-in-Vehicle c = search rules

pub returns-in-Ecu : goal.returns-in-Ecu
unfolding is_vehicle
returns-in-Ecu c = search rules

pub returns-in-FunctionalGroup : goal.returns-in-FunctionalGroup
unfolding is_vehicle
returns-in-FunctionalGroup c = search rules
