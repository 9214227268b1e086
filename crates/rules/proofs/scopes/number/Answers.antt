use native.Mathlib.Omega.{arith}
use Rattle.rules.proofs.Scans.{small_vehicle, small_ecu, small_group}
use Rattle.rules.proofs.scopes.number.Goals as goal

pub returns-in-Vehicle : goal.returns-in-Vehicle
returns-in-Vehicle c = small_vehicle _ _ c.scope_code-n.ensures c.in-Vehicle.is

pub returns-in-Ecu : goal.returns-in-Ecu
returns-in-Ecu c = small_ecu _ _ c.scope_code-n.ensures _ c.in-Ecu.is (omega arith)

pub returns-in-FunctionalGroup : goal.returns-in-FunctionalGroup
returns-in-FunctionalGroup c = small_group _ _ c.scope_code-n.ensures _ c.in-FunctionalGroup.is (omega arith)
