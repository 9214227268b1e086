use native.Mathlib.Omega.{arith}
use Rattle.coverage.proofs.Shared.{bit_below}
use Rattle.coverage.proofs.ecu_of.Goals as goal

pub overflow_cast-result : goal.overflow_cast-result
overflow_cast-result c = let b = bit_below c.args.w (omega arith) c.requires.0 in omega arith

pub overflow_add-result : goal.overflow_add-result
overflow_add-result c = let b = bit_below c.args.w (omega arith) c.requires.0 in omega arith
