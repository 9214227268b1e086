use native.Mathlib.Omega.{arith}
use Rattle.rules.proofs.Search.{slot_is}
use Rattle.rules.proofs.places.slot.Goals as goal

pub returns : goal.returns
returns c = slot_is c.args.id (omega arith)
