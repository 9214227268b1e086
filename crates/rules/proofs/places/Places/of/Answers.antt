use native.Mathlib.Omega.{arith}
use Rattle.state.specs.Locks.{blank_defunct}
use Rattle.rules.specs.Code.{entry_key}
use Rattle.rules.proofs.Search.{slot_lt, slot_none, slot_more}
use Rattle.rules.proofs.places.Places.of.Goals as goal

pub loop-i-init : goal.loop-i-init
loop-i-init c = slot_none _

pub bounds-slots-slot : goal.bounds-slots-slot
bounds-slots-slot c = omega (arith, c.slot.ensures, slot_lt)

pub loop-i-preserved : goal.loop-i-preserved
unfolding blank_defunct
loop-i-preserved c = slot_more (entry_key c.args.entries.now) c.loop-i.i c.loop-i.slots c.slot.result c.slot.ensures c.loop-i.invariant
