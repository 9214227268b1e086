use Rattle.rules.specs.Code.{entry_key, Slotted}
use Rattle.rules.proofs.places.Places.of.Given as goal

abbrev pub invariant-loop-i : goal.invariant-loop-i
invariant-loop-i l = Slotted (entry_key l.entries) l.i l.slots
