use native.Mathlib.Omega.{arith}
use mathlib.Core.Path.{sym, ◌∙◌, ap}
use Prim.Native.Nat.{ℕ, ◌-◌}
use borrow.Author.Tests.{eqb-true}
use lib.ListN.{get_or}
use Rattle.ids.specs.Order.{key, same_id}
use Rattle.state.specs.Locks.{dkey, blank_defunct}
use Rattle.rules.proofs.Keys.{place_nowhere, place_at}
use Rattle.rules.proofs.Search.{slot_lt, slot_free}
use Rattle.rules.proofs.places.Places.find.Goals as goal

pub bounds-self-slot : goal.bounds-self-slot
bounds-self-slot c = omega (arith, c.slot.ensures, slot_lt)

pub returns-then-p-eq0 : goal.returns-then-p-eq0
returns-then-p-eq0 c =
    place_nowhere dkey (key c.args.id) c.args.self.now.entries.now blank_defunct
    (slot_free _ _ _ _ c.args.self.now.slotted (ap (λ (k : ℕ). get_or c.args.self.now.slots k 0) (sym c.slot.ensures) ∙ sym c.from-p.ensures ∙ c.if-p-eq0.true))

pub returns-then-same : goal.returns-then-same
unfolding same_id blank_defunct
returns-then-same c =
    place_at dkey (key c.args.id) c.args.self.now.entries.now c.args.self.now.ascends (c.from-p.result - 1) blank_defunct
    (omega (arith, c.if-p-eq0.false, c.from-p.ensures, c.args.self.now.slotted.small c.slot.result)) (eqb-true _ _ (sym c.same.ensures ∙ c.if-same.true))
