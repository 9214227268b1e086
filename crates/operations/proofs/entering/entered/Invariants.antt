use mathlib.Core.Path.{◌≡◌}
use mathlib.Core.Bool.{false}
use Prim.Native.Nat.{ℕ, ◌≤◌, ◌<◌, ◌-◌}
use lib.ListN.{length, get_or, take}
use lib.Seq.{slice}
use Rattle.lists.specs.Places.{in_places, leading, Holds}
use Rattle.lists.proofs.Shifts.{passed, shifted_up}
use Rattle.ids.specs.Order.{key}
use Rattle.state.specs.Locks.{dkey, blank_defunct}
use Rattle.operations.specs.Defuncts.{redirect, superseded}
use Rattle.operations.specs.Code.{unflagged, hand_on, place_of, table_of}
use Rattle.operations.proofs.Over.{over}
use Rattle.operations.proofs.Flags.{mapped}
use Rattle.operations.proofs.Coming.{with_places_lem, entered_at}
use Rattle.operations.proofs.entering.entered.Given as goal

abbrev pub invariant-loop-i : goal.invariant-loop-i
invariant-loop-i l = (l.i ≤ l.m) × Holds 192 blank_defunct (take l.i l.entries) l.out l.i

abbrev pub decreases-loop-i : goal.decreases-loop-i
decreases-loop-i l = l.m - l.i

abbrev pub invariant-loop-k : goal.invariant-loop-k
invariant-loop-k l = (l.k ≤ l.n) × (leading (passed dkey (key l.a.lock.id)) (slice l.k l.n l.out) l.k ≡ place_of dkey l.a.lock.id (take l.n l.out))

abbrev pub decreases-loop-k : goal.decreases-loop-k
decreases-loop-k l = l.n - l.k

abbrev pub invariant-loop-j : goal.invariant-loop-j
invariant-loop-j l = (l.k ≤ l.j) × (l.j ≤ l.n) × (l.k ≡ place_of dkey l.a.lock.id (take l.n l.initial.out)) × (l.out ≡ shifted_up l.initial.out l.j l.n)

abbrev pub decreases-loop-j : goal.decreases-loop-j
decreases-loop-j l = l.j

abbrev pub invariant-loop-g : goal.invariant-loop-g
invariant-loop-g l = (l.g ≤ l.gone) × (with_places_lem l.n l.out ≡ table_of (entered_at (with_places_lem l.initial.n l.initial.out) l.removed l.new l.by l.at l.g))

abbrev pub decreases-loop-g : goal.decreases-loop-g
decreases-loop-g l = l.gone - l.g

abbrev pub invariant-loop-p : goal.invariant-loop-p
invariant-loop-p l = (l.p ≤ l.n) × (length l.goes ≡ 192) × ((j : ℕ) → j < l.p → get_or l.goes j false ≡ superseded l.new (get_or l.out j blank_defunct))

abbrev pub decreases-loop-p : goal.decreases-loop-p
decreases-loop-p l = l.n - l.p

abbrev pub invariant-loop-j-then-goes-k : goal.invariant-loop-j-then-goes-k
invariant-loop-j-then-goes-k l = (l.j ≤ l.n) × (l.out ≡ mapped (redirect l.e) l.j l.initial.out)

abbrev pub decreases-loop-j-then-goes-k : goal.decreases-loop-j-then-goes-k
decreases-loop-j-then-goes-k l = l.n - l.j

abbrev pub invariant-loop-f : goal.invariant-loop-f
invariant-loop-f l = (l.f ≤ l.n) × (length l.out ≡ 192) × (take l.n l.out ≡ hand_on l.goes l.f (take l.n l.initial.out))

abbrev pub decreases-loop-f : goal.decreases-loop-f
decreases-loop-f l = l.n - l.f

abbrev pub invariant-loop-q : goal.invariant-loop-q
invariant-loop-q l = (l.q ≤ l.n) × (l.w ≤ l.q) × (l.w ≡ length (unflagged (take l.q l.goes) (take l.q l.out))) × (length l.entries ≡ 128) × (l.w ≤ 128 → l.entries ≡ over (unflagged (take l.q l.goes) (take l.q l.out)) l.initial.entries)

abbrev pub decreases-loop-q : goal.decreases-loop-q
decreases-loop-q l = l.n - l.q

abbrev pub invariant-loop-z : goal.invariant-loop-z
invariant-loop-z l = (l.w ≤ l.z) × (l.w ≤ 128 → (l.z ≤ 128) × (l.entries ≡ over (in_places l.z l.b (take l.w l.initial.entries)) l.initial.entries))

abbrev pub decreases-loop-z : goal.decreases-loop-z
decreases-loop-z l = 128 - l.z
