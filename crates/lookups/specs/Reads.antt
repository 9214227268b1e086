-- The reads of source document 000. Each "first tests the state (12)"; "Reads that find 'a' lock answer the lowest id",
-- which is the first one that fits, since the lists ascend.
use Rattle.std.specs.Prelude.{Bool, false, cond, List, [], ◌∷◌, map, ◌≡◌, ℕ, zero, suc, eqb, ltb, length, slice_get}
use Rattle.std.specs.Prelude.{Option, None, Some}
use Rattle.lists.specs.Tests.{◌and◌, ◌or◌, non}
use Rattle.lists.specs.Lists.{find, any, filter}
use Rattle.lists.specs.Places.{in_places}
use Rattle.ids.specs.declared.LockId.{LockId}
use Rattle.ids.specs.Order.{key, no_id}
use Rattle.coverage.specs.declared.LockCoverage.{LockCoverage}
use Rattle.coverage.specs.Coverage.{covers, overlap, within}
use Rattle.state.specs.declared.ScopeKey.{ScopeKey}
use Rattle.state.specs.declared.ScopeKey.TheVariants.{Vehicle, Ecu, FunctionalGroup}
use Rattle.state.specs.declared.ActiveLock.{ActiveLock}
use Rattle.state.specs.declared.DefunctLock.{DefunctLock}
use Rattle.state.specs.declared.LockState.{LockState}
use Rattle.state.specs.Locks.{is_vehicle, is_group, ecu_in, same_scope, has_id, has_id_d}
use Rattle.state.specs.Model.{Model, model_of}
use Rattle.std.specs.Prelude.{Result, Ok, Err, ⊤}
use Rattle.rules.specs.declared.Unsound.{Unsound}
use Rattle.rules.specs.declared.Unsound.TheVariants.{Rule}
use Rattle.rules.specs.Rules.{broken_rule, find_a, find_d}
use Rattle.lookups.specs.declared.Narrow.{Narrow}
use Rattle.lookups.specs.declared.TesterPresent.{TesterPresent}
use Rattle.lookups.specs.declared.TesterPresent.TheVariants as present
use Rattle.lookups.specs.declared.Holder.{Holder}

-- ---- "Every function that takes a state first tests it (12)": the answer a of a sound state, else u of the broken rule
abbrev pub by_verdict : {A : Type 0} → Result ⊤ Unsound → (ℕ → A) → A → A
by_verdict (Ok tt) u a = a
by_verdict (Err (Rule n)) u a = u n

unfoldable pub on_sound : {A : Type 0} → LockState → (ℕ → A) → A → A
on_sound state u a = by_verdict (broken_rule state) u a

-- a read's answer: 12 with the rule, or what a sound state has
abbrev pub read : {A : Type 0} → LockState → A → Result A Unsound
read state a = on_sound state (λ rule. Err (Rule rule)) (Ok a)

-- ---- revision
unfoldable pub revision_on : LockState → Result ℕ Unsound
revision_on state = read state state.revision

-- ---- active_for_scope, active_by_id, defunct_by_id
unfoldable pub on_scope : ScopeKey → ActiveLock → Bool
on_scope scope lock = same_scope lock.lock.scope scope

unfoldable pub active_for_scope_on : LockState → ScopeKey → Result (Option ActiveLock) Unsound
active_for_scope_on state scope = read state (find (on_scope scope) (model_of state).active)

unfoldable pub active_by_id_on : LockState → LockId → Result (Option ActiveLock) Unsound
active_by_id_on state id = read state (find (has_id id) (model_of state).active)

unfoldable pub defunct_by_id_on : LockState → LockId → Result (Option DefunctLock) Unsound
defunct_by_id_on state id = read state (find (has_id_d id) (model_of state).defunct)

-- ---- active, defunct: the i-th lock of each list, "in deterministic ID order"
unfoldable pub active_at_on : LockState → ℕ → Result (Option ActiveLock) Unsound
active_at_on state place = read state (slice_get (model_of state).active place)

unfoldable pub defunct_at_on : LockState → ℕ → Result (Option DefunctLock) Unsound
defunct_at_on state place = read state (slice_get (model_of state).defunct place)

-- ---- covered_narrow_locks: "for a group, the same subject's ECU locks whose scope ECU it covers, ascending"
unfoldable pub narrow : ActiveLock → ActiveLock → Bool
narrow group lock = is_group group.lock.scope and eqb lock.lock.subject group.lock.subject and ecu_in group.lock.coverage lock.lock.scope

abbrev pub narrow_ids : ActiveLock → Model → List LockId
narrow_ids group m = map (λ a. a.lock.id) (filter (narrow group) m.active)

abbrev pub ids_told : List LockId → Narrow
ids_told l = record { count = length l; ids = in_places 64 no_id l }

unfoldable pub covered_narrow_on : LockState → ActiveLock → Result Narrow Unsound
covered_narrow_on state group = read state (ids_told (narrow_ids group (model_of state)))

-- ---- covering_functional_group: the subject's group lock that covers the ECU
unfoldable pub group_over : ℕ → ℕ → ActiveLock → Bool
group_over subject ecu lock = is_group lock.lock.scope and eqb lock.lock.subject subject and covers lock.lock.coverage ecu

unfoldable pub covering_group_on : LockState → ℕ → ℕ → Result (Option ActiveLock) Unsound
covering_group_on state subject ecu = read state (find (group_over subject ecu) (model_of state).active)

-- ---- tester_present_for: an ECU's own unless a group of the subject covers it, a group's own, none for the vehicle
unfoldable pub present_for : List ActiveLock → ℕ → ScopeKey → Option TesterPresent
present_for locks subject Vehicle = None
present_for locks subject (Ecu e) = cond (any (group_over subject e) locks) None (Some (present.Ecu e))
present_for locks subject (FunctionalGroup g) = Some (present.Functional g)

unfoldable pub tester_present_for_on : LockState → ℕ → ScopeKey → Result (Option TesterPresent) Unsound
tester_present_for_on state subject scope = read state (present_for (model_of state).active subject scope)

-- ---- tester_present_needed: some active lock needs just this
unfoldable pub same_present : TesterPresent → Option TesterPresent → Bool
same_present t None = false
same_present (present.Ecu e) (Some (present.Ecu f)) = eqb e f
same_present (present.Ecu e) (Some (present.Functional g)) = false
same_present (present.Functional g) (Some (present.Ecu e)) = false
same_present (present.Functional g) (Some (present.Functional h)) = eqb g h

abbrev pub needs : List ActiveLock → TesterPresent → ActiveLock → Bool
needs locks t lock = same_present t (present_for locks lock.lock.subject lock.lock.scope)

unfoldable pub tester_present_needed_on : LockState → TesterPresent → Result Bool Unsound
tester_present_needed_on state t = read state (any (needs (model_of state).active t) (model_of state).active)

-- ---- uncovered_defunct
-- a lock on the scope with the coverage protects all that the entry protected: "the new scope is vehicle or equal, or the
-- new coverage contains theirs"
unfoldable pub covers_defunct : ScopeKey → LockCoverage → DefunctLock → Bool
covers_defunct scope coverage broken = is_vehicle scope or same_scope scope broken.lock.scope or within broken.lock.coverage coverage

-- an unexpired entry of the subject that the new lock would overlap without covering it
unfoldable pub uncovered : ℕ → ScopeKey → LockCoverage → ℕ → DefunctLock → Bool
uncovered subject scope coverage now broken =
    eqb broken.lock.subject subject
    and ltb now broken.expires
    and (is_vehicle broken.lock.scope or same_scope broken.lock.scope scope or overlap broken.lock.coverage coverage)
    and non (covers_defunct scope coverage broken)

unfoldable pub uncovered_defunct_on : LockState → ℕ → ScopeKey → LockCoverage → ℕ → Result (Option DefunctLock) Unsound
uncovered_defunct_on state subject scope coverage now = read state (find (uncovered subject scope coverage now) (model_of state).defunct)

-- ---- current_holder: "also reports (added) how many defunct entries it passed after the given record, at most 128"
-- From the id k, named with the holder h, the entries ds are passed one after the other, and then the subject s holds: an
-- active lock at the id holds itself; an id that is neither active nor defunct leaves the holder named last.
pub data Follows (m : Model) : ℕ → ℕ → List DefunctLock → ℕ → Type 0 where
  holds : {k h s : ℕ} {a : ActiveLock} → find_a m.active k ≡ Some a → s ≡ a.lock.subject → Follows m k h [] s
  leads : {k h s : ℕ} → find_a m.active k ≡ None → find_d m.defunct k ≡ None → s ≡ h → Follows m k h [] s
  passes : {k h s : ℕ} {d : DefunctLock} {ds : List DefunctLock} → find_a m.active k ≡ None → find_d m.defunct k ≡ Some d → Follows m (key d.target) d.holder ds s → Follows m k h (d ∷ ds) s

-- The same as a function, which in a sound state finds the one way there is (proofs/Follow.antt, `holder_follows` and
-- `one_way`)
abbrev pub held : ℕ → ℕ → Holder
held h c = record { subject = h; links = c }

-- at the id k, named with the holder h, after c entries; n bounds the entries still to pass. An active lock at the id
-- holds; a defunct entry is passed; an id that is neither leaves the holder named last
unfoldable pub walk : ℕ → Model → ℕ → ℕ → ℕ → Holder
walk zero m k h c = held h c
walk (suc n) m k h c =
    elim (find_a m.active k) [
      | Some a ↦ held a.lock.subject c
      | None ↦ elim (find_d m.defunct k) [ None ↦ held h c | Some d ↦ walk n m (key d.target) d.holder (suc c) ]
    ]

-- as many turns as there are entries, and one more to look at where they end
unfoldable pub holder_of : Model → DefunctLock → Holder
holder_of m broken = walk (suc (length m.defunct)) m (key broken.target) broken.holder 0

unfoldable pub current_holder_on : LockState → DefunctLock → Result Holder Unsound
current_holder_on state broken = read state (holder_of (model_of state) broken)
