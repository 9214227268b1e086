-- acknowledge_defunct, expire_defunct (original expiry <= now): 12, "nothing to remove gives false or an empty list and
-- the same revision"; then 8: "entries are gone all the same, revision unchanged".
use Rattle.std.specs.Prelude.{Bool, true, false, cond, List, [], map, ℕ, ◌+◌, leb, length}
use Rattle.lists.specs.Lists.{any, filter}
use Rattle.lists.specs.Places.{in_places}
use Rattle.ids.specs.declared.LockId.{LockId}
use Rattle.ids.specs.Order.{no_id}
use Rattle.state.specs.declared.DefunctLock.{DefunctLock}
use Rattle.state.specs.declared.LockState.{LockState}
use Rattle.state.specs.Locks.{has_id_d}
use Rattle.state.specs.Model.{Model, model_of, state_of}
use Rattle.lookups.specs.Reads.{on_sound}
use Rattle.std.specs.Prelude.{Result, Ok, Err, ⊤}
use Rattle.operations.specs.declared.answers.StateRefusal.{StateRefusal}
use Rattle.operations.specs.declared.answers.StateRefusal.TheVariants.{RevisionOverflow, UnsoundState}
use Rattle.operations.specs.Answers.{Acknowledged}
use Rattle.operations.specs.Answers.{DefunctsExpired}
use Rattle.operations.specs.Defuncts.{remove_d, remove_all}
use Rattle.operations.specs.Checks.{at_last_lem}

-- the state with other defunct entries: at the last revision with the same number, else with the next
abbrev pub with_defunct : Model → ℕ → List DefunctLock → Model
with_defunct m revision defunct = record { revision = revision; active = m.active; defunct = defunct }

unfoldable pub shed_in : Model → List DefunctLock → Model
shed_in m defunct = with_defunct m (cond (at_last_lem m.revision) m.revision (m.revision + 1)) defunct

-- ---- acknowledge_defunct
abbrev pub acknowledged : Result Bool StateRefusal → LockState → Acknowledged
acknowledged answer state = record { told = answer; state = state }

-- 8 comes after the change, which it does not undo
unfoldable pub told_acknowledge : LockState → Result Bool StateRefusal
told_acknowledge state = cond (at_last_lem state.revision) (Err RevisionOverflow) (Ok true)

unfoldable pub acknowledged_to : LockState → LockState → Acknowledged
acknowledged_to state next = acknowledged (told_acknowledge state) next

unfoldable pub acknowledge_on : LockState → LockId → Acknowledged
acknowledge_on state id =
    on_sound state (λ rule. acknowledged (Err (UnsoundState rule)) state)
    (cond (any (has_id_d id) (model_of state).defunct)
    (acknowledged_to state (state_of (shed_in (model_of state) (remove_d id (model_of state).defunct))))
    (acknowledged (Ok false) state))

-- ---- expire_defunct
unfoldable pub lapsed : ℕ → DefunctLock → Bool
lapsed now broken = leb broken.expires now

abbrev pub lapsed_of : ℕ → Model → List DefunctLock
lapsed_of now m = filter (lapsed now) m.defunct

abbrev pub ids_of_entries : List DefunctLock → List LockId
ids_of_entries entries = map (λ broken. broken.lock.id) entries

abbrev pub shed : Result ⊤ StateRefusal → List LockId → LockState → DefunctsExpired
shed answer ids state = record { told = record { answer = answer; gone = length ids; ids = in_places 128 no_id ids }; state = state }

-- 8 tells the number only, no list
unfoldable pub shed_to : LockState → List LockId → LockState → DefunctsExpired
shed_to state ids next = cond (at_last_lem state.revision) (shed (Err RevisionOverflow) [] next) (shed (Ok tt) ids next)

unfoldable pub expire_defunct_on : LockState → ℕ → DefunctsExpired
expire_defunct_on state now =
    on_sound state (λ rule. shed (Err (UnsoundState rule)) [] state)
    (cond (any (lapsed now) (model_of state).defunct)
    (shed_to state (ids_of_entries (lapsed_of now (model_of state))) (state_of (shed_in (model_of state) (remove_all (lapsed_of now (model_of state)) (model_of state).defunct))))
    (shed (Ok tt) [] state))
