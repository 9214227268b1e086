-- The eight operations as one call: a request, and the ids that go with it, handed to its operation. Assumes nothing.
use Rattle.std.specs.Prelude.{ℕ, List, []}
use Rattle.lists.specs.Places.{in_places}
use Rattle.ids.specs.Order.{no_id}
use Rattle.state.specs.declared.ActiveLock.{ActiveLock}
use Rattle.state.specs.declared.LockState.{LockState}
use Rattle.state.specs.Locks.{blank_active}
use Rattle.lists.specs.Papers.{Paper}
use Rattle.std.specs.Prelude.{Result, ⊤}
use Rattle.operations.specs.declared.answers.Refusal.{Refusal}
use Rattle.operations.specs.Answers.{Inserted, Renewed, Deleted, Expired, Replaced, Acknowledged, DefunctsExpired}
use Rattle.operations.specs.Answers.{paper_of, renewal_paper, deletion_paper, expiration_paper, acknowledgement_paper, expiry_paper}
use Rattle.operations.specs.Insert.{insert_active_on}
use Rattle.operations.specs.Vehicle.{insert_vehicle_on}
use Rattle.operations.specs.Renew.{renew_on}
use Rattle.operations.specs.Delete.{delete_on, begin_expiration_on}
use Rattle.operations.specs.Replace.{commit_replacement_on}
use Rattle.operations.specs.Acknowledge.{acknowledge_on, expire_defunct_on}
use Rattle.records.specs.declared.requests.Request.{Request}
use Rattle.records.specs.declared.requests.Request.TheVariants.{Insert, InsertVehicle, Renew, Delete, BeginExpiration, Replace, Acknowledge, ExpireDefunct}
use Rattle.calls.specs.declared.Outcome.{Outcome}
use Rattle.calls.specs.declared.Outcome.TheVariants as O
use Rattle.calls.specs.declared.Performed.{Performed}

-- ---- what an operation gives, in one shape
-- so many locks were removed
abbrev pub removing : Outcome → ℕ → List ActiveLock → LockState → Performed
removing o gone removed s =
    record { outcome = o; gone = gone; removed = removed; lapsed = 0; ids = in_places 128 no_id []; state = s }

-- none were
abbrev pub plain : Outcome → LockState → Performed
plain o s = removing o 0 (in_places 64 blank_active []) s

abbrev pub by_insert : (Result ⊤ Refusal → Outcome) → Inserted → Performed
by_insert o r = plain (o r.told) r.state

abbrev pub by_renew : Renewed → Performed
by_renew r = plain (O.Renewed r.told) r.state

abbrev pub by_delete : Deleted → Performed
by_delete r = removing (O.Deleted r.told.answer) r.told.gone r.told.removed r.state

abbrev pub by_expiration : Expired → Performed
by_expiration r = removing (O.ExpirationBegun r.told.answer) r.told.gone r.told.removed r.state

abbrev pub by_replace : Replaced → Performed
by_replace r = removing (O.Replaced r.told.answer) r.told.gone r.told.removed r.state

abbrev pub by_acknowledge : Acknowledged → Performed
by_acknowledge r = plain (O.Acknowledged r.told) r.state

abbrev pub by_expiry : DefunctsExpired → Performed
by_expiry r =
    record {
      outcome = O.DefunctsExpired r.told.answer;
      gone = 0;
      removed = in_places 64 blank_active [];
      lapsed = r.told.gone;
      ids = r.told.ids;
      state = r.state;
    }

-- ---- the call. Only the two requests that have a list of ids read it
unfoldable pub perform_on : LockState → Request → List ℕ → Performed
perform_on s (Insert x) ws = by_insert O.Inserted (insert_active_on s x)
perform_on s (InsertVehicle x) ws = by_insert O.VehicleInserted (insert_vehicle_on s x ws)
perform_on s (Renew r) ws = by_renew (renew_on s r.id r.expires r.now r.given r.metadata)
perform_on s (Delete i) ws = by_delete (delete_on s i)
perform_on s (BeginExpiration e) ws = by_expiration (begin_expiration_on s e.id e.now)
perform_on s (Replace r) ws = by_replace (commit_replacement_on s ws r.lock r.breaker r.broken)
perform_on s (Acknowledge i) ws = by_acknowledge (acknowledge_on s i)
perform_on s (ExpireDefunct now) ws = by_expiry (expire_defunct_on s now)

-- ---- document 01's number, and the values beside it
unfoldable pub outcome_paper : Outcome → Paper
outcome_paper (O.Inserted a) = paper_of a
outcome_paper (O.VehicleInserted a) = paper_of a
outcome_paper (O.Renewed a) = renewal_paper a
outcome_paper (O.Deleted a) = deletion_paper a
outcome_paper (O.ExpirationBegun a) = expiration_paper a
outcome_paper (O.Replaced a) = paper_of a
outcome_paper (O.Acknowledged a) = acknowledgement_paper a
outcome_paper (O.DefunctsExpired a) = expiry_paper a
