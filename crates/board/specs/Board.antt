-- The board of control units. Document 02, C-11: "Keep beside the state, for all 256 ECUs, the number of active locks covering
-- it and the lowest id among them, zeros if none." Assumes nothing.
use Rattle.std.specs.Prelude.{ℕ, zero, suc, ◌*◌, Bool, cond, List, [], ◌∷◌, ◌++◌, length, take, ◌==◌}
use Rattle.std.specs.Prelude.{Option, None, Some}
use Rattle.lists.specs.Lists.{any, filter, find}
use Rattle.lists.specs.Papers.{Paper, paper}
use Rattle.names.specs.Bytes.{same_bytes}
use Rattle.ids.specs.declared.LockId.{LockId}
use Rattle.ids.specs.Order.{no_id}
use Rattle.coverage.specs.Coverage.{covers}
use Rattle.state.specs.declared.ActiveLock.{ActiveLock}
use Rattle.state.specs.declared.LockState.{LockState}
use Rattle.state.specs.Model.{model_of}
use Rattle.rules.specs.declared.Unsound.{Unsound}
use Rattle.rules.specs.declared.Unsound.TheVariants.{Rule}
use Rattle.lookups.specs.Reads.{on_sound}
use Rattle.records.specs.Numbers.{part, bytes_of_all}
use Rattle.records.specs.Wire.{id_bytes}
use Rattle.records.specs.declared.requests.Request.{Request}
use Rattle.records.specs.declared.requests.Request.TheVariants.{Insert, InsertVehicle, Renew, Delete, BeginExpiration, Replace, Acknowledge, ExpireDefunct}
use Rattle.std.specs.Prelude.{Result, Ok, Err, ⊤}
use Rattle.board.specs.declared.BoardRefusal.{BoardRefusal}
use Rattle.board.specs.declared.BoardRefusal.TheVariants.{UnsoundState, BoardMismatch}

-- ---- the board of a list of active locks
-- "covering it": the lock's coverage has ECU e, whatever its scope
unfoldable pub on : ℕ → ActiveLock → Bool
on e lock = covers lock.lock.coverage e

-- "the number of active locks covering it"
unfoldable pub count_on : List ActiveLock → ℕ → ℕ
count_on locks e = length (filter (on e) locks)

-- "the lowest id among them, zeros if none": the first that covers it, since the list ascends (proofs/Lowest.antt)
abbrev pub id_of : Option ActiveLock → LockId
id_of None = no_id
id_of (Some lock) = lock.lock.id

unfoldable pub lowest_on : List ActiveLock → ℕ → LockId
lowest_on locks e = id_of (find (on e) locks)

-- the entry of ECU e, 17 bytes: the count in one, then the id's sixteen
unfoldable pub entry_of : List ActiveLock → ℕ → List ℕ
entry_of locks e = count_on locks e ∷ id_bytes (lowest_on locks e)

-- n numbers from e on
unfoldable pub count_from : ℕ → ℕ → List ℕ
count_from e zero = []
count_from e (suc n) = e ∷ count_from (suc e) n

-- "for all 256 ECUs", one entry after the other: 4,352 bytes
unfoldable pub board_by : (ℕ → List ℕ) → List ℕ
board_by entry = bytes_of_all entry (count_from 0 256)

abbrev pub board_of : List ActiveLock → List ℕ
board_of locks = board_by (entry_of locks)

-- ---- "A board handed in that doesn't match its state is refused": another size, or another byte
unfoldable pub matches : LockState → List ℕ → Bool
matches state board = same_bytes board (board_of (model_of state).active)

-- 12, with the rule
abbrev pub unsound : Unsound → BoardRefusal
unsound (Rule n) = UnsoundState n

-- "28 BoardMismatch, after 12"
unfoldable pub check_on : LockState → List ℕ → Result ⊤ BoardRefusal
check_on state board = on_sound state (λ rule. Err (UnsoundState rule)) (cond (matches state board) (Ok tt) (Err BoardMismatch))

unfoldable pub checked_paper : Result ⊤ BoardRefusal → Paper
checked_paper (Err (UnsoundState rule)) = paper 12 (rule ∷ [])
checked_paper (Err BoardMismatch) = paper 28 []
checked_paper (Ok tt) = paper 0 []

-- ---- "only ECUs covered by a lock that came or went are written"
-- came: the lock that an insertion or a replacement brings, where it was done: the answer's number is 0
abbrev pub brings : Request → List ActiveLock
brings (Insert lock) = lock ∷ []
brings (InsertVehicle lock) = lock ∷ []
brings (Renew r) = []
brings (Delete id) = []
brings (BeginExpiration e) = []
brings (Replace r) = r.lock ∷ []
brings (Acknowledge id) = []
brings (ExpireDefunct now) = []

abbrev pub arrived : Request → ℕ → List ActiveLock
arrived request number = cond (number == 0) (brings request) []

-- went: the first `gone` of the removed locks
unfoldable pub moved : Request → ℕ → ℕ → List ActiveLock → List ActiveLock
moved request number gone removed = arrived request number ++ take gone removed

-- the bytes of entry e in a buffer
abbrev pub entry_at : List ℕ → ℕ → List ℕ
entry_at board e = part board (e * 17) 17

-- any buffer at all with the entries of the ECUs that pass worked out afresh, the others as they are
unfoldable pub refreshed : (ℕ → Bool) → List ActiveLock → List ℕ → List ℕ
refreshed passes locks board = board_by (λ e. cond (passes e) (entry_of locks e) (entry_at board e))

-- over the locks that came or went, to the board of the locks that are active now
unfoldable pub updated : List ActiveLock → List ActiveLock → List ℕ → List ℕ
updated changed locks board = refreshed (λ e. any (on e) changed) locks board
