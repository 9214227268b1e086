-- The calls with a board: `perform`, `delete_defunct`, a step over the feed. Document 02, C-11: "After every operation the board
-- equals one worked out afresh from the state [..]. A board handed in that doesn't match its state is refused and left. Demands 2
-- and 3 stand. Refusals: 28 BoardMismatch, after 12." Each is the plain call, its answer, removed locks and state included, or 28.
-- Assumes nothing.
use Rattle.std.specs.Prelude.{ℕ, cond, List, [], ◌++◌, length, drop, ◌==◌, nat_lt}
use Rattle.lists.specs.Papers.{Paper, paper}
use Rattle.lists.specs.Places.{in_places}
use Rattle.ids.specs.declared.LockId.{LockId}
use Rattle.ids.specs.Order.{no_id}
use Rattle.state.specs.declared.ScopeKey.{ScopeKey}
use Rattle.state.specs.declared.ActiveLock.{ActiveLock}
use Rattle.state.specs.declared.LockState.{LockState}
use Rattle.state.specs.Locks.{blank_active}
use Rattle.state.specs.Model.{model_of}
use Rattle.lookups.specs.Reads.{on_sound}
use Rattle.locks.specs.Locks.{Dropped, delete_defunct_on, dropping_paper}
use Rattle.records.specs.declared.requests.Request.{Request}
use Rattle.calls.specs.declared.Performed.{Performed}
use Rattle.calls.specs.Calls.{perform_on, outcome_paper}
use Rattle.image.specs.declared.Spare.{Spare}
use Rattle.std.specs.Prelude.{Result, Ok, Err, ⊤, Bool}
use Rattle.image.specs.declared.WriteRefusal.{WriteRefusal}
use Rattle.image.specs.declared.WriteRefusal.TheVariants as W
use Rattle.feed.specs.declared.events.Step.{Step}
use Rattle.records.specs.declared.frame.Unread.{Unread}
use Rattle.feed.specs.declared.taking.Placed.{Placed}
use Rattle.feed.specs.Feed.{taken_at, step_on, event_paper}
use Rattle.board.specs.declared.BoardRefusal.{BoardRefusal}
use Rattle.board.specs.declared.BoardRefusal.TheVariants.{UnsoundState, BoardMismatch}
use Rattle.board.specs.declared.Mismatch.{Mismatch}
use Rattle.board.specs.declared.Mismatch.TheVariants as M
use Rattle.calls.specs.declared.Outcome.{Outcome}
use Rattle.operations.specs.declared.answers.Left.{Left}
use Rattle.board.specs.declared.BoardDeed.{BoardDeed}
use Rattle.locks.specs.declared.DroppingRefusal.{DroppingRefusal}
use Rattle.feed.specs.declared.events.FeedRefusal.{FeedRefusal}
use Rattle.board.specs.declared.BoardStep.{BoardStep}
use Rattle.board.specs.Board.{board_of, check_on, moved, updated}

-- ---- what a call gives, by the names of src/lib.rt, and the buffer as it leaves it
abbrev pub BoardPerformed : Type 0
BoardPerformed = Left BoardDeed

abbrev pub BoardDropped : Type 0
BoardDropped = Left (Result (Result Bool DroppingRefusal) Mismatch)

pub record Boarded (A : Type 0) : Type 0 where
  pub done : A
  pub board : List ℕ

abbrev pub boarded : {A : Type 0} → A → List ℕ → Boarded A
boarded done board = record { done = done; board = board }

-- of an unsound state (12) the plain call's own answer; of another board 28; of the state's own the call. The first two leave the
-- board
abbrev pub by_check : {A : Type 0} → Result ⊤ BoardRefusal → A → A → A → A
by_check (Err (UnsoundState rule)) plain refused done = plain
by_check (Err BoardMismatch) plain refused done = refused
by_check (Ok tt) plain refused done = done

abbrev pub on_board : {A : Type 0} → LockState → List ℕ → A → A → List ℕ → Boarded A
on_board state board plain refused after = by_check (check_on state board) (boarded plain board) (boarded refused board) (boarded plain after)

-- ---- perform
abbrev pub told : Performed → BoardPerformed
told p =
    record {
      told = record { outcome = Ok p.outcome; gone = p.gone; removed = p.removed; lapsed = p.lapsed; ids = p.ids };
      state = p.state;
    }

abbrev pub mismatched : LockState → BoardPerformed
mismatched state =
    record {
      told = record { outcome = Err M.BoardMismatch; gone = 0; removed = in_places 64 blank_active []; lapsed = 0; ids = in_places 128 no_id [] };
      state = state;
    }

-- the locks that came or went, and the board after the call
abbrev pub call_moved : Request → Performed → List ActiveLock
call_moved request p = moved request (outcome_paper p.outcome).number p.gone p.removed

abbrev pub call_board : Request → Performed → List ℕ → List ℕ
call_board request p board = updated (call_moved request p) (model_of p.state).active board

unfoldable pub perform_board : LockState → Request → List ℕ → List ℕ → Boarded BoardPerformed
perform_board state request ids board =
    on_board state board (told (perform_on state request ids)) (mismatched state) (call_board request (perform_on state request ids) board)

-- ---- delete_defunct: no active lock comes or goes, so the board is only read
abbrev pub told_dropped : Dropped → BoardDropped
told_dropped d = record { told = Ok d.told; state = d.state }

abbrev pub mismatched_dropped : LockState → BoardDropped
mismatched_dropped state = record { told = Err M.BoardMismatch; state = state }

unfoldable pub delete_defunct_board : LockState → LockId → ScopeKey → ℕ → List ℕ → BoardDropped
delete_defunct_board state id scope subject board =
    by_check (check_on state board) (told_dropped (delete_defunct_on state id scope subject))
    (mismatched_dropped state)
    (told_dropped (delete_defunct_on state id scope subject))

-- ---- a step over the feed
abbrev pub told_step : Step → BoardStep
told_step st =
    record {
      told =
          record {
            event = Ok st.told.event;
            sequence = st.told.sequence;
            next = st.told.next;
            gone = st.told.gone;
            removed = st.told.removed;
            lapsed = st.told.lapsed;
            ids = st.told.ids;
          };
      spare = st.spare;
    }

-- 28 moves nothing on: the spare and the place stay, as with 12
abbrev pub mismatched_step : Spare → ℕ → BoardStep
mismatched_step spare at =
    record {
      told =
          record {
            event = Err M.BoardMismatch;
            sequence = 0;
            next = at;
            gone = 0;
            removed = in_places 64 blank_active [];
            lapsed = 0;
            ids = in_places 128 no_id [];
          };
      spare = spare;
    }

-- the locks that came or went with the record at a place, and the board after it
abbrev pub request_moved : Request → Step → List ActiveLock
request_moved request st = moved request (event_paper st.told.event).number st.told.gone st.told.removed

abbrev pub taken_moved : Result Placed Unread → Step → List ActiveLock
taken_moved (Err unread) st = []
taken_moved (Ok placed) st = request_moved placed.request st

abbrev pub step_moved : List ℕ → ℕ → Step → List ActiveLock
step_moved feed at st = taken_moved (taken_at feed at) st

abbrev pub step_updated : List ℕ → ℕ → Step → List ℕ → List ℕ
step_updated feed at st board = updated (step_moved feed at st) (model_of st.spare.state).active board

unfoldable pub step_board : Spare → List ℕ → ℕ → List ℕ → Boarded BoardStep
step_board spare feed at board =
    on_board spare.state board (told_step (step_on spare feed at)) (mismatched_step spare at) (step_updated feed at (step_on spare feed at) board)

-- the same of a buffer of any size: where it isn't a board's, it stays
unfoldable pub step_followed : List ℕ → ℕ → Step → List ℕ → List ℕ
step_followed feed at st board = cond (length board == 4352) (step_updated feed at st board) board

-- ---- a board worked out afresh: 12, then 21, then the bytes from the buffer's start on
unfoldable pub fresh_on : LockState → List ℕ → Boarded (Result ℕ WriteRefusal)
fresh_on state out =
    on_sound state (λ rule. boarded (Err (W.UnsoundState rule)) out)
    (cond (nat_lt (length out) 4352) (boarded (Err (W.ShortOutput 4352)) out) (boarded (Ok 4352) (board_of (model_of state).active ++ drop 4352 out)))

-- ---- on paper: 28 without data, or what the plain call's answer says
unfoldable pub board_outcome_paper : Result Outcome Mismatch → Paper
board_outcome_paper (Err M.BoardMismatch) = paper 28 []
board_outcome_paper (Ok outcome) = outcome_paper outcome

unfoldable pub board_dropping_paper : Result (Result Bool DroppingRefusal) Mismatch → Paper
board_dropping_paper (Err M.BoardMismatch) = paper 28 []
board_dropping_paper (Ok dropping) = dropping_paper dropping

unfoldable pub board_event_paper : Result (Result Outcome FeedRefusal) Mismatch → Paper
board_event_paper (Err M.BoardMismatch) = paper 28 []
board_event_paper (Ok event) = event_paper event
