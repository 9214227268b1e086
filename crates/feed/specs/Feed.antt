-- The feed. Document 01, "Records (added)": "Feed: after the record is read, its sequence less the expected one, modulo
-- 2^32: 0 is applied; 1..=2147483647 is Ahead; above that is Repeat. An applied operation moves the expected number on even
-- if refused by 1..11 or 13; nothing else does. After 4294967295 comes 0. The record's body is handed to the operation as a
-- part of the input." Assumes nothing.
use Rattle.std.specs.Prelude.{ℕ, ◌+◌, ◌-◌, ◌%◌, ◌^◌, Bool, true, false, cond, List, [], ◌∷◌, ◌==◌, nat_le}
use Rattle.lists.specs.Places.{in_places}
use Rattle.ids.specs.Order.{no_id}
use Rattle.state.specs.Locks.{blank_active}
use Rattle.lookups.specs.Reads.{on_sound}
use Rattle.lists.specs.Papers.{Paper, paper}
use Rattle.records.specs.declared.frame.Frame.{Frame}
use Rattle.std.specs.Prelude.{Result, Option, Ok, Err, Some, None}
use Rattle.records.specs.declared.frame.Unread.{Unread}
use Rattle.records.specs.declared.frame.Unread.TheVariants as U
use Rattle.records.specs.declared.requests.Request.{Request}
use Rattle.records.specs.Numbers.{part}
use Rattle.records.specs.Table.{in_feed}
use Rattle.records.specs.Framing.{frame_at}
use Rattle.records.specs.Feeds.{request_of, list_in, words_in}
use Rattle.image.specs.declared.Spare.{Spare}
use Rattle.calls.specs.declared.Performed.{Performed}
use Rattle.calls.specs.Calls.{perform_on, outcome_paper}
use Rattle.feed.specs.declared.events.FeedRefusal.{FeedRefusal}
use Rattle.feed.specs.declared.events.FeedRefusal.TheVariants.{UnsoundState, Torn, BadKind, BadField, Repeat, Ahead}
use Rattle.feed.specs.Refusals.{unread}
use Rattle.calls.specs.declared.Outcome.{Outcome}
use Rattle.feed.specs.declared.events.Told.{Told}
use Rattle.feed.specs.declared.events.Step.{Step}
use Rattle.feed.specs.declared.taking.Placed.{Placed}

-- ---- numbers that go round
-- "its sequence less the expected one, modulo 2^32"
unfoldable pub distance : ℕ → ℕ → ℕ
distance sequence expected = (sequence + (2 ^ 32 - expected)) % 2 ^ 32

-- "After 4294967295 comes 0."
unfoldable pub after : ℕ → ℕ
after expected = (expected + 1) % 2 ^ 32

-- ---- what can be read at a place: the record, or 17 to 19 with its start
-- "count .. or field wrong, 19"
abbrev pub taken_asked : ℕ → Frame → Option (ℕ × Request) → Result Placed Unread
taken_asked at f (Some (q, r)) = Ok (record { sequence = q; request = r; frame = f })
taken_asked at f None = Err (U.BadField at)

-- the body of a record, "as a part of the input"
abbrev pub body_in : List ℕ → Frame → List ℕ
body_in s f = part s f.start f.size

abbrev pub taken_framed : List ℕ → ℕ → Result Frame Unread → Result Placed Unread
taken_framed s at (Err u) = Err u
taken_framed s at (Ok f) = taken_asked at f (request_of f.kind (body_in s f))

unfoldable pub taken_at : List ℕ → ℕ → Result Placed Unread
taken_at s at = taken_framed s at (frame_at s at in_feed)

-- a record, places aside: its number, what is asked under it, and the ids that go with it
pub record Numbered : Type 0 where
  pub number : ℕ
  pub request : Request
  pub list : List ℕ

-- one that has the body b
abbrev pub numbered : Placed → List ℕ → Numbered
numbered p b = record { number = p.sequence; request = p.request; list = words_in (list_in p.request b) }

-- ---- what a step tells: e happened at the record with the sequence q, and n is the next place
-- nothing was removed
abbrev pub plain : Result Outcome FeedRefusal → ℕ → ℕ → Told
plain e q n =
    record {
      event = e;
      sequence = q;
      next = n;
      gone = 0;
      removed = in_places 64 blank_active [];
      lapsed = 0;
      ids = in_places 128 no_id [];
    }

-- the spare stays as it is
abbrev pub still : Spare → Result Outcome FeedRefusal → ℕ → ℕ → Step
still sp e q n = record { told = plain e q n; spare = sp }

-- the spare after an operation: the state that it left, and the next number is due, "even if refused"
abbrev pub onward : Spare → ℕ → ℕ → Performed → Step
onward sp q n p =
    record {
      told =
          record {
            event = Ok p.outcome;
            sequence = q;
            next = n;
            gone = p.gone;
            removed = p.removed;
            lapsed = p.lapsed;
            ids = p.ids;
          };
      spare = record { state = p.state; expected = after sp.expected };
    }

-- ---- the step
-- a record handed to its operation
unfoldable pub act_on : Spare → ℕ → Numbered → Step
act_on sp n x = onward sp x.number n (perform_on sp.state x.request x.list)

-- "0 is applied; 1..=2147483647 is Ahead; above that is Repeat"
unfoldable pub turn_on : Spare → ℕ → Numbered → Step
turn_on sp n x =
    cond (distance x.number sp.expected == 0) (act_on sp n x)
    (cond (nat_le (distance x.number sp.expected) 2147483647) (still sp (Err (Ahead sp.expected)) x.number n)
    (still sp (Err (Repeat sp.expected)) x.number n))

abbrev pub taken_on : Spare → List ℕ → ℕ → Result Placed Unread → Step
taken_on sp s at (Err u) = still sp (Err (unread u)) 0 at
taken_on sp s at (Ok p) = turn_on sp p.frame.next (numbered p (body_in s p.frame))

-- 12, 17 to 19, then 15, 16 or the operation
unfoldable pub step_on : Spare → List ℕ → ℕ → Step
step_on sp s at = on_sound sp.state (λ n. still sp (Err (UnsoundState n)) 0 at) (taken_on sp s at (taken_at s at))

-- ---- an event: document 01's number and the values beside it
unfoldable pub event_paper : Result Outcome FeedRefusal → Paper
event_paper (Err (UnsoundState n)) = paper 12 (n ∷ [])
event_paper (Err (Torn at)) = paper 17 (at ∷ [])
event_paper (Err (BadKind at)) = paper 18 (at ∷ [])
event_paper (Err (BadField at)) = paper 19 (at ∷ [])
event_paper (Err (Repeat expected)) = paper 15 (expected ∷ [])
event_paper (Err (Ahead expected)) = paper 16 (expected ∷ [])
event_paper (Ok o) = outcome_paper o

-- the record reached its operation
unfoldable pub is_applied : Result Outcome FeedRefusal → Bool
is_applied (Err x) = false
is_applied (Ok o) = true

-- the spare's state is unsound
unfoldable pub is_unsound : Result Outcome FeedRefusal → Bool
is_unsound (Err (UnsoundState n)) = true
is_unsound (Err (Torn at)) = false
is_unsound (Err (BadKind at)) = false
is_unsound (Err (BadField at)) = false
is_unsound (Err (Repeat e)) = false
is_unsound (Err (Ahead e)) = false
is_unsound (Ok o) = false
