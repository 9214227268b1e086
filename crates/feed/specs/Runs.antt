-- A whole feed: what a spare comes to, step after step. Assumes nothing.
use Rattle.std.specs.Prelude.{ℕ, zero, suc, ◌+◌, Bool, true, false, cond, List, length, nat_le}
use Rattle.image.specs.declared.Spare.{Spare}
use Rattle.std.specs.Prelude.{Result, Ok, Err, ⊤}
use Rattle.feed.specs.declared.events.FeedRefusal.{FeedRefusal}
use Rattle.feed.specs.declared.events.FeedRefusal.TheVariants.{UnsoundState, Torn, BadKind, BadField, Repeat, Ahead}
use Rattle.calls.specs.declared.Outcome.{Outcome}
use Rattle.feed.specs.declared.events.Step.{Step}
use Rattle.feed.specs.declared.following.Run.{Run}
use Rattle.feed.specs.Feed.{step_on, is_applied}

-- nothing was read: 12, 17 to 19
abbrev pub stops : Result Outcome FeedRefusal → Bool
stops (Err (UnsoundState n)) = true
stops (Err (Torn at)) = true
stops (Err (BadKind at)) = true
stops (Err (BadField at)) = true
stops (Err (Repeat e)) = false
stops (Err (Ahead e)) = false
stops (Ok o) = false

-- the spare after the steps from `at` on, at most k, until one reads nothing
unfoldable pub run_on : ℕ → Spare → List ℕ → ℕ → Spare
run_on zero sp s at = sp
run_on (suc k) sp s at = cond (stops (step_on sp s at).told.event) sp (run_on k (step_on sp s at).spare s (step_on sp s at).told.next)

-- ---- the same of a chunk, with the place where it ends and why, and how many records were read and how many of them applied
abbrev pub fresh : Spare → Run
fresh sp = record { spare = sp; place = 0; read = 0; applied = 0; stop = Ok tt }

-- past a record that was read
abbrev pub passed : Run → Step → Run
passed r st =
    record { spare = st.spare; place = st.told.next; read = r.read + 1; applied = r.applied + cond (is_applied st.told.event) 1 0; stop = Ok tt }

-- why a run ends where no record can be read
abbrev pub why : Result Outcome FeedRefusal → Result ⊤ FeedRefusal
why (Err x) = Err x
why (Ok o) = Ok tt

-- where none can be
abbrev pub halted : Run → Result Outcome FeedRefusal → Run
halted r e = record { spare = r.spare; place = r.place; read = r.read; applied = r.applied; stop = why e }

-- the steps from the run's place on, at most k, until the chunk ends or one reads nothing
unfoldable pub follow_on : ℕ → Run → List ℕ → Run
follow_on zero r s = r
follow_on (suc k) r s =
    cond (nat_le (length s) r.place) r
    (cond (stops (step_on r.spare s r.place).told.event) (halted r (step_on r.spare s r.place).told.event)
    (follow_on k (passed r (step_on r.spare s r.place)) s))
