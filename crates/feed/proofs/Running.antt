-- How a run over a feed goes on: a step that reads nothing keeps its place and ends it, any other moves it on. Assumes nothing.
use Rattle.std.proofs.Common.{◌≡◌, ℕ, zero, suc, ◌<◌, ◌≤◌, true, false, ◌⊎◌, List, length, sym, refl, ap, inl, inr, ⊎_elim, arith}
use Rattle.lists.proofs.Tests.{against, cond_true, cond_false}
use Rattle.std.specs.Prelude.{Result, Ok, Err}
use Rattle.records.specs.declared.frame.Unread.{Unread}
use Rattle.records.specs.declared.frame.Unread.TheVariants as U
use Rattle.records.specs.declared.frame.Frame.{Frame}
use Rattle.records.specs.Table.{in_feed}
use Rattle.records.specs.Framing.{frame_at}
use Rattle.records.proofs.Framing.{whole, under_four}
use Rattle.image.specs.declared.Spare.{Spare}
use Rattle.feed.specs.declared.events.Step.{Step}
use Rattle.feed.specs.declared.taking.Placed.{Placed}
use Rattle.feed.specs.Feed.{numbered, body_in, taken_framed, taken_at, taken_on, step_on}
use Rattle.feed.specs.Runs.{stops, run_on}
use Rattle.feed.proofs.Stepping.{taken_frame}
use Rattle.feed.proofs.Turning.{turn_next, turn_goes, step_comes}

module _ (sp : Spare) (s : List ℕ) (at : ℕ) where
  abbrev Moves : Step → Type 0
  Moves x = ((stops x.told.event ≡ true) × (x.told.next ≡ at)) ⊎ ((stops x.told.event ≡ false) × (at < x.told.next))

  moves_taken : (t : Result Placed Unread) → taken_at s at ≡ t → Moves (taken_on sp s at t)
  moves_taken (Err (U.Torn x)) e = inl (refl, refl)
  moves_taken (Err (U.BadKind x)) e = inl (refl, refl)
  moves_taken (Err (U.BadField x)) e = inl (refl, refl)
  moves_taken (Ok p) e =
      let n = p.frame.next in
      let x = numbered p (body_in s p.frame) in
      let w = whole s at in_feed p.frame (taken_frame s at (Ok p) e).0 in
      inr (turn_goes sp n x, (let z = turn_next sp n x in omega (arith, w.ends)))

  step_moves : Moves (step_on sp s at)
  step_moves = step_comes sp s at Moves (λ n. inl (refl, refl)) (λ e. moves_taken (taken_at s at) refl)

  -- a step that reads a record moves the place on
  pub step_on_lem : stops (step_on sp s at).told.event ≡ false → at < (step_on sp s at).told.next
  step_on_lem h = ⊎_elim (λ w. absurd (against h w.0)) (λ w. w.1) step_moves

  pub run_stop : (k : ℕ) → stops (step_on sp s at).told.event ≡ true → run_on (suc k) sp s at ≡ sp
  unfolding run_on
  run_stop k h = cond_true _ _ _ h

  pub run_go : (k : ℕ) → stops (step_on sp s at).told.event ≡ false → run_on (suc k) sp s at ≡ run_on k (step_on sp s at).spare s (step_on sp s at).told.next
  unfolding run_on
  run_go k h = cond_false _ _ _ h

  -- at the end of the feed there is nothing to read
  end_stops : length s ≤ at → stops (step_on sp s at).told.event ≡ true
  unfolding taken_at
  end_stops h =
      let torn : Err (U.Torn at) ≡ frame_at s at in_feed = under_four s at in_feed (omega arith) in
      step_comes sp s at (λ (x : Step). stops x.told.event ≡ true) (λ n. refl) (λ e. ap (λ (f : Result Frame Unread). stops (taken_on sp s at (taken_framed s at f)).told.event) (sym torn))

  pub run_end : (k : ℕ) → length s ≤ at → run_on k sp s at ≡ sp
  unfolding run_on
  run_end zero h = refl
  run_end (suc k) h = cond_true _ _ _ (end_stops h)
