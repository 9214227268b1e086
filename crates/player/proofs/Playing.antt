-- The loop over a feed: what is left of the run from the place that was reached, to the spare that was reached.
-- Assumes nothing.
use mathlib.Core.Path.{◌≡◌, sym, ap, ◌∙◌}
use mathlib.Core.Bool.{Bool, true, false}
use mathlib.Core.List.{List}
use Prim.Native.Nat.{ℕ, zero, suc, ◌-◌, ◌≤◌, ◌<◌}
use native.Mathlib.Omega.{arith}
use lib.ListN.{length}
use Rattle.image.specs.declared.Spare.{Spare}
use Rattle.feed.specs.declared.events.Step.{Step}
use Rattle.feed.specs.Feed.{step_on}
use Rattle.feed.specs.Runs.{stops, run_on}
use Rattle.feed.proofs.Running.{step_on_lem, run_stop, run_go, run_end}

-- k steps are enough for the bytes that are left
abbrev pub Left : Spare → List ℕ → Spare → ℕ → Type 0
Left start s sp at = (k : ℕ) × ((length s - at ≤ k) × (run_on k sp s at ≡ run_on (length s) start s 0))

module _ (start : Spare) (s : List ℕ) where
  pub play_starts : Left start s start 0
  play_starts = (length s, (omega arith, λ i. run_on (length s) start s 0))

  pub play_ends : (sp : Spare) (at : ℕ) → length s ≤ at → Left start s sp at → sp ≡ run_on (length s) start s 0
  play_ends sp at h l = sym (run_end sp s at l.0 h) ∙ l.1.1

  -- b: whether the step at this place reads nothing
  module _ (sp : Spare) (at : ℕ) (h : at < length s) (x : Step) (e : x ≡ step_on sp s at) (b : Bool) (eb : b ≡ stops x.told.event) where
    test : stops (step_on sp s at).told.event ≡ b
    test = ap (λ (y : Step). stops y.told.event) (sym e) ∙ sym eb

    stops_by : (k : ℕ) → length s - at ≤ k → b ≡ true → run_on k sp s at ≡ sp
    stops_by zero m g = absurd (omega arith)
    stops_by (suc k) m g = run_stop sp s at k (test ∙ g)

    pub play_stops : b ≡ true → Left start s sp at → sp ≡ run_on (length s) start s 0
    play_stops g l = sym (stops_by l.0 l.1.0 g) ∙ l.1.1

    pub play_moves : b ≡ false → at < x.told.next
    play_moves g = rw e (step_on_lem sp s at (test ∙ g))

    turns_by : b ≡ false → (k : ℕ) → length s - at ≤ k → run_on k sp s at ≡ run_on (length s) start s 0 → Left start s x.spare x.told.next
    turns_by g zero m r = absurd (omega arith)
    turns_by g (suc k) m r = let z = play_moves g in (k, (omega arith, rw e (sym (run_go sp s at k (test ∙ g)) ∙ r)))

    pub play_turns : b ≡ false → Left start s sp at → Left start s x.spare x.told.next
    play_turns g l = turns_by g l.0 l.1.0 l.1.1
