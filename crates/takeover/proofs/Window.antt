-- What is told of a record at the edges of the window: of record j by a spare that has applied k, numbers counted from the first's.
--     told_ahead, told_repeat  within it a later one is 16 and an earlier one 15, each with the number that is due
--     told_early .. told_late  the answers turn at 2^31
--     round_early, round_late  a whole round off a record would be applied: there the window of equal ends ends
-- Assumes nothing.
use mathlib.Core.Path.{◌≡◌, ap₂, ◌∙◌}
use mathlib.Core.Logic.{◌⊎◌, inl, inr, ⊎_elim}
use Prim.Native.Nat.{ℕ, ◌+◌, ◌-◌, ◌≤◌, ◌<◌, ◌^◌}
use native.Mathlib.Omega.{arith}
use borrow.Author.Tests.{ne_eqb, le-leb, lt-leb}
use Rattle.lists.proofs.Tests.{cond_true, cond_false}
use Rattle.image.specs.declared.Spare.{Spare}
use Rattle.std.specs.Prelude.{Result, Err}
use Rattle.feed.specs.declared.events.FeedRefusal.{FeedRefusal}
use Rattle.feed.specs.declared.events.FeedRefusal.TheVariants.{Repeat, Ahead}
use Rattle.calls.specs.declared.Outcome.{Outcome}
use Rattle.feed.specs.Feed.{distance, Numbered, still, act_on, turn_on}
use Rattle.feed.proofs.Turning.{in_turn_lem}
use Rattle.takeover.specs.Ends.{number_at}
use Rattle.takeover.proofs.Receipts.{distance_later, distance_earlier}

module _ (sp : Spare) (n : ℕ) (x : Numbered) (first j k : ℕ) (own : x.number ≡ number_at first j) (due : sp.expected ≡ number_at first k) where
  -- this is told, and the spare stays as it is
  abbrev pub Told : Result Outcome FeedRefusal → Type 0
  Told e = turn_on sp n x ≡ still sp e x.number n

  abbrev far : ℕ
  far = distance x.number sp.expected

  far_is : (d : ℕ) → (j ≡ k + d) ⊎ (j + 2 ^ 32 ≡ k + d) → d < 2 ^ 32 → far ≡ d
  far_is d o l = ap₂ distance own due ∙ ⊎_elim (λ h. distance_later first j k d h l) (λ h. distance_earlier first j k d h l) o

  at_ahead : (d : ℕ) → far ≡ d → 0 < d → d < 2 ^ 31 → Told (Err (Ahead sp.expected))
  unfolding turn_on
  at_ahead d h a b = cond_false _ _ _ (ne_eqb far 0 (λ z. omega arith)) ∙ cond_true _ _ _ (le-leb far 2147483647 (omega arith))

  at_repeat : (d : ℕ) → far ≡ d → 2 ^ 31 ≤ d → Told (Err (Repeat sp.expected))
  unfolding turn_on
  at_repeat d h a = cond_false _ _ _ (ne_eqb far 0 (λ z. omega arith)) ∙ cond_false _ _ _ (lt-leb far 2147483647 (omega arith))

  -- within the window
  pub told_ahead : k < j → j < k + 2 ^ 31 → Told (Err (Ahead sp.expected))
  told_ahead a b = at_ahead (j - k) (far_is (j - k) (inl (omega arith)) (omega arith)) (omega arith) (omega arith)

  pub told_repeat : j < k → k < j + 2 ^ 31 → Told (Err (Repeat sp.expected))
  told_repeat a b = at_repeat (j + 2 ^ 32 - k) (far_is (j + 2 ^ 32 - k) (inr (omega arith)) (omega arith)) (omega arith)

  -- at its edges: early by 2^31 and more it is told as a repeat, late by 2^31 it still is, late by more it is told as ahead
  pub told_early : k + 2 ^ 31 ≤ j → j < k + 2 ^ 32 → Told (Err (Repeat sp.expected))
  told_early a b = at_repeat (j - k) (far_is (j - k) (inl (omega arith)) (omega arith)) (omega arith)

  pub told_edge : k ≡ j + 2 ^ 31 → Told (Err (Repeat sp.expected))
  told_edge a = at_repeat (2 ^ 31) (far_is (2 ^ 31) (inr (omega arith)) (omega arith)) (omega arith)

  pub told_late : j + 2 ^ 31 < k → k < j + 2 ^ 32 → Told (Err (Ahead sp.expected))
  told_late a b = at_ahead (j + 2 ^ 32 - k) (far_is (j + 2 ^ 32 - k) (inr (omega arith)) (omega arith)) (omega arith) (omega arith)

  -- a whole round early or late
  pub round_early : j ≡ k + 2 ^ 32 → turn_on sp n x ≡ act_on sp n x
  unfolding distance
  round_early a = in_turn_lem sp n x (ap₂ distance own due ∙ omega arith)

  pub round_late : k ≡ j + 2 ^ 32 → turn_on sp n x ≡ act_on sp n x
  unfolding distance
  round_late a = in_turn_lem sp n x (ap₂ distance own due ∙ omega arith)
