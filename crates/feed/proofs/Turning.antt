-- The theorems on one record.
--     in_turn_lem, out_of_turn      a record whose number is due gives its operation's definition on the same arguments; any
--                               other changes nothing but the place
--     act_due                   after an applied operation the next number is due, refused or not
--     step_applies, step_passes the first two of a record in the bytes of a feed
-- Assumes nothing.
use Rattle.std.proofs.Common.{◌≡◌, ℕ, ◌^◌, ◌<◌, false, eqb, leb, List, sym, refl, ap, ◌∙◌, subst, arith, eq-eqb, eqb-true}
use Rattle.lists.proofs.Tests.{cond_true, cond_both}
use Rattle.std.specs.Prelude.{Result, Ok, Err, ⊤}
use Rattle.rules.specs.declared.Unsound.{Unsound}
use Rattle.rules.specs.declared.Unsound.TheVariants.{Rule}
use Rattle.rules.specs.Rules.{broken_rule}
use Rattle.image.specs.declared.Spare.{Spare}
use Rattle.feed.specs.declared.events.FeedRefusal.{FeedRefusal}
use Rattle.feed.specs.declared.events.FeedRefusal.TheVariants.{UnsoundState, Torn, BadKind, BadField, Repeat, Ahead}
use Rattle.calls.specs.declared.Outcome.{Outcome}
use Rattle.feed.specs.declared.events.Step.{Step}
use Rattle.feed.specs.declared.taking.Placed.{Placed}
use Rattle.records.specs.declared.frame.Unread.{Unread}
use Rattle.records.specs.declared.frame.Unread.TheVariants as U
use Rattle.feed.specs.Feed.{distance, after, Numbered, numbered, body_in, taken_at, still, act_on, turn_on, taken_on, step_on, is_unsound}
use Rattle.feed.specs.Runs.{stops}
use Rattle.feed.proofs.Stepping.{tested_broken, tested_sound, step_taken}

-- ---- numbers that go round: only the expected one is at distance 0
pub distance_zero : (q e : ℕ) → q < 2 ^ 32 → e < 2 ^ 32 → distance q e ≡ 0 → q ≡ e
unfolding distance
distance_zero q e hq he h = omega arith

pub distance_own : (e : ℕ) → e < 2 ^ 32 → distance e e ≡ 0
unfolding distance
distance_own e h = omega arith

module _ (sp : Spare) (n : ℕ) (x : Numbered) where
  pub act_due : (act_on sp n x).spare.expected ≡ after sp.expected
  unfolding act_on
  act_due = refl

  pub in_turn_lem : distance x.number sp.expected ≡ 0 → turn_on sp n x ≡ act_on sp n x
  unfolding turn_on
  in_turn_lem h = cond_true _ _ _ (eq-eqb _ _ h)

  -- what holds of the operation's answer, and of 15 and 16, holds of the record's
  pub turn_comes : (P : Step → Type 0) → (distance x.number sp.expected ≡ 0 → P (act_on sp n x)) → ((e : Result Outcome FeedRefusal) → stops e ≡ false → P (still sp e x.number n)) → P (turn_on sp n x)
  unfolding turn_on
  turn_comes P f g =
      cond_both P _ _ (eqb (distance x.number sp.expected) 0) (λ t. f (eqb-true _ _ t)) (λ t.
      cond_both P _ _ (leb (distance x.number sp.expected) 2147483647) (λ u. g (Err (Ahead sp.expected)) refl) (λ u. g (Err (Repeat sp.expected)) refl))

  pub out_of_turn : (distance x.number sp.expected ≡ 0 → ⊥) → (turn_on sp n x).spare ≡ sp
  out_of_turn h = turn_comes (λ (y : Step). y.spare ≡ sp) (λ z. absurd (h z)) (λ e g. refl)

  pub turn_next : (turn_on sp n x).told.next ≡ n
  unfolding act_on
  turn_next = turn_comes (λ (y : Step). y.told.next ≡ n) (λ z. refl) (λ e g. refl)

  pub turn_goes : stops (turn_on sp n x).told.event ≡ false
  unfolding act_on
  turn_goes = turn_comes (λ (y : Step). stops y.told.event ≡ false) (λ z. refl) (λ e g. g)

-- an event that doesn't end a run isn't 12
goes_sound : (e : Result Outcome FeedRefusal) → stops e ≡ false → is_unsound e ≡ false
unfolding is_unsound
goes_sound (Err (UnsoundState n)) g = g
goes_sound (Err (Torn x)) g = refl
goes_sound (Err (BadKind x)) g = refl
goes_sound (Err (BadField x)) g = refl
goes_sound (Err (Repeat x)) g = refl
goes_sound (Err (Ahead x)) g = refl
goes_sound (Ok o) g = refl

-- ---- a step over any bytes
module _ (sp : Spare) (s : List ℕ) (at : ℕ) where
  taken_sound : (t : Result Placed Unread) → is_unsound (taken_on sp s at t).told.event ≡ false
  unfolding is_unsound
  taken_sound (Err (U.Torn x)) = refl
  taken_sound (Err (U.BadKind x)) = refl
  taken_sound (Err (U.BadField x)) = refl
  taken_sound (Ok p) = goes_sound (turn_on sp p.frame.next (numbered p (body_in s p.frame))).told.event (turn_goes sp p.frame.next (numbered p (body_in s p.frame)))

  pub step_sound : broken_rule sp.state ≡ Ok tt → step_on sp s at ≡ taken_on sp s at (taken_at s at)
  step_sound e = sym (tested_sound sp at (taken_on sp s at (taken_at s at)) (Ok tt) (sym e) refl ∙ step_taken sp s at (taken_at s at) refl)

  -- 12 is told of an unsound state alone
  pub sound_told : broken_rule sp.state ≡ Ok tt → is_unsound (step_on sp s at).told.event ≡ false
  sound_told e = ap (λ (x : Step). is_unsound x.told.event) (step_sound e) ∙ taken_sound (taken_at s at)

  pub step_unsound : (n : ℕ) → broken_rule sp.state ≡ Err (Rule n) → step_on sp s at ≡ still sp (Err (UnsoundState n)) 0 at
  step_unsound n e = sym (tested_broken sp at (taken_on sp s at (taken_at s at)) (Err (Rule n)) (sym e) (Rule n) refl ∙ step_taken sp s at (taken_at s at) refl)

  -- what holds of 12, and on a sound spare of what can be read, holds of the step
  pub step_comes : (P : Step → Type 0) → ((n : ℕ) → P (still sp (Err (UnsoundState n)) 0 at)) → (broken_rule sp.state ≡ Ok tt → P (taken_on sp s at (taken_at s at))) → P (step_on sp s at)
  step_comes P f g = go (broken_rule sp.state) refl
    where
      go : (v : Result ⊤ Unsound) → broken_rule sp.state ≡ v → P (step_on sp s at)
      go (Ok u) e = subst P (sym (step_sound e)) (g e)
      go (Err (Rule n)) e = subst P (sym (step_unsound n e)) (f n)

-- ---- a record that can be read at a place of the feed
module _ (sp : Spare) (s : List ℕ) (at : ℕ) (e : broken_rule sp.state ≡ Ok tt) (p : Placed) (g : taken_at s at ≡ Ok p) where
  pub step_takes : step_on sp s at ≡ turn_on sp p.frame.next (numbered p (body_in s p.frame))
  step_takes = step_sound sp s at e ∙ ap (taken_on sp s at) g

  -- in turn: the operation's definition on the record's own arguments
  pub step_applies : distance p.sequence sp.expected ≡ 0 → step_on sp s at ≡ act_on sp p.frame.next (numbered p (body_in s p.frame))
  step_applies z = step_takes ∙ in_turn_lem sp p.frame.next (numbered p (body_in s p.frame)) z

  -- out of turn: nothing but the place
  pub step_passes : (distance p.sequence sp.expected ≡ 0 → ⊥) → ((step_on sp s at).spare ≡ sp) × ((step_on sp s at).told.next ≡ p.frame.next)
  step_passes z = (
    ap (λ (x : Step). x.spare) step_takes ∙ out_of_turn sp p.frame.next (numbered p (body_in s p.frame)) z,
    ap (λ (x : Step). x.told.next) step_takes ∙ turn_next sp p.frame.next (numbered p (body_in s p.frame)),
  )
