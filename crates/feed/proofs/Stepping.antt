-- What the code shows at each of its answers, each law once.
-- Assumes nothing.
use Rattle.std.proofs.Common.{◌≡◌, ℕ, ◌+◌, ◌%◌, ◌^◌, ◌<◌, ◌≤◌, Bool, true, false, cond, leb, List, sym, refl, ap, ◌∙◌, subst, arith, eq-eqb, ne_eqb, le-leb, leb-false, leb-true}
use borrow.Author.Tests.{lt-leb}
use Rattle.lists.proofs.Tests.{cond_true, cond_false}
use Rattle.std.specs.Prelude.{Result, Option, Ok, Err, Some, None, ⊤}
use Rattle.rules.specs.declared.Unsound.{Unsound}
use Rattle.rules.specs.declared.Unsound.TheVariants.{Rule}
use Rattle.rules.specs.Rules.{broken_rule}
use Rattle.lookups.proofs.Verdicts.{on_broken, on_sound_lem}
use Rattle.records.specs.declared.frame.Frame.{Frame}
use Rattle.records.specs.declared.frame.Unread.{Unread}
use Rattle.records.specs.declared.requests.Request.{Request}
use Rattle.records.specs.Table.{in_feed}
use Rattle.records.specs.Framing.{frame_at}
use Rattle.records.specs.Feeds.{request_of}
use Rattle.image.specs.declared.Spare.{Spare}
use Rattle.calls.specs.declared.Performed.{Performed}
use Rattle.calls.specs.Calls.{perform_on, outcome_paper}
use Rattle.calls.proofs.Unsound.{refused_unsound}
use Rattle.feed.specs.declared.events.FeedRefusal.TheVariants.{Repeat, Ahead}
use Rattle.feed.specs.declared.events.Step.{Step}
use Rattle.feed.specs.declared.taking.Placed.{Placed}
use Rattle.feed.specs.Feed.{distance, after, Numbered, body_in, taken_asked, taken_framed, taken_at, still, onward, act_on, turn_on, taken_on, step_on}
use Rattle.feed.specs.Refusals.{unsound}
use Rattle.feed.specs.Code.{tested_first}

-- ---- d is the distance
module _ (sp : Spare) (n : ℕ) (x : Numbered) (d : ℕ) (e : d ≡ distance x.number sp.expected) where
  pub turn_now : d ≡ 0 → act_on sp n x ≡ turn_on sp n x
  unfolding turn_on
  turn_now h = sym (cond_true _ _ _ (eq-eqb _ _ (sym e ∙ h)))

  turn_ahead : (d ≡ 0 → ⊥) → d ≤ 2147483647 → still sp (Err (Ahead sp.expected)) x.number n ≡ turn_on sp n x
  unfolding turn_on
  turn_ahead h k = sym (cond_false _ _ _ (ne_eqb _ _ (λ z. h (e ∙ z))) ∙ cond_true _ _ _ (le-leb (distance x.number sp.expected) _ (omega arith)))

  turn_repeat : (d ≡ 0 → ⊥) → 2147483647 < d → still sp (Err (Repeat sp.expected)) x.number n ≡ turn_on sp n x
  unfolding turn_on
  turn_repeat h k = sym (cond_false _ _ _ (ne_eqb _ _ (λ z. h (e ∙ z))) ∙ cond_false _ _ _ (lt-leb (distance x.number sp.expected) _ (omega arith)))

  -- half of the numbers lie ahead, the others behind
  pub turn_other : (d ≡ 0 → ⊥) → still sp (cond (leb d 2147483647) (Err (Ahead sp.expected)) (Err (Repeat sp.expected))) x.number n ≡ turn_on sp n x
  turn_other h = go (leb d 2147483647) refl
    where
      go : (b : Bool) → leb d 2147483647 ≡ b → still sp (cond b (Err (Ahead sp.expected)) (Err (Repeat sp.expected))) x.number n ≡ turn_on sp n x
      go true t = turn_ahead h (leb-true d 2147483647 t)
      go false t = turn_repeat h (leb-false d 2147483647 t)

-- ---- 12 before a step
module _ (sp : Spare) (at : ℕ) (st : Step) where
  -- v is what the test of the spare's state answered
  module _ (v : Result ⊤ Unsound) (e : v ≡ broken_rule sp.state) where
    pub tested_broken : (u : Unsound) → v ≡ Err u → still sp (Err (unsound u)) 0 at ≡ tested_first sp at st
    tested_broken (Rule n) h = on_broken _ _ _ v n e h

    pub tested_sound : v ≡ Ok tt → st ≡ tested_first sp at st
    tested_sound h = on_sound_lem _ _ _ v e h

  -- an operation that was not refused by 12 was asked of a sound state
  pub tested_there : (r : Request) (ws : List ℕ) (k : ℕ) → k ≡ (outcome_paper (perform_on sp.state r ws).outcome).number → (k ≡ 12 → ⊥) → st ≡ tested_first sp at st
  tested_there r ws k q h = go (broken_rule sp.state) refl
    where
      go : (v : Result ⊤ Unsound) → v ≡ broken_rule sp.state → st ≡ tested_first sp at st
      go (Ok u) e = tested_sound (Ok u) e refl
      go (Err (Rule n)) e = absurd (h (q ∙ refused_unsound sp.state n (sym e) r ws))

pub step_taken : (sp : Spare) (s : List ℕ) (at : ℕ) (t : Result Placed Unread) → t ≡ taken_at s at → tested_first sp at (taken_on sp s at t) ≡ step_on sp s at
unfolding step_on
step_taken sp s at t g = ap (λ (x : Result Placed Unread). tested_first sp at (taken_on sp s at x)) g

-- ---- a record that was taken: its frame is the one at the place
module _ (s : List ℕ) (at : ℕ) where
  abbrev FrameOf : Result Placed Unread → Type 0
  FrameOf (Err u) = Unit {0}
  FrameOf (Ok p) = (frame_at s at in_feed ≡ Ok p.frame) × (request_of p.frame.kind (body_in s p.frame) ≡ Some (p.sequence, p.request))

  asked_frame : (f : Frame) → frame_at s at in_feed ≡ Ok f → (a : Option (ℕ × Request)) → request_of f.kind (body_in s f) ≡ a → FrameOf (taken_asked at f a)
  asked_frame f e (Some (q, r)) g = (e, g)
  asked_frame f e None g = tt

  framed_frame : (f : Result Frame Unread) → frame_at s at in_feed ≡ f → FrameOf (taken_framed s at f)
  framed_frame (Err u) e = tt
  framed_frame (Ok f) e = asked_frame f e (request_of f.kind (body_in s f)) refl

  pub taken_frame : (t : Result Placed Unread) → taken_at s at ≡ t → FrameOf t
  unfolding taken_at
  taken_frame t e = subst FrameOf e (framed_frame (frame_at s at in_feed) refl)
