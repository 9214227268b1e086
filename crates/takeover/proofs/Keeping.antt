-- Every state met is sound, over any bytes.
--     perform_state  a call leaves the state that the operation leaves in a direct call
--     step_keeps     a sound spare stays sound over any record
--     run_keeps      and over any bytes: from empty, and from any accepted image
-- Assumes nothing.
use mathlib.Core.Path.{◌≡◌, refl, ap, ◌∙◌}
use mathlib.Core.List.{List}
use Prim.Native.Nat.{ℕ, zero, suc}
use Rattle.lists.proofs.Tests.{cond_both}
use Rattle.state.specs.declared.LockState.{LockState}
use Rattle.state.specs.Model.{empty_model, full}
use Rattle.std.specs.Prelude.{Result, Ok, Err}
use Rattle.rules.specs.Rules.{broken_rule}
use Rattle.rules.proofs.Sound.{sound_state}
use Rattle.records.specs.declared.requests.Request.{Request}
use Rattle.records.specs.declared.requests.Request.TheVariants.{Insert, InsertVehicle, Renew, Delete, BeginExpiration, Replace, Acknowledge, ExpireDefunct}
use Rattle.promises.specs.Steps.{step_on as directOn}
use Rattle.promises.specs.Results.{op_of}
use Rattle.promises.proofs.Again.{accepted_again}
use Rattle.promises.proofs.Every.{empty_sound}
use Rattle.image.specs.declared.Spare.{Spare}
use Rattle.records.specs.declared.frame.Unread.TheVariants.{Torn, BadKind, BadField}
use Rattle.image.specs.Image.{no_spare, read_on}
use Rattle.image.proofs.Trips.{accepted}
use Rattle.calls.specs.Calls.{perform_on}
use Rattle.feed.specs.declared.events.Step.{Step}
use Rattle.records.specs.declared.frame.Unread.{Unread}
use Rattle.feed.specs.declared.taking.Placed.{Placed}
use Rattle.feed.specs.Feed.{Numbered, numbered, body_in, taken_at, act_on, turn_on, taken_on, step_on}
use Rattle.feed.specs.Runs.{stops, run_on}
use Rattle.feed.proofs.Turning.{turn_comes, step_sound}
use Rattle.takeover.specs.Feeding.{performs}

-- ---- the same request in a direct call
pub perform_state : (s : LockState) (r : Request) (ws : List ℕ) → (perform_on s r ws).state ≡ directOn s (op_of r ws)
unfolding perform_on directOn
perform_state s (Insert x) ws = refl
perform_state s (InsertVehicle x) ws = refl
perform_state s (Renew r) ws = refl
perform_state s (Delete i) ws = refl
perform_state s (BeginExpiration e) ws = refl
perform_state s (Replace r) ws = refl
perform_state s (Acknowledge i) ws = refl
perform_state s (ExpireDefunct now) ws = refl

pub performs_keep : (x : Numbered) (s : LockState) → broken_rule s ≡ Ok tt → broken_rule (performs x s) ≡ Ok tt
performs_keep x s e = ap broken_rule (perform_state s x.request x.list) ∙ accepted_again s e (op_of x.request x.list)

-- ---- one record
pub act_state : (sp : Spare) (n : ℕ) (x : Numbered) → (act_on sp n x).spare.state ≡ directOn sp.state (op_of x.request x.list)
unfolding act_on
act_state sp n x = perform_state sp.state x.request x.list

module _ (sp : Spare) (s : List ℕ) (at : ℕ) (e : broken_rule sp.state ≡ Ok tt) where
  turn_keeps : (n : ℕ) (x : Numbered) → broken_rule (turn_on sp n x).spare.state ≡ Ok tt
  unfolding act_on
  turn_keeps n x = turn_comes sp n x (λ (y : Step). broken_rule y.spare.state ≡ Ok tt) (λ z. performs_keep x sp.state e) (λ v g. e)

  taken_keeps : (t : Result Placed Unread) → broken_rule (taken_on sp s at t).spare.state ≡ Ok tt
  taken_keeps (Err u) = e
  taken_keeps (Ok p) = turn_keeps p.frame.next (numbered p (body_in s p.frame))

  pub step_keeps : broken_rule (step_on sp s at).spare.state ≡ Ok tt
  step_keeps = ap (λ (x : Step). broken_rule x.spare.state) (step_sound sp s at e) ∙ taken_keeps (taken_at s at)

-- ---- a whole feed
pub run_keeps : (k : ℕ) (sp : Spare) (s : List ℕ) (at : ℕ) → broken_rule sp.state ≡ Ok tt → broken_rule (run_on k sp s at).state ≡ Ok tt
unfolding run_on
run_keeps zero sp s at e = e
run_keeps (suc k) sp s at e =
    cond_both (λ (x : Spare). broken_rule x.state ≡ Ok tt) _ _ (stops (step_on sp s at).told.event) (λ t. e) (λ t. run_keeps k _ s _ (step_keeps sp s at e))

pub from_empty : (k : ℕ) (s : List ℕ) (at : ℕ) → broken_rule (run_on k no_spare s at).state ≡ Ok tt
from_empty k s at = run_keeps k no_spare s at (sound_state empty_model (empty_sound full))

pub from_image : (b : List ℕ) (sp : Spare) → read_on b ≡ record { told = Ok tt; spare = sp } → (k : ℕ) (s : List ℕ) (at : ℕ) → broken_rule (run_on k sp s at).state ≡ Ok tt
from_image b sp e k s at = run_keeps k sp s at (accepted b sp e).sound
