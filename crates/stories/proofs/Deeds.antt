-- C-20 over whatever is done to a running spare, one after the other: who looks an entry up at the end is told the holder that
-- was told at the start, through no more entries. Assumes nothing.
use mathlib.Core.Path.{◌≡◌, refl, sym, subst}
use mathlib.Core.Bool.{Bool, true, false, cond}
use mathlib.Core.List.{List, [], ◌∷◌}
use Prim.Native.Nat.{ℕ, zero, suc}
use borrow.Author.Tests.{eq-eqb}
use Rattle.lists.specs.Tests.{Yes}
use Rattle.lists.proofs.Tests.{and_l, and_r, imp_e}
use Rattle.state.specs.declared.LockState.{LockState}
use Rattle.state.specs.Model.{model_of}
use Rattle.std.specs.Prelude.{Result, Ok, Err}
use Rattle.rules.specs.Rules.{broken_rule}
use Rattle.lookups.proofs.Verdicts.{defuncts_ascend}
use Rattle.records.specs.declared.requests.Request.{Request}
use Rattle.calls.specs.Calls.{perform_on}
use Rattle.promises.specs.Results.{op_of}
use Rattle.image.specs.declared.Spare.{Spare}
use Rattle.feed.specs.declared.events.Step.{Step}
use Rattle.records.specs.declared.frame.Unread.{Unread}
use Rattle.records.specs.declared.frame.Unread.TheVariants.{Torn, BadKind, BadField}
use Rattle.feed.specs.declared.taking.Placed.{Placed}
use Rattle.feed.specs.Feed.{numbered, body_in, taken_at, act_on, taken_on, step_on}
use Rattle.feed.specs.Runs.{stops, run_on}
use Rattle.feed.proofs.Turning.{turn_comes, step_sound}
use Rattle.takeover.specs.Deeds.{Deed, operation, delete_defunct, feeding, deed_on}
use Rattle.takeover.proofs.Keeping.{perform_state}
use Rattle.takeover.proofs.Deeds.{deed_keeps}
use Rattle.stories.specs.Stories.{StoriesKept, stated}
use Rattle.stories.specs.Deeds.{taken_stated, deed_stated, deeds_stated, after_deeds, run_deeds}
use Rattle.stories.specs.Again.{ToldTheSame}
use Rattle.stories.proofs.Kept.{Keeps, keeps→, →keeps, keeps_refl, keeps_trans}
use Rattle.stories.proofs.Stories.{stays, step_story, delete_defunct_story}
use Rattle.stories.proofs.Again.{told_the_same}

-- ---- the one call
pub perform_story : (s : LockState) → broken_rule s ≡ Ok tt → (r : Request) (ws : List ℕ) → Yes (stated (op_of r ws) (model_of (perform_on s r ws).state)) → StoriesKept s (perform_on s r ws).state
perform_story s e r ws = subst (λ (t : LockState). Yes (stated (op_of r ws) (model_of t)) → StoriesKept s t) (sym (perform_state s r ws)) (step_story s e (op_of r ws))

-- ---- a record of a feed: in turn, what it asks for; else nothing changes
module _ (sp : Spare) (e : broken_rule sp.state ≡ Ok tt) (f : List ℕ) (at : ℕ) where
  abbrev Tells : Result Placed Unread → Step → Type 0
  Tells t z = Yes (taken_stated sp f t (model_of z.spare.state)) → StoriesKept sp.state z.spare.state

  taken_story : (t : Result Placed Unread) → Tells t (taken_on sp f at t)
  unfolding act_on
  taken_story (Err (Torn x)) = λ y. stays sp.state e
  taken_story (Err (BadKind x)) = λ y. stays sp.state e
  taken_story (Err (BadField x)) = λ y. stays sp.state e
  taken_story (Ok p) =
      let x = numbered p (body_in f p.frame) in
      turn_comes sp p.frame.next x (Tells (Ok p)) (λ d y. perform_story sp.state e x.request x.list (imp_e _ _ y (eq-eqb _ _ d))) (λ v g y. stays sp.state e)

  pub feed_story : Yes (taken_stated sp f (taken_at f at) (model_of (step_on sp f at).spare.state)) → StoriesKept sp.state (step_on sp f at).spare.state
  feed_story = subst (Tells (taken_at f at)) (sym (step_sound sp f at e)) (taken_story (taken_at f at))

-- ---- one deed, and any number of them
pub deed_story : (sp : Spare) → broken_rule sp.state ≡ Ok tt → (d : Deed) → Yes (deed_stated sp d (model_of (deed_on sp d).state)) → StoriesKept sp.state (deed_on sp d).state
unfolding deed_on deed_stated
deed_story sp e (operation o) = step_story sp.state e o
deed_story sp e (delete_defunct i k subject) = λ t. delete_defunct_story sp.state e i k subject
deed_story sp e (feeding f at) = feed_story sp e f at

deeds_keep : (ds : List Deed) (sp : Spare) → broken_rule sp.state ≡ Ok tt → Yes (deeds_stated sp ds) → Keeps (model_of sp.state) (model_of (after_deeds sp ds).state) × (broken_rule (after_deeds sp ds).state ≡ Ok tt)
unfolding deeds_stated after_deeds
deeds_keep [] sp e t = (keeps_refl (model_of sp.state), e)
deeds_keep (d ∷ ds) sp e t =
    let w = deeds_keep ds (deed_on sp d) (deed_keeps sp e d) (and_r _ _ t) in
    (keeps_trans (model_of sp.state) (model_of (deed_on sp d).state) _ (keeps→ _ _ (deed_story sp e d (and_l _ _ t))) w.0, w.1)

pub deeds_story : (sp : Spare) → broken_rule sp.state ≡ Ok tt → (ds : List Deed) → Yes (deeds_stated sp ds) → StoriesKept sp.state (after_deeds sp ds).state
deeds_story sp e ds t = let w = deeds_keep ds sp e t in →keeps (model_of sp.state) (model_of (after_deeds sp ds).state) (defuncts_ascend (after_deeds sp ds).state w.1) w.0

-- in the words of the reads
pub deed_told : (sp : Spare) → broken_rule sp.state ≡ Ok tt → (d : Deed) → Yes (deed_stated sp d (model_of (deed_on sp d).state)) → ToldTheSame sp.state (deed_on sp d).state
deed_told sp e d t = told_the_same sp.state (deed_on sp d).state e (deed_keeps sp e d) (deed_story sp e d t)

pub deeds_told : (sp : Spare) → broken_rule sp.state ≡ Ok tt → (ds : List Deed) → Yes (deeds_stated sp ds) → ToldTheSame sp.state (after_deeds sp ds).state
deeds_told sp e ds t = told_the_same sp.state (after_deeds sp ds).state e (deeds_keep ds sp e t).1 (deeds_story sp e ds t)

-- ---- a run over a feed is such a list
pub run_deeds_lem : (k : ℕ) (sp : Spare) (f : List ℕ) (at : ℕ) → after_deeds sp (run_deeds k sp f at) ≡ run_on k sp f at
unfolding after_deeds run_deeds run_on deed_on
run_deeds_lem zero sp f at = refl
run_deeds_lem (suc k) sp f at = go (stops (step_on sp f at).told.event) _ (run_deeds_lem k (step_on sp f at).spare f (step_on sp f at).told.next)
  where
    go : (b : Bool) (ds : List Deed) {z : Spare} → after_deeds (step_on sp f at).spare ds ≡ z → after_deeds sp (cond b [] (feeding f at ∷ ds)) ≡ cond b sp z
    go true ds q = refl
    go false ds q = q
