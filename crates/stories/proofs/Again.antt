-- C-20 in the words of the reads: who looks an entry up again and asks with what is found is told the same holder, through no
-- more entries. Assumes nothing.
use mathlib.Core.Path.{◌≡◌, refl, sym, ap, ◌∙◌}
use Rattle.std.specs.Prelude.{Option, None, Some}
use Prim.Native.Nat.{ℕ}
use borrow.Author.Tests.{eqb-true, leb-true}
use Rattle.lists.specs.Tests.{Yes}
use Rattle.lists.proofs.Tests.{and_l, and_r}
use Rattle.ids.specs.declared.LockId.{LockId}
use Rattle.ids.specs.Order.{key}
use Rattle.state.specs.declared.ScopeKey.{ScopeKey}
use Rattle.state.specs.declared.DefunctLock.{DefunctLock}
use Rattle.state.specs.declared.LockState.{LockState}
use Rattle.state.specs.Locks.{has_id_d}
use Rattle.state.specs.Model.{model_of}
use Rattle.std.specs.Prelude.{Result, Ok, Err}
use Rattle.rules.specs.declared.Unsound.{Unsound}
use Rattle.rules.specs.declared.Unsound.TheVariants.{Rule}
use Rattle.rules.specs.Rules.{broken_rule, find_d}
use Rattle.lookups.specs.Reads.{held, defunct_by_id_on, holder_of, current_holder_on}
use Rattle.lookups.proofs.Verdicts.{on_sound_lem}
use Rattle.operations.specs.Acknowledge.{acknowledge_on, expire_defunct_on}
use Rattle.locks.specs.Locks.{delete_defunct_on}
use Rattle.promises.specs.Steps.{Op, step_on}
use Rattle.promises.proofs.Again.{accepted_again, acknowledge_accepted, expire_defunct_accepted}
use Rattle.promises.proofs.Dropping.{delete_defunct_accepted}
use Rattle.stories.specs.Stories.{same_story, StoriesKept, stated}
use Rattle.stories.specs.Again.{ToldTheSame}
use Rattle.stories.proofs.Kept.{keeps→}
use Rattle.stories.proofs.Stories.{acknowledge_story, expire_story, delete_defunct_story, step_story}

-- ---- the two reads on a sound state
abbrev found : Result (Option DefunctLock) Unsound → Option DefunctLock
found (Err (Rule n)) = None
found (Ok None) = None
found (Ok (Some d)) = Some d

found_told : (o : Option DefunctLock) → found (Ok o) ≡ o
found_told None = refl
found_told (Some d) = refl

module _ (s : LockState) (e : broken_rule s ≡ Ok tt) where
  by_id : (i : LockId) → defunct_by_id_on s i ≡ Ok (find_d (model_of s).defunct (key i))
  unfolding defunct_by_id_on has_id_d
  by_id i = sym (on_sound_lem s _ _ (broken_rule s) refl e)

  holder_told : (d : DefunctLock) → current_holder_on s d ≡ Ok (held (holder_of (model_of s) d).subject (holder_of (model_of s) d).links)
  unfolding current_holder_on
  holder_told d = sym (on_sound_lem s _ _ (broken_rule s) refl e)

-- ---- two sound states, the later with the stories of the earlier
pub told_the_same : (s t : LockState) → broken_rule s ≡ Ok tt → broken_rule t ≡ Ok tt → StoriesKept s t → ToldTheSame s t
unfolding same_story
told_the_same s t e f k i d q =
    let at : find_d (model_of t).defunct (key i) ≡ Some d = sym (found_told _) ∙ ap found (sym (by_id t f i) ∙ q) in
    let w = keeps→ (model_of s) (model_of t) k (key i) d at in
    record {
      was = w.0;
      subject = (holder_of (model_of s) w.0).subject;
      links = (holder_of (model_of s) w.0).links;
      links_again = (holder_of (model_of t) d).links;
      found = by_id s e i ∙ ap Ok w.1;
      told = holder_told s e w.0;
      again = holder_told t f d ∙ ap (λ (n : ℕ). Ok (held n (holder_of (model_of t) d).links)) (eqb-true _ _ (and_l _ _ w.2));
      fall = leb-true _ _ (and_r _ _ w.2);
    }

-- ---- after what 02 names, after delete_defunct, and after any operation that it is stated of
module _ (s : LockState) (e : broken_rule s ≡ Ok tt) where
  pub acknowledge_told : (i : LockId) → ToldTheSame s (acknowledge_on s i).state
  acknowledge_told i = told_the_same s _ e (acknowledge_accepted s e i _ refl) (acknowledge_story s e i)

  pub expire_told : (now : ℕ) → ToldTheSame s (expire_defunct_on s now).state
  expire_told now = told_the_same s _ e (expire_defunct_accepted s e now _ refl) (expire_story s e now)

  pub delete_defunct_told : (i : LockId) (k : ScopeKey) (subject : ℕ) → ToldTheSame s (delete_defunct_on s i k subject).state
  delete_defunct_told i k subject = told_the_same s _ e (delete_defunct_accepted s e i k subject _ refl) (delete_defunct_story s e i k subject)

  pub step_told : (o : Op) → Yes (stated o (model_of (step_on s o))) → ToldTheSame s (step_on s o)
  step_told o t = told_the_same s (step_on s o) e (accepted_again s e o) (step_story s e o t)
