-- What `renew_on` is in each case of its tests.
-- Assumes nothing.
use mathlib.Core.Bool.{Bool, true, false, cond, true≢false, false≢true}
use mathlib.Core.List.{List, map}
use mathlib.Core.Path.{◌≡◌, refl, sym, ap, ◌∙◌}
use Prim.Native.Nat.{ℕ, ◌+◌}
use lib.Dec.{leb, eqb}
use borrow.Author.Tests.{eq-eqb}
use lib.ListN.{length-map}
use Rattle.lists.specs.Lists.{find}
use Rattle.lists.specs.Places.{in_places}
use Rattle.ids.specs.declared.LockId.{LockId}
use Rattle.state.specs.declared.ActiveLock.{ActiveLock}
use Rattle.state.specs.declared.LockState.{LockState}
use Rattle.state.specs.Locks.{has_id, blank_active}
use Rattle.state.specs.Model.{model_of, state_of, Tidy}
use Rattle.state.proofs.Laws.{active_count, defunct_count, defunct_in_lem}
use Rattle.std.specs.Prelude.{Result, Ok, Err, ⊤, Option, None, Some}
use Rattle.std.specs.Result.{is_ok}
use Rattle.rules.specs.declared.Unsound.{Unsound}
use Rattle.rules.specs.declared.Unsound.TheVariants.{Rule}
use Rattle.rules.specs.Rules.{broken_rule}
use Rattle.lookups.specs.Reads.{by_verdict, on_sound}
use Rattle.operations.specs.declared.answers.RenewalRefusal.{RenewalRefusal}
use Rattle.operations.specs.declared.answers.RenewalRefusal.TheVariants.{RevisionOverflow, LockExpired, RenewalNotExtension, UnsoundState}
use Rattle.operations.specs.Answers.{Renewed, refuse_if}
use Rattle.operations.specs.Checks.{at_last_lem, last_revision}
use Rattle.operations.specs.Renew.{extend_at, renewed_in, judge_lock, judge_found, judge_renew, renewed, settled_renew, renew_on}
use Rattle.lookups.proofs.Verdicts.{on_sound_lem}
use Rattle.operations.specs.Code.{renewable, judged_found, judged_in}

-- where nothing is refused, the revision can rise
can_rise : (r e now : ℕ) (a : ActiveLock) → is_ok (judge_lock r e now a) ≡ true → r ≡ last_revision → ⊥
unfolding refuse_if at_last_lem
can_rise r e now a f q = go (leb a.expires now) (leb e a.expires) (eqb r last_revision) (eq-eqb r last_revision q) f
  where
    go : (x y z : Bool) → z ≡ true → is_ok (cond {A = Result ⊤ RenewalRefusal} x (Err LockExpired) (cond y (Err RenewalNotExtension) (cond z (Err RevisionOverflow) (Ok tt)))) ≡ true → ⊥
    go true y z p g = false≢true g
    go false true z p g = false≢true g
    go false false true p g = false≢true g
    go false false false p g = false≢true p

-- of a sound state the judge of its locks answers as the test and the judge of it
pub tested : (s : LockState) (i : LockId) (e now : ℕ) (v : Result ⊤ Unsound) → v ≡ broken_rule s → v ≡ Ok tt → (a : Result ⊤ RenewalRefusal) → a ≡ judged_in (model_of s).active s.revision i e now → a ≡ renewable s i e now
unfolding renewable judged_in judge_renew
tested s i e now v g f a k = k ∙ same (find (has_id i) (model_of s).active) ∙ on_sound_lem s (λ n. Err (UnsoundState n)) (judge_found (model_of s) i e now (find (has_id i) (model_of s).active)) v g f
  where
    same : (o : Option ActiveLock) → judged_found s.revision i e now o ≡ judge_found (model_of s) i e now o
    same None = refl
    same (Some l) = refl

-- i the id, e the new expiry, has and d the metadata
module _ (s : LockState) (i : LockId) (e now : ℕ) (has : Bool) (d : ℕ) where
  settled_on : settled_renew (renewable s i e now) s (renewed_in (model_of s) i e has d) ≡ renew_on s i e now has d
  unfolding renew_on renewable on_sound
  settled_on = go (broken_rule s)
    where
      go : (v : Result ⊤ Unsound)
          → settled_renew (by_verdict v (λ n. Err (UnsoundState n)) (judge_renew (model_of s) i e now)) s (renewed_in (model_of s) i e has d)
          ≡ by_verdict {A = Renewed} v (λ n. renewed (Err (UnsoundState n)) s) (settled_renew (judge_renew (model_of s) i e now) s (renewed_in (model_of s) i e has d))
      go (Ok _) = refl
      go (Err (Rule n)) = refl

  -- a is what the test and the judge answered
  module _ (a : Result ⊤ RenewalRefusal) (g : a ≡ renewable s i e now) where
    told : settled_renew a s (renewed_in (model_of s) i e has d) ≡ renew_on s i e now has d
    told = ap (λ (b : Result ⊤ RenewalRefusal). settled_renew b s (renewed_in (model_of s) i e has d)) g ∙ settled_on

    pub refused : is_ok a ≡ false → renewed a s ≡ renew_on s i e now has d
    refused t = go a t ∙ told
      where
        go : (b : Result ⊤ RenewalRefusal) → is_ok b ≡ false → renewed b s ≡ settled_renew b s (renewed_in (model_of s) i e has d)
        go (Ok _) u = absurd (true≢false u)
        go (Err r) u = refl

    module _ (t : is_ok a ≡ true) where
      pub allowed : (broken_rule s ≡ Ok tt) × (s.revision ≡ last_revision → ⊥)
      unfolding renewable on_sound judge_renew
      allowed = go (broken_rule s) _ (sym (ap is_ok g) ∙ t)
        where
          rise : (o : Option ActiveLock) → is_ok (judge_found (model_of s) i e now o) ≡ true → s.revision ≡ last_revision → ⊥
          rise None u q = false≢true u
          rise (Some l) u q = can_rise s.revision e now l u q

          go : (v : Result ⊤ Unsound) (o : Option ActiveLock) → is_ok (by_verdict v (λ n. Err (UnsoundState n)) (judge_found (model_of s) i e now o)) ≡ true → (v ≡ Ok tt) × (s.revision ≡ last_revision → ⊥)
          go (Ok _) o u = (refl, rise o u)
          go (Err (Rule n)) o u = absurd (false≢true u)

      -- b is the array with the lock extended
      module _ (h : Tidy s) (b : List ActiveLock) (f : b ≡ in_places 64 blank_active (map (extend_at i e has d) (model_of s).active)) where
        pub done : renewed a (record { revision = s.revision + 1; active = b; actives = s.actives; defunct = s.defunct; defuncts = s.defuncts }) ≡ renew_on s i e now has d
        unfolding renewed_in
        done = go a t ∙ told
          where
            made : record { revision = s.revision + 1; active = b; actives = s.actives; defunct = s.defunct; defuncts = s.defuncts } ≡ state_of (renewed_in (model_of s) i e has d)
            made = λ j. record {
              revision = s.revision + 1;
              active = f j;
              actives = (sym (active_count s h) ∙ sym (length-map (model_of s).active (extend_at i e has d))) j;
              defunct = sym (defunct_in_lem s h) j;
              defuncts = sym (defunct_count s h) j;
            }

            go : (c : Result ⊤ RenewalRefusal) → is_ok c ≡ true → renewed c (record { revision = s.revision + 1; active = b; actives = s.actives; defunct = s.defunct; defuncts = s.defuncts }) ≡ settled_renew c s (renewed_in (model_of s) i e has d)
            go (Ok _) u = ap (renewed (Ok tt)) made
            go (Err r) u = absurd (false≢true u)
