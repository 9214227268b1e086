-- 02, C-20, of the operations as they are called: on every sound state, what is left keeps every remaining entry's story,
-- whatever was answered, 8 included (the entries are gone then too).
--     acknowledge_story, expire_story, delete_defunct_story       always
--     insert_story, vehicle_story                                 where, after it, no remaining entry names the new id
--     insert_new_story, vehicle_new_story                         so where none names it before
--     renew_story                                                 always
--     step_story                                                  all of these that a feed asks for in one
-- Assumes nothing.
use mathlib.Core.Path.{◌≡◌, refl, sym, subst}
use mathlib.Core.Bool.{Bool}
use mathlib.Core.List.{List}
use Prim.Native.Nat.{ℕ}
use Rattle.lists.specs.Tests.{Yes}
use Rattle.lists.proofs.Tests.{against}
use Rattle.ids.specs.declared.LockId.{LockId}
use Rattle.state.specs.declared.ScopeKey.{ScopeKey}
use Rattle.state.specs.declared.ActiveLock.{ActiveLock}
use Rattle.state.specs.declared.LockState.{LockState}
use Rattle.state.specs.Locks.{normal}
use Rattle.state.specs.Model.{Model, model_of, state_of, full}
use Rattle.state.proofs.Laws.{model-of-state}
use Rattle.std.specs.Prelude.{Result, Ok, ⊤}
use Rattle.rules.specs.Rules.{broken_rule}
use Rattle.rules.proofs.Sound.{sound_of}
use Rattle.operations.specs.declared.answers.Refusal.{Refusal}
use Rattle.operations.specs.Answers.{Inserted}
use Rattle.operations.specs.Insert.{inserted_in, inserted, insert_active_on}
use Rattle.operations.specs.Vehicle.{vehicle_in, insert_vehicle_on}
use Rattle.operations.specs.Renew.{renew_on}
use Rattle.operations.specs.Acknowledge.{lapsed_of, acknowledge_on, expire_defunct_on}
use Rattle.locks.specs.Locks.{delete_defunct_on}
use Rattle.promises.specs.Steps.{Op, insert_active, insert_vehicle, renew, delete, begin_expiration, commit_replacement, acknowledge, expire_defunct, step_on}
use Rattle.promises.proofs.Core.{Core, stands_of}
use Rattle.promises.proofs.Closing.{insert_active_comes, insert_vehicle_comes, renew_comes, acknowledge_comes, expire_defunct_comes}
use Rattle.promises.proofs.Dropping.{drop_comes}
use Rattle.stories.specs.Stories.{keeps_stories, StoriesKept, unnamed, stated}
use Rattle.stories.proofs.Changes.{unchanged_kept, removed_kept, all_removed_kept, inserted_kept, vehicle_kept, renewed_kept, inserted_unnamed, vehicle_unnamed}

-- what is known of lists is known of them as a state
in_state : (P : Model → Type 0) (n : Model) → P n → P (model_of (state_of n))
in_state P n = subst P (sym (model-of-state n))

module _ (s : LockState) (e : broken_rule s ≡ Ok tt) where
  core : Core (model_of s)
  core = (stands_of full (model_of s) (sound_of s e)).core

  abbrev Tells : Model → Type 0
  Tells n = Yes (keeps_stories (model_of s) n)

  -- a refusal that leaves the state
  pub stays : StoriesKept s s
  stays = unchanged_kept (model_of s) core

  -- ---- "acknowledgement and defunct expiry, the last-revision refusal included"
  pub acknowledge_story : (i : LockId) → StoriesKept s (acknowledge_on s i).state
  acknowledge_story i = acknowledge_comes (λ r. StoriesKept s r.state) s i (λ b. stays) (λ b g. in_state Tells _ (removed_kept (model_of s) core i))

  pub expire_story : (now : ℕ) → StoriesKept s (expire_defunct_on s now).state
  expire_story now = expire_defunct_comes (λ r. StoriesKept s r.state) s now (λ b. stays) (λ b l g. in_state Tells _ (all_removed_kept (model_of s) core (lapsed_of now (model_of s))))

  -- delete_defunct goes "as acknowledgement"
  pub delete_defunct_story : (i : LockId) (k : ScopeKey) (subject : ℕ) → StoriesKept s (delete_defunct_on s i k subject).state
  delete_defunct_story i k subject = drop_comes (λ r. StoriesKept s r.state) s i k subject (λ n. stays) stays stays (acknowledge_story i)

  -- ---- "For insertion it is stated only where, after it, no remaining entry names the new id as its replacement"
  -- of either insertion: r is what it comes to, n the lists that it leaves where it goes through
  module _ (y : ActiveLock) (n : Model) (r : Inserted) (comes : (P : Inserted → Type 0) → ((b : Result ⊤ Refusal) → P (inserted b s)) → P (inserted (Ok tt) (state_of n)) → P r)
      (kept : Yes (unnamed y.lock.id n) → Tells n) where
    put_story : Yes (unnamed y.lock.id (model_of r.state)) → StoriesKept s r.state
    put_story = comes (λ q. Yes (unnamed y.lock.id (model_of q.state)) → StoriesKept s q.state) (λ b t. stays) (in_state (λ m. Yes (unnamed y.lock.id m) → Tells m) n kept)

    -- an id that no entry names before, none names after
    put_new_story : Yes (unnamed y.lock.id (model_of s)) → Yes (unnamed y.lock.id n) → StoriesKept s r.state
    put_new_story t u = put_story (comes (λ q. Yes (unnamed y.lock.id (model_of q.state))) (λ b. t) (in_state (λ m. Yes (unnamed y.lock.id m)) n u))

  inserts : (y : ActiveLock) (P : Inserted → Type 0) → ((b : Result ⊤ Refusal) → P (inserted b s)) → P (inserted (Ok tt) (state_of (inserted_in (model_of s) (normal y)))) → P (insert_active_on s y)
  inserts y P f g = insert_active_comes P s y (λ b n. f b) (λ d a. g)

  pub insert_story : (y : ActiveLock) → Yes (unnamed y.lock.id (model_of (insert_active_on s y).state)) → StoriesKept s (insert_active_on s y).state
  unfolding normal
  insert_story y = put_story y _ (insert_active_on s y) (inserts y) (inserted_kept (model_of s) core (normal y))

  pub insert_new_story : (y : ActiveLock) → Yes (unnamed y.lock.id (model_of s)) → StoriesKept s (insert_active_on s y).state
  unfolding normal
  insert_new_story y t = put_new_story y _ (insert_active_on s y) (inserts y) (inserted_kept (model_of s) core (normal y)) t (inserted_unnamed y.lock.id (model_of s) t (normal y))

  inserts_vehicle : (y : ActiveLock) (ws : List ℕ) (P : Inserted → Type 0) → ((b : Result ⊤ Refusal) → P (inserted b s)) → P (inserted (Ok tt) (state_of (vehicle_in (model_of s) (normal y) ws))) → P (insert_vehicle_on s y ws)
  inserts_vehicle y ws P f g = insert_vehicle_comes P s y ws (λ b n. f b) (λ d a. g)

  pub vehicle_story : (y : ActiveLock) (ws : List ℕ) → Yes (unnamed y.lock.id (model_of (insert_vehicle_on s y ws).state)) → StoriesKept s (insert_vehicle_on s y ws).state
  unfolding normal
  vehicle_story y ws = put_story y _ (insert_vehicle_on s y ws) (inserts_vehicle y ws) (vehicle_kept (model_of s) core (normal y) ws)

  pub vehicle_new_story : (y : ActiveLock) (ws : List ℕ) → Yes (unnamed y.lock.id (model_of s)) → StoriesKept s (insert_vehicle_on s y ws).state
  unfolding normal
  vehicle_new_story y ws t = put_new_story y _ (insert_vehicle_on s y ws) (inserts_vehicle y ws) (vehicle_kept (model_of s) core (normal y) ws) t (vehicle_unnamed y.lock.id (model_of s) t (normal y) ws)

  -- ---- renewal
  pub renew_story : (i : LockId) (t now : ℕ) (has : Bool) (d : ℕ) → StoriesKept s (renew_on s i t now has d).state
  renew_story i t now has d = renew_comes (λ r. StoriesKept s r.state) s i t now has d (λ b. stays) (λ q g. in_state Tells _ (renewed_kept (model_of s) core i t has d))

  -- ---- any operation that it is stated of
  pub step_story : (o : Op) → Yes (stated o (model_of (step_on s o))) → StoriesKept s (step_on s o)
  unfolding step_on stated
  step_story (insert_active y) t = insert_story y t
  step_story (insert_vehicle y ws) t = vehicle_story y ws t
  step_story (renew i f now has d) t = renew_story i f now has d
  step_story (delete i) t = absurd (against refl t)
  step_story (begin_expiration i now) t = absurd (against refl t)
  step_story (commit_replacement ws y by at) t = absurd (against refl t)
  step_story (acknowledge i) t = acknowledge_story i
  step_story (expire_defunct now) t = expire_story now
