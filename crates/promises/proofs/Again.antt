-- Three theorems on the state, for every state at all.
--     .._never         no insertion or replacement answers the closing check's Invariant: a sound state's next state is
--                      sound, and an unsound state is answered by 12
--     accepted_again   what the test accepts it accepts again after any operation, refused or not
--     closing_idle     so the closing check that renewal, deletion, acknowledgement and both expiries do without would pass
-- The contracts of the code's functions say that their results are those of these definitions, so this is demand 3 of the
-- code: from LockState::empty() or any state that the test accepts, every state met is accepted. Assumes nothing.
use mathlib.Core.Path.{◌≡◌, refl, ap}
use mathlib.Core.Bool.{Bool, true}
use mathlib.Core.List.{List, [], ◌∷◌}
use Prim.Native.Nat.{ℕ}
use lib.Dec.{eqb}
use Rattle.lists.specs.Tests.{Yes}
use Rattle.lists.specs.Lists.{all}
use Rattle.lists.proofs.Tests.{and_i}
use Rattle.ids.specs.declared.LockId.{LockId}
use Rattle.state.specs.declared.ActiveLock.{ActiveLock}
use Rattle.state.specs.declared.LockState.{LockState}
use Rattle.state.specs.Model.{state_of, empty_model, full}
use Rattle.std.specs.Prelude.{Ok, Err}
use Rattle.rules.specs.Rules.{broken_rule, is_sound}
use Rattle.rules.proofs.Sound.{sound_state}
use Rattle.operations.specs.declared.answers.Refusal.TheVariants.{Invariant}
use Rattle.operations.specs.Answers.{Inserted}
use Rattle.operations.specs.Answers.{Replaced}
use Rattle.operations.specs.Answers.{Renewed}
use Rattle.operations.specs.Answers.{Deleted}
use Rattle.operations.specs.Answers.{Expired}
use Rattle.operations.specs.Answers.{Acknowledged}
use Rattle.operations.specs.Answers.{DefunctsExpired}
use Rattle.operations.specs.Answers.{paper_of}
use Rattle.operations.specs.Insert.{insert_active_on}
use Rattle.operations.specs.Vehicle.{insert_vehicle_on}
use Rattle.operations.specs.Renew.{renew_on}
use Rattle.operations.specs.Delete.{delete_on, begin_expiration_on}
use Rattle.operations.specs.Replace.{commit_replacement_on}
use Rattle.operations.specs.Acknowledge.{acknowledge_on, expire_defunct_on}
use Rattle.promises.specs.Steps.{Op, insert_active, insert_vehicle, renew, delete, begin_expiration, commit_replacement, acknowledge, expire_defunct, shortened, step_on, runs_on}
use Rattle.promises.proofs.Answered.{differ}
use Rattle.promises.proofs.Every.{empty_sound}
use Rattle.promises.proofs.Closing.{insert_active_comes, insert_vehicle_comes, replace_comes, renew_comes, delete_comes, expiration_comes, acknowledge_comes, expire_defunct_comes}

-- ---- never Invariant
pub insert_active_never : (s : LockState) (y : ActiveLock) → (insert_active_on s y).told ≡ Err Invariant → ⊥
unfolding paper_of
insert_active_never s y = insert_active_comes (λ r. r.told ≡ Err Invariant → ⊥) s y (λ b n. n) (λ d g. differ (λ a. eqb (paper_of a).number 11) refl refl)

pub insert_vehicle_never : (s : LockState) (y : ActiveLock) (ws : List ℕ) → (insert_vehicle_on s y ws).told ≡ Err Invariant → ⊥
unfolding paper_of
insert_vehicle_never s y ws = insert_vehicle_comes (λ r. r.told ≡ Err Invariant → ⊥) s y ws (λ b n. n) (λ d g. differ (λ a. eqb (paper_of a).number 11) refl refl)

pub replace_never : (s : LockState) (ws : List ℕ) (y : ActiveLock) (by at : ℕ) → (commit_replacement_on s ws y by at).told.answer ≡ Err Invariant → ⊥
unfolding paper_of
replace_never s ws y by at = replace_comes (λ r. r.told.answer ≡ Err Invariant → ⊥) s ws y by at (λ b n. n) (λ d g. differ (λ a. eqb (paper_of a).number 11) refl refl)

-- ---- accepted again
pub accepted_again : (s : LockState) → broken_rule s ≡ Ok tt → (o : Op) → broken_rule (step_on s o) ≡ Ok tt
unfolding step_on
accepted_again s e (insert_active y) = insert_active_comes (λ r. broken_rule r.state ≡ Ok tt) s y (λ b n. e) (λ d g. g)
accepted_again s e (insert_vehicle y ws) = insert_vehicle_comes (λ r. broken_rule r.state ≡ Ok tt) s y ws (λ b n. e) (λ d g. g)
accepted_again s e (renew i t now has d) = renew_comes (λ r. broken_rule r.state ≡ Ok tt) s i t now has d (λ b. e) (λ d g. g)
accepted_again s e (delete i) = delete_comes (λ r. broken_rule r.state ≡ Ok tt) s i (λ b. e) (λ r q g. g)
accepted_again s e (begin_expiration i now) = expiration_comes (λ r. broken_rule r.state ≡ Ok tt) s i now (λ b. e) (λ r q g. g)
accepted_again s e (commit_replacement ws y by at) = replace_comes (λ r. broken_rule r.state ≡ Ok tt) s ws y by at (λ b n. e) (λ d g. g)
accepted_again s e (acknowledge i) = acknowledge_comes (λ r. broken_rule r.state ≡ Ok tt) s i (λ b. e) (λ b g. g)
accepted_again s e (expire_defunct now) = expire_defunct_comes (λ r. broken_rule r.state ≡ Ok tt) s now (λ b. e) (λ b l g. g)

-- 02, C-21: "after renewal, deletion, acknowledgement and both expiries this closing check can't fail". It can't after the
-- three others either (accepted_again): `shortened` says of which operations it is asked here
pub closing_idle : (s : LockState) → broken_rule s ≡ Ok tt → (o : Op) → Yes (shortened o) → is_sound (broken_rule (step_on s o)) ≡ true
closing_idle s e o h = ap is_sound (accepted_again s e o)

-- the same in the words of the functions' contracts
module _ (s : LockState) (e : broken_rule s ≡ Ok tt) where
  pub insert_active_accepted : (y : ActiveLock) (r : Inserted) → r ≡ insert_active_on s y → broken_rule r.state ≡ Ok tt
  unfolding step_on
  insert_active_accepted y r q = rw q (accepted_again s e (insert_active y))

  pub insert_vehicle_accepted : (y : ActiveLock) (ws : List ℕ) (r : Inserted) → r ≡ insert_vehicle_on s y ws → broken_rule r.state ≡ Ok tt
  unfolding step_on
  insert_vehicle_accepted y ws r q = rw q (accepted_again s e (insert_vehicle y ws))

  pub renew_accepted : (i : LockId) (t now : ℕ) (has : Bool) (d : ℕ) (r : Renewed) → r ≡ renew_on s i t now has d → broken_rule r.state ≡ Ok tt
  unfolding step_on
  renew_accepted i t now has d r q = rw q (accepted_again s e (renew i t now has d))

  pub delete_accepted : (i : LockId) (r : Deleted) → r ≡ delete_on s i → broken_rule r.state ≡ Ok tt
  unfolding step_on
  delete_accepted i r q = rw q (accepted_again s e (delete i))

  pub begin_expiration_accepted : (i : LockId) (now : ℕ) (r : Expired) → r ≡ begin_expiration_on s i now → broken_rule r.state ≡ Ok tt
  unfolding step_on
  begin_expiration_accepted i now r q = rw q (accepted_again s e (begin_expiration i now))

  pub commit_replacement_accepted : (ws : List ℕ) (y : ActiveLock) (by at : ℕ) (r : Replaced) → r ≡ commit_replacement_on s ws y by at → broken_rule r.state ≡ Ok tt
  unfolding step_on
  commit_replacement_accepted ws y by at r q = rw q (accepted_again s e (commit_replacement ws y by at))

  pub acknowledge_accepted : (i : LockId) (r : Acknowledged) → r ≡ acknowledge_on s i → broken_rule r.state ≡ Ok tt
  unfolding step_on
  acknowledge_accepted i r q = rw q (accepted_again s e (acknowledge i))

  pub expire_defunct_accepted : (now : ℕ) (r : DefunctsExpired) → r ≡ expire_defunct_on s now → broken_rule r.state ≡ Ok tt
  unfolding step_on
  expire_defunct_accepted now r q = rw q (accepted_again s e (expire_defunct now))

-- every state met is accepted
pub accepted_every : (s : LockState) → broken_rule s ≡ Ok tt → (os : List Op) → all (λ t. is_sound (broken_rule t)) (runs_on s os) ≡ true
accepted_every s e [] = and_i _ _ (ap is_sound e) refl
accepted_every s e (o ∷ os) = and_i _ _ (ap is_sound e) (accepted_every (step_on s o) (accepted_again s e o) os)

pub accepted_from_empty : (os : List Op) → all (λ t. is_sound (broken_rule t)) (runs_on (state_of empty_model) os) ≡ true
accepted_from_empty os = accepted_every (state_of empty_model) (sound_state empty_model (empty_sound full)) os
