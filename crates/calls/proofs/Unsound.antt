-- 12: whatever is asked of an unsound state, its operation refuses by that number, so whoever performs it need not test first.
-- Assumes nothing.
use mathlib.Core.Path.{◌≡◌, refl, sym, ap}
use Prim.Native.Nat.{ℕ}
use mathlib.Core.List.{List}
use Rattle.state.specs.declared.LockState.{LockState}
use Rattle.std.specs.Prelude.{Err}
use Rattle.rules.specs.declared.Unsound.TheVariants.{Rule}
use Rattle.rules.specs.Rules.{broken_rule}
use Rattle.lookups.proofs.Verdicts.{on_broken}
use Rattle.operations.specs.Answers.{Inserted, Renewed, Deleted, Expired, Replaced, Acknowledged, DefunctsExpired}
use Rattle.operations.specs.Answers.{paper_of, renewal_paper, deletion_paper, expiration_paper, acknowledgement_paper, expiry_paper}
use Rattle.operations.specs.Insert.{insert_active_with, insert_active_on}
use Rattle.operations.specs.Vehicle.{insert_vehicle_with, insert_vehicle_on}
use Rattle.operations.specs.Renew.{renew_on}
use Rattle.operations.specs.Delete.{delete_on, begin_expiration_on}
use Rattle.operations.specs.Replace.{commit_replacement_with, commit_replacement_on}
use Rattle.operations.specs.Acknowledge.{acknowledge_on, expire_defunct_on}
use Rattle.records.specs.declared.requests.Request.{Request}
use Rattle.records.specs.declared.requests.Request.TheVariants.{Insert, InsertVehicle, Renew, Delete, BeginExpiration, Replace, Acknowledge, ExpireDefunct}
use Rattle.calls.specs.Calls.{perform_on, outcome_paper}

module _ (s : LockState) (n : ℕ) (e : broken_rule s ≡ Err (Rule n)) where
  pub refused_unsound : (r : Request) (ws : List ℕ) → (outcome_paper (perform_on s r ws).outcome).number ≡ 12
  unfolding perform_on outcome_paper paper_of renewal_paper deletion_paper expiration_paper acknowledgement_paper expiry_paper insert_active_on insert_active_with insert_vehicle_on insert_vehicle_with renew_on delete_on begin_expiration_on commit_replacement_on commit_replacement_with acknowledge_on expire_defunct_on
  refused_unsound (Insert x) ws = sym (ap (λ (r : Inserted). (paper_of r.told).number) (on_broken s _ _ (broken_rule s) n refl e))
  refused_unsound (InsertVehicle x) ws = sym (ap (λ (r : Inserted). (paper_of r.told).number) (on_broken s _ _ (broken_rule s) n refl e))
  refused_unsound (Renew r) ws = sym (ap (λ (r : Renewed). (renewal_paper r.told).number) (on_broken s _ _ (broken_rule s) n refl e))
  refused_unsound (Delete i) ws = sym (ap (λ (r : Deleted). (deletion_paper r.told.answer).number) (on_broken s _ _ (broken_rule s) n refl e))
  refused_unsound (BeginExpiration r) ws = sym (ap (λ (r : Expired). (expiration_paper r.told.answer).number) (on_broken s _ _ (broken_rule s) n refl e))
  refused_unsound (Replace r) ws = sym (ap (λ (r : Replaced). (paper_of r.told.answer).number) (on_broken s _ _ (broken_rule s) n refl e))
  refused_unsound (Acknowledge i) ws = sym (ap (λ (r : Acknowledged). (acknowledgement_paper r.told).number) (on_broken s _ _ (broken_rule s) n refl e))
  refused_unsound (ExpireDefunct now) ws = sym (ap (λ (r : DefunctsExpired). (expiry_paper r.told.answer).number) (on_broken s _ _ (broken_rule s) n refl e))
