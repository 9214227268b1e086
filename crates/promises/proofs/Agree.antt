-- Demand 2 for all eight in one form. In a state that the test accepts, the one call gives the answer, the removed locks and
-- the next state that are said on the lists (specs/Results.antt, specs/Steps.antt); so what is proved of the steps over any
-- limits is proved of the operations at 64 and 128. (A state's arrays have 64 and 128 places, which the definition's lists
-- need not.) Assumes nothing.
use mathlib.Core.Path.{◌≡◌, refl, sym, ap, ◌∙◌}
use mathlib.Core.Bool.{Bool, true, false, cond}
use mathlib.Core.List.{List, []}
use Rattle.std.specs.Prelude.{Option, None, Some}
use Prim.Native.Nat.{ℕ}
use lib.Dec.{ltb}
use lib.ListN.{length}
use Rattle.lists.specs.Tests.{◌and◌}
use Rattle.lists.specs.Lists.{any, find}
use Rattle.lists.proofs.Loops.{filter_none}
use Rattle.ids.specs.declared.LockId.{LockId}
use Rattle.state.specs.declared.ActiveLock.{ActiveLock}
use Rattle.state.specs.declared.LockState.{LockState}
use Rattle.state.specs.Locks.{has_id, has_id_d, normal}
use Rattle.state.specs.Model.{Model, model_of, state_of, full}
use Rattle.std.specs.Prelude.{Result, Ok, Err, ⊤}
use Rattle.rules.specs.Rules.{broken_rule}
use Rattle.rules.proofs.Sound.{tidy_of_sound}
use Rattle.operations.specs.declared.answers.Refusal.{Refusal}
use Rattle.operations.specs.declared.answers.DeletionRefusal.TheVariants as deletion
use Rattle.operations.specs.declared.answers.StateRefusal.TheVariants as state_refusal
use Rattle.operations.specs.declared.answers.RenewalRefusal.{RenewalRefusal}
use Rattle.operations.specs.declared.answers.DeletionRefusal.{DeletionRefusal}
use Rattle.operations.specs.declared.answers.Expiration.TheVariants.{Done, NotDue}
use Rattle.operations.specs.Answers.{Deleted}
use Rattle.operations.specs.Answers.{is_done}
use Rattle.operations.specs.Defuncts.{remove_d, remove_all}
use Rattle.operations.specs.Checks.{at_last_lem}
use Rattle.operations.specs.Insert.{judge_insert}
use Rattle.operations.specs.Vehicle.{judge_vehicle}
use Rattle.operations.specs.Renew.{renewed_in, judge_renew, settled_renew}
use Rattle.operations.specs.Delete.{tree_out, without_tree, deleted, delete_found, delete_on, expired, as_expiration, as_expired, expire_found}
use Rattle.operations.specs.Replace.{cut_of, judge_replace}
use Rattle.operations.specs.Acknowledge.{shed_in, acknowledged, told_acknowledge, acknowledged_to, lapsed, lapsed_of, ids_of_entries, shed, shed_to}
use Rattle.records.specs.declared.requests.Request.{Request}
use Rattle.records.specs.declared.requests.Request.TheVariants.{Insert, InsertVehicle, Renew, Delete, BeginExpiration, Replace, Acknowledge, ExpireDefunct}
use Rattle.calls.specs.declared.Outcome.{Outcome}
use Rattle.calls.specs.declared.Outcome.TheVariants as O
use Rattle.calls.specs.declared.Performed.{Performed}
use Rattle.calls.specs.Calls.{by_insert, by_renew, by_delete, by_expiration, by_replace, by_acknowledge, by_expiry, perform_on}
use Rattle.promises.specs.Steps.{Op, insert_active, insert_vehicle, renew, delete, begin_expiration, commit_replacement, acknowledge, expire_defunct, after_renewal, after_delete, after_expiration, step, step_on}
use Rattle.promises.specs.Results.{op_of, performed, judge_delete, judge_expiration, outcome_in, out_of, due_out_of, removed_in, lapsed_in}
use Rattle.promises.proofs.Passed.{is_done_lem}
use Rattle.promises.proofs.Closing.{insert_exactly, vehicle_exactly, replace_exactly, renew_exactly, delete_exactly, expiration_exactly, acknowledge_exactly, expire_exactly}

-- a choice on both sides
either : (P : Bool → Type 0) (b : Bool) → P true → P false → P b
either P true p q = p
either P false p q = q

-- a judgement that is Done tells so
judged : {A : Type 0} (f : A → Performed) (o : Result ⊤ Refusal → Outcome) (a : Result ⊤ Refusal) (d r : A) (out : Bool → List ActiveLock) (n m : Model)
    → f d ≡ performed (o (Ok tt)) (out true) [] (state_of n)
    → f r ≡ performed (o a) (out false) [] (state_of m)
    → f (cond (is_done a) d r) ≡ performed (o a) (out (is_done a)) [] (state_of (cond (is_done a) n m))
judged {A} f o a d r out n m p q = go (is_done a) refl
  where
    go : (b : Bool) → is_done a ≡ b → f (cond b d r) ≡ performed (o a) (out b) [] (state_of (cond b n m))
    go true e = p ∙ ap (λ (x : Result ⊤ Refusal). performed (o x) (out true) [] (state_of n)) (sym (is_done_lem a e))
    go false e = q

module _ (s : LockState) (t : s ≡ state_of (model_of s)) (e : broken_rule s ≡ Ok tt) where
  -- the state is left
  left : (o : Outcome) → performed o [] [] s ≡ performed o [] [] (state_of (model_of s))
  left o = ap (λ (x : LockState). performed o [] [] x) t

  renew_agrees : (a : Result ⊤ RenewalRefusal) (n : Model) → by_renew (settled_renew a s n) ≡ performed (O.Renewed a) [] [] (state_of (after_renewal a (model_of s) n))
  renew_agrees (Ok tt) n = refl
  renew_agrees (Err why) n = left _

  -- a deletion, told in its own words or, "else as delete", in an expiration's
  delete_agrees : (f : Deleted → Performed) (told : Result ⊤ DeletionRefusal → Outcome) → ((a : Result ⊤ DeletionRefusal) (out : List ActiveLock) (x : LockState) → f (deleted a out x) ≡ performed (told a) out [] x)
      → (i : LockId) (o : Option ActiveLock)
      → f (delete_found s i o) ≡ performed (told (judge_delete (model_of s) i o)) (out_of (model_of s) o) [] (state_of (after_delete (model_of s) o))
  unfolding delete_found
  delete_agrees f told same i None = same (Err (deletion.ActiveLockNotFound i)) [] s ∙ left _
  delete_agrees f told same i (Some r) =
      either (λ (b : Bool). f (cond b (deleted (Err deletion.RevisionOverflow) [] s) (deleted (Ok tt) (tree_out (model_of s) r).gone (state_of (without_tree (model_of s) r))))
      ≡ performed (told (cond b (Err deletion.RevisionOverflow) (Ok tt))) (cond b [] (tree_out (model_of s) r).gone) [] (state_of (cond b (model_of s) (without_tree (model_of s) r))))
      (at_last_lem s.revision) (same (Err deletion.RevisionOverflow) [] s ∙ left _) (same (Ok tt) (tree_out (model_of s) r).gone (state_of (without_tree (model_of s) r)))

  expiration_agrees : (i : LockId) (now : ℕ) (o : Option ActiveLock) → find (has_id i) (model_of s).active ≡ o
      → by_expiration (expire_found s i now o)
      ≡ performed (O.ExpirationBegun (judge_expiration (model_of s) i now o)) (due_out_of now (model_of s) o) [] (state_of (after_expiration now (model_of s) o))
  unfolding expire_found
  expiration_agrees i now None f = left _
  expiration_agrees i now (Some r) f =
      either (λ (b : Bool). by_expiration (cond b (expired (Ok (NotDue r.expires)) [] s) (as_expired (delete_on s i)))
      ≡ performed (O.ExpirationBegun (cond b (Ok (NotDue r.expires)) (as_expiration (judge_delete (model_of s) i (Some r))))) (cond b [] (out_of (model_of s) (Some r))) []
      (state_of (cond b (model_of s) (after_delete (model_of s) (Some r)))))
      (ltb now r.expires) (left _)
      (ap (λ (x : Deleted). by_expiration (as_expired x)) (delete_exactly s e i ∙ ap (delete_found s i) f)
      ∙ delete_agrees (λ x. by_expiration (as_expired x)) (λ a. O.ExpirationBegun (as_expiration a)) (λ a out x. refl) i (Some r))

  acknowledge_agrees : (b : Bool) (n : Model)
      → by_acknowledge (cond b (acknowledged_to s (state_of n)) (acknowledged (Ok false) s))
      ≡ performed (O.Acknowledged (cond b (cond (at_last_lem s.revision) (Err state_refusal.RevisionOverflow) (Ok true)) (Ok false))) [] [] (state_of (cond b n (model_of s)))
  unfolding acknowledged_to told_acknowledge
  acknowledge_agrees true n = refl
  acknowledge_agrees false n = left _

  -- 8 tells no list; where nothing lapses there is none
  shed_agrees : (b last : Bool) (ids : List LockId) (n : Model) → (b ≡ false → ids ≡ [])
      → by_expiry (cond b (cond last (shed (Err state_refusal.RevisionOverflow) [] (state_of n)) (shed (Ok tt) ids (state_of n))) (shed (Ok tt) [] s))
      ≡ performed (O.DefunctsExpired (cond (b and last) (Err state_refusal.RevisionOverflow) (Ok tt))) [] (cond last [] ids) (state_of (cond b n (model_of s)))
  unfolding ◌and◌
  shed_agrees true true ids n e = refl
  shed_agrees true false ids n e = refl
  shed_agrees false true ids n e = left _
  shed_agrees false false ids n e = left _ ∙ ap (λ (l : List LockId). performed (O.DefunctsExpired (Ok tt)) [] l (state_of (model_of s))) (sym (e refl))

  step_agrees : (r : Request) (ws : List ℕ)
      → perform_on s r ws
      ≡ performed (outcome_in full (model_of s) (op_of r ws)) (removed_in full (model_of s) (op_of r ws)) (lapsed_in (model_of s) (op_of r ws)) (state_of (step full (model_of s) (op_of r ws)))
  unfolding perform_on outcome_in removed_in lapsed_in step shed_to
  step_agrees (Insert y) ws =
      ap (by_insert O.Inserted) (insert_exactly s y e) ∙ judged (by_insert O.Inserted) O.Inserted (judge_insert full (model_of s) (normal y)) _ _ (λ b. []) _ (model_of s) refl (left _)
  step_agrees (InsertVehicle y) ws =
      ap (by_insert O.VehicleInserted) (vehicle_exactly s y ws e)
      ∙ judged (by_insert O.VehicleInserted) O.VehicleInserted (judge_vehicle full (model_of s) (normal y) ws) _ _ (λ b. []) _ (model_of s) refl (left _)
  step_agrees (Renew r) ws =
      ap by_renew (renew_exactly s e r.id r.expires r.now r.given r.metadata)
      ∙ renew_agrees (judge_renew (model_of s) r.id r.expires r.now) (renewed_in (model_of s) r.id r.expires r.given r.metadata)
  step_agrees (Delete i) ws = ap by_delete (delete_exactly s e i) ∙ delete_agrees by_delete O.Deleted (λ a out x. refl) i (find (has_id i) (model_of s).active)
  step_agrees (BeginExpiration r) ws = ap by_expiration (expiration_exactly s e r.id r.now) ∙ expiration_agrees r.id r.now (find (has_id r.id) (model_of s).active) refl
  step_agrees (Replace r) ws =
      ap by_replace (replace_exactly s ws r.lock r.breaker r.broken e)
      ∙ judged by_replace O.Replaced (judge_replace full (model_of s) ws (normal r.lock) r.breaker r.broken) _ _ (λ b. cond b (cut_of (model_of s) ws).gone []) _ (model_of s) refl (left _)
  step_agrees (Acknowledge i) ws =
      ap by_acknowledge (acknowledge_exactly s e i) ∙ acknowledge_agrees (any (has_id_d i) (model_of s).defunct) (shed_in (model_of s) (remove_d i (model_of s).defunct))
  step_agrees (ExpireDefunct now) ws =
      ap by_expiry (expire_exactly s e now)
      ∙ shed_agrees (any (lapsed now) (model_of s).defunct) (at_last_lem s.revision) (ids_of_entries (lapsed_of now (model_of s))) (shed_in (model_of s) (remove_all (lapsed_of now (model_of s)) (model_of s).defunct))
      (λ n. ap ids_of_entries (filter_none (lapsed now) (model_of s).defunct n))

-- of an accepted state whose arrays have their lengths
module _ (s : LockState) (la : length s.active ≡ 64) (ld : length s.defunct ≡ 128) (e : broken_rule s ≡ Ok tt) where
  pub exactly : (r : Request) (ws : List ℕ)
      → perform_on s r ws
      ≡ performed (outcome_in full (model_of s) (op_of r ws)) (removed_in full (model_of s) (op_of r ws)) (lapsed_in (model_of s) (op_of r ws)) (state_of (step full (model_of s) (op_of r ws)))
  exactly r ws = step_agrees s (sym (tidy_of_sound s la ld e).same) e r ws

  state_of_lem : (r : Request) (ws : List ℕ) → (perform_on s r ws).state ≡ state_of (step full (model_of s) (op_of r ws))
  state_of_lem r ws = ap (λ (p : Performed). p.state) (exactly r ws)

  -- its state alone, by the operations' own arguments
  pub steps_agree : (o : Op) → step_on s o ≡ state_of (step full (model_of s) o)
  unfolding step_on perform_on
  steps_agree (insert_active y) = state_of_lem (Insert y) []
  steps_agree (insert_vehicle y ws) = state_of_lem (InsertVehicle y) ws
  steps_agree (renew i f now has d) = state_of_lem (Renew (record { id = i; expires = f; now = now; metadata = d; given = has })) []
  steps_agree (delete i) = state_of_lem (Delete i) []
  steps_agree (begin_expiration i now) = state_of_lem (BeginExpiration (record { id = i; now = now })) []
  steps_agree (commit_replacement ws y by at) = state_of_lem (Replace (record { lock = y; broken = at; breaker = by })) ws
  steps_agree (acknowledge i) = state_of_lem (Acknowledge i) []
  steps_agree (expire_defunct now) = state_of_lem (ExpireDefunct now) []
