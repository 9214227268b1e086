-- "An applied operation moves the expected number on even if refused by 1..11 or 13; nothing else does."
--     moves_on       where the number of a step's event is 0 to 11 or 13, the next number is due
--     nothing_else   with any other number the spare stays as it is
--     perform_moves  so no operation that is applied answers 12 or 14
-- Assumes nothing.
use mathlib.Core.Path.{◌≡◌, refl, ap, subst}
use mathlib.Core.Bool.{Bool, true, cond}
use mathlib.Core.List.{List}
use Rattle.std.specs.Prelude.{Option, None, Some}
use Prim.Native.Nat.{ℕ}
use lib.Dec.{eqb, leb, ltb}
use Rattle.lists.specs.Tests.{Yes, No, non}
use Rattle.lists.specs.Lists.{any, find}
use Rattle.lists.proofs.Tests.{against, cond_both, cond_false}
use Rattle.ids.specs.declared.LockId.{LockId}
use Rattle.ids.specs.Words.{odd_words}
use Rattle.state.specs.declared.ActiveLock.{ActiveLock}
use Rattle.state.specs.declared.LockState.{LockState}
use Rattle.state.specs.Locks.{has_id, has_id_d, normal}
use Rattle.state.specs.Model.{Model, Limits, model_of, full, fits}
use Rattle.std.specs.Prelude.{Result, Ok, Err, ⊤}
use Rattle.rules.specs.Rules.{broken_rule}
use Rattle.lookups.specs.Reads.{on_sound}
use Rattle.operations.specs.declared.answers.Refusal.{Refusal}
use Rattle.operations.specs.declared.answers.Refusal.TheVariants.{DuplicateId, DuplicateScope, ActiveLockNotFound, ParentNotFound, ParentNotVehicle, ReplacementScopeConflict, CoverageConflict, RevisionOverflow, NotRootVehicle, BadChild, OtherOwner, NotCovered, Invariant, UnsoundState, NoRoom, BadList}
use Rattle.operations.specs.declared.answers.RenewalRefusal.{RenewalRefusal}
use Rattle.operations.specs.declared.answers.StateRefusal.{StateRefusal}
use Rattle.operations.specs.Answers.{Inserted, Renewed, Deleted, Expired, Replaced, Acknowledged, DefunctsExpired, is_done, refuse_if, and_then, paper_of, renewal_paper, deletion_paper, expiration_paper, acknowledgement_paper, expiry_paper}
use Rattle.operations.specs.Checks.{at_last_lem, check_list, check_room}
use Rattle.operations.specs.Insert.{judge_insert, insert_active_on}
use Rattle.operations.specs.Vehicle.{judge_vehicle, insert_vehicle_on}
use Rattle.operations.specs.Renew.{renewed_in, judge_found, judge_renew, settled_renew, renew_on}
use Rattle.operations.specs.Delete.{delete_found, delete_on, as_expired, expire_found, begin_expiration_on}
use Rattle.operations.specs.Replace.{judge_replace, commit_replacement_on}
use Rattle.operations.specs.Acknowledge.{told_acknowledge, acknowledged_to, acknowledge_on, lapsed, shed_to, expire_defunct_on}
use Rattle.promises.proofs.Answered.{foreign_if, insert_parts, vehicle_parts, replace_parts, insert_own_if, vehicle_own_if, replace_own_if}
use Rattle.promises.proofs.Closing.{insert_exactly, vehicle_exactly, replace_exactly}
use Rattle.records.specs.declared.requests.Request.{Request}
use Rattle.records.specs.declared.requests.Request.TheVariants.{Insert, InsertVehicle, Renew, Delete, BeginExpiration, Replace, Acknowledge, ExpireDefunct}
use Rattle.image.specs.declared.Spare.{Spare}
use Rattle.calls.specs.Calls.{perform_on, outcome_paper}
use Rattle.feed.specs.declared.events.Step.{Step}
use Rattle.records.specs.declared.frame.Unread.{Unread}
use Rattle.records.specs.declared.frame.Unread.TheVariants as U
use Rattle.feed.specs.declared.taking.Placed.{Placed}
use Rattle.feed.specs.Feed.{distance, after, Numbered, numbered, body_in, taken_at, act_on, turn_on, taken_on, step_on, event_paper}
use Rattle.feed.proofs.Words.{EvenAsked, asked_even}
use Rattle.feed.proofs.Stepping.{taken_frame}
use Rattle.feed.proofs.Turning.{act_due, step_comes}

-- 0 is done, "1..11 or 13" a refusal that counts
abbrev pub moves : ℕ → Bool
moves n = cond (leb n 11) true (eqb n 13)

abbrev pub number_of : Step → ℕ
number_of x = (event_paper x.told.event).number

-- ---- the judgements of insertions and replacement
own_moves : (a : Result ⊤ Refusal) → No (foreign_if true a) → Yes (moves (paper_of a).number)
unfolding paper_of
own_moves (Ok tt) f = refl
own_moves (Err (DuplicateId i)) f = refl
own_moves (Err DuplicateScope) f = refl
own_moves (Err (ActiveLockNotFound i)) f = refl
own_moves (Err (ParentNotFound i)) f = refl
own_moves (Err (ParentNotVehicle i)) f = refl
own_moves (Err ReplacementScopeConflict) f = refl
own_moves (Err (CoverageConflict i at)) f = refl
own_moves (Err RevisionOverflow) f = refl
own_moves (Err NotRootVehicle) f = refl
own_moves (Err (BadChild i)) f = refl
own_moves (Err (OtherOwner i j)) f = refl
own_moves (Err (NotCovered i j)) f = refl
own_moves (Err Invariant) f = refl
own_moves (Err (UnsoundState n)) f = absurd (against f refl)
own_moves (Err NoRoom) f = refl
own_moves (Err BadList) f = absurd (against f refl)

judge_moves : (k : Limits) (a : Result ⊤ Refusal) (n : Model) → No (foreign_if true a) → Yes (moves (paper_of (and_then a (check_room k n))).number)
unfolding and_then check_room refuse_if paper_of
judge_moves k a n f = cond_both P _ a (is_done a) (λ t. cond_both P (Err NoRoom) (Ok tt) (non (fits k n)) (λ u. refl) (λ u. refl)) (λ t. own_moves a f)
  where
    P : Result ⊤ Refusal → Type 0
    P r = Yes (moves (paper_of r).number)

list_moves : (ws : List ℕ) → No (odd_words ws) → No (foreign_if true (check_list ws))
unfolding check_list refuse_if
list_moves ws h = ap (foreign_if true) (cond_false _ _ _ h)

-- ---- each operation on a sound state
module _ (s : LockState) (e : broken_rule s ≡ Ok tt) where
  -- the arm of a sound state
  sound_arm : {A : Type 0} (P : A → Type 0) (u : ℕ → A) (a : A) → P a → P (on_sound s u a)
  unfolding on_sound
  sound_arm P u a h = rw e h

  insert_moves : (y : ActiveLock) → Yes (moves (paper_of (insert_active_on s y).told).number)
  unfolding paper_of
  insert_moves y =
      rw (insert_exactly s y e)
      (cond_both (λ (r : Inserted). Yes (moves (paper_of r.told).number)) _ _ (is_done (judge_insert full (model_of s) (normal y))) (λ t. refl)
      (λ t. rw (insert_parts (model_of s) full (normal y)) (judge_moves full _ _ (insert_own_if (model_of s) true (normal y)))))

  vehicle_moves : (y : ActiveLock) (ws : List ℕ) → No (odd_words ws) → Yes (moves (paper_of (insert_vehicle_on s y ws).told).number)
  unfolding paper_of
  vehicle_moves y ws h =
      rw (vehicle_exactly s y ws e)
      (cond_both (λ (r : Inserted). Yes (moves (paper_of r.told).number)) _ _ (is_done (judge_vehicle full (model_of s) (normal y) ws)) (λ t. refl)
      (λ t. rw (vehicle_parts (model_of s) full (normal y) ws) (judge_moves full _ _ (vehicle_own_if (model_of s) true (normal y) ws (list_moves ws h)))))

  replace_moves : (ws : List ℕ) (y : ActiveLock) (by at : ℕ) → No (odd_words ws) → Yes (moves (paper_of (commit_replacement_on s ws y by at).told.answer).number)
  unfolding paper_of
  replace_moves ws y by at h =
      rw (replace_exactly s ws y by at e)
      (cond_both (λ (r : Replaced). Yes (moves (paper_of r.told.answer).number)) _ _ (is_done (judge_replace full (model_of s) ws (normal y) by at)) (λ t. refl)
      (λ t. rw (replace_parts (model_of s) full ws (normal y) by at) (judge_moves full _ _ (replace_own_if (model_of s) true ws (normal y) (list_moves ws h)))))

  renew_moves : (i : LockId) (t now : ℕ) (has : Bool) (d : ℕ) → Yes (moves (renewal_paper (renew_on s i t now has d).told).number)
  unfolding renew_on judge_renew refuse_if renewal_paper
  renew_moves i t now has d = sound_arm (λ (r : Renewed). Yes (moves (renewal_paper r.told).number)) _ _ (go (find (has_id i) (model_of s).active))
    where
      P : Result ⊤ RenewalRefusal → Type 0
      P a = Yes (moves (renewal_paper (settled_renew a s (renewed_in (model_of s) i t has d)).told).number)

      go : (o : Option ActiveLock) → P (judge_found (model_of s) i t now o)
      go None = refl
      go (Some a) =
          cond_both P _ _ (leb a.expires now) (λ u. refl) (λ u.
          cond_both P _ _ (leb t a.expires) (λ u. refl) (λ u.
          cond_both P _ _ (at_last_lem s.revision) (λ u. refl) (λ u. refl)))

  delete_moves : (i : LockId) → Yes (moves (deletion_paper (delete_on s i).told.answer).number)
  unfolding delete_on delete_found deletion_paper
  delete_moves i = sound_arm P _ _ (go (find (has_id i) (model_of s).active))
    where
      P : Deleted → Type 0
      P r = Yes (moves (deletion_paper r.told.answer).number)

      go : (o : Option ActiveLock) → P (delete_found s i o)
      go None = refl
      go (Some r) = cond_both P _ _ (at_last_lem s.revision) (λ u. refl) (λ u. refl)

  expiration_moves : (i : LockId) (now : ℕ) → Yes (moves (expiration_paper (begin_expiration_on s i now).told.answer).number)
  unfolding begin_expiration_on expire_found delete_on delete_found expiration_paper
  expiration_moves i now = sound_arm P _ _ (go (find (has_id i) (model_of s).active))
    where
      P : Expired → Type 0
      P r = Yes (moves (expiration_paper r.told.answer).number)

      Q : Deleted → Type 0
      Q r = P (as_expired r)

      -- as a deletion
      gone : (o : Option ActiveLock) → Q (delete_found s i o)
      gone None = refl
      gone (Some r) = cond_both Q _ _ (at_last_lem s.revision) (λ u. refl) (λ u. refl)

      go : (o : Option ActiveLock) → P (expire_found s i now o)
      go None = refl
      go (Some r) = cond_both P _ _ (ltb now r.expires) (λ u. refl) (λ u. sound_arm Q _ _ (gone (find (has_id i) (model_of s).active)))

  acknowledge_moves : (i : LockId) → Yes (moves (acknowledgement_paper (acknowledge_on s i).told).number)
  unfolding acknowledge_on acknowledged_to told_acknowledge acknowledgement_paper
  acknowledge_moves i =
      sound_arm (λ (r : Acknowledged). Yes (moves (acknowledgement_paper r.told).number)) _ _
      (cond_both (λ (r : Acknowledged). Yes (moves (acknowledgement_paper r.told).number)) _ _ (any (has_id_d i) (model_of s).defunct)
      (λ u. cond_both P _ _ (at_last_lem s.revision) (λ u. refl) (λ u. refl)) (λ u. refl))
    where
      P : Result Bool StateRefusal → Type 0
      P a = Yes (moves (acknowledgement_paper a).number)

  expiry_moves : (now : ℕ) → Yes (moves (expiry_paper (expire_defunct_on s now).told.answer).number)
  unfolding expire_defunct_on shed_to expiry_paper
  expiry_moves now =
      sound_arm P _ _
      (cond_both P _ _ (any (lapsed now) (model_of s).defunct)
      (λ u. cond_both P _ _ (at_last_lem s.revision) (λ u. refl) (λ u. refl)) (λ u. refl))
    where
      P : DefunctsExpired → Type 0
      P r = Yes (moves (expiry_paper r.told.answer).number)

-- ---- a call with ids in pairs of words
pub perform_moves : (s : LockState) → broken_rule s ≡ Ok tt → (r : Request) (ws : List ℕ) → No (odd_words ws) → Yes (moves (outcome_paper (perform_on s r ws).outcome).number)
unfolding perform_on outcome_paper
perform_moves s e (Insert x) ws h = insert_moves s e x
perform_moves s e (InsertVehicle x) ws h = vehicle_moves s e x ws h
perform_moves s e (Renew r) ws h = renew_moves s e r.id r.expires r.now r.given r.metadata
perform_moves s e (Delete i) ws h = delete_moves s e i
perform_moves s e (BeginExpiration x) ws h = expiration_moves s e x.id x.now
perform_moves s e (Replace r) ws h = replace_moves s e ws r.lock r.breaker r.broken h
perform_moves s e (Acknowledge i) ws h = acknowledge_moves s e i
perform_moves s e (ExpireDefunct now) ws h = expiry_moves s e now

-- ---- any bytes: what was read moves the number on, or the spare stays as it is and the number is another
pub data Turn (sp : Spare) (x : Step) : Type 0 where
  moved : Yes (moves (number_of x)) → x.spare.expected ≡ after sp.expected → Turn sp x
  stayed : No (moves (number_of x)) → x.spare ≡ sp → Turn sp x

module _ (sp : Spare) (s : List ℕ) (at : ℕ) where
  turn_turn : broken_rule sp.state ≡ Ok tt → (n : ℕ) (x : Numbered) → No (odd_words x.list) → Turn sp (turn_on sp n x)
  unfolding turn_on act_on event_paper
  turn_turn e n x h =
      cond_both (Turn sp) _ _ (eqb (distance x.number sp.expected) 0) (λ t. moved (perform_moves sp.state e x.request x.list h) (act_due sp n x)) (λ t.
      cond_both (Turn sp) _ _ (leb (distance x.number sp.expected) 2147483647) (λ u. stayed refl refl) (λ u. stayed refl refl))

  taken_turn : broken_rule sp.state ≡ Ok tt → (t : Result Placed Unread) → taken_at s at ≡ t → Turn sp (taken_on sp s at t)
  unfolding event_paper
  taken_turn e (Err (U.Torn x)) g = stayed refl refl
  taken_turn e (Err (U.BadKind x)) g = stayed refl refl
  taken_turn e (Err (U.BadField x)) g = stayed refl refl
  taken_turn e (Ok p) g =
      let b = body_in s p.frame in
      turn_turn e p.frame.next (numbered p b) (subst (EvenAsked b) (taken_frame s at (Ok p) g).1 (asked_even p.frame.kind b))

  pub step_turn : Turn sp (step_on sp s at)
  unfolding event_paper
  step_turn = step_comes sp s at (Turn sp) (λ n. stayed refl refl) (λ e. taken_turn e (taken_at s at) refl)

  by_turn : (x : Step) → Turn sp x → (Yes (moves (number_of x)) → x.spare.expected ≡ after sp.expected) × (No (moves (number_of x)) → x.spare ≡ sp)
  by_turn x (moved t e) = ((λ u. e), (λ u. absurd (against u t)))
  by_turn x (stayed t e) = ((λ u. absurd (against t u)), (λ u. e))

  pub moves_on : Yes (moves (number_of (step_on sp s at))) → (step_on sp s at).spare.expected ≡ after sp.expected
  moves_on = (by_turn (step_on sp s at) step_turn).0

  pub nothing_else : No (moves (number_of (step_on sp s at))) → (step_on sp s at).spare ≡ sp
  nothing_else = (by_turn (step_on sp s at) step_turn).1
