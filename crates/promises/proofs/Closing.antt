-- In a sound state every operation's next state is sound again: insertions and replacement end with a check of it, which
-- never fires; the five others make none. So each operation comes to a refusal that leaves the state, or to exactly the done
-- result. A property of both is one of the operation.
--     .._exactly   on a sound state: the judgement's answer, the removed locks and the next state
-- Assumes nothing.
use mathlib.Core.Path.{◌≡◌, refl, sym, ◌∙◌}
use mathlib.Core.Bool.{Bool, true, false, cond}
use mathlib.Core.List.{List, []}
use Rattle.operations.specs.declared.answers.StateRefusal.TheVariants as state_refusal
use Rattle.operations.specs.declared.answers.DeletionRefusal.TheVariants as deletion
use Rattle.operations.specs.declared.answers.RenewalRefusal.TheVariants as renewal
use Rattle.std.specs.Prelude.{Option, None, Some}
use Prim.Native.Nat.{ℕ}
use lib.Dec.{ltb, eqb}
use Rattle.lists.specs.Tests.{non, Yes, No}
use Rattle.lists.specs.Lists.{any, find}
use Rattle.lists.proofs.Tests.{cond_both, cond_true}
use Rattle.ids.specs.declared.LockId.{LockId}
use Rattle.state.specs.declared.ActiveLock.{ActiveLock}
use Rattle.state.specs.declared.LockState.{LockState}
use Rattle.state.specs.Locks.{has_id, has_id_d, normal}
use Rattle.state.specs.Model.{Model, model_of, state_of, Limits, full, fits}
use Rattle.std.specs.Prelude.{Result, Ok, Err, ⊤}
use Rattle.rules.specs.declared.Unsound.{Unsound}
use Rattle.rules.specs.declared.Unsound.TheVariants.{Rule}
use Rattle.rules.specs.Rules.{broken_rule, sound}
use Rattle.rules.proofs.Sound.{sound_of, sound_state}
use Rattle.lookups.specs.Reads.{by_verdict, on_sound}
use Rattle.lookups.proofs.Verdicts.{on_sound_lem}
use Rattle.operations.specs.declared.answers.Refusal.{Refusal}
use Rattle.operations.specs.declared.answers.Refusal.TheVariants.{ActiveLockNotFound, RevisionOverflow, Invariant, UnsoundState, NoRoom}
use Rattle.operations.specs.declared.answers.RenewalRefusal.{RenewalRefusal}
use Rattle.operations.specs.declared.answers.DeletionRefusal.{DeletionRefusal}
use Rattle.operations.specs.declared.answers.StateRefusal.{StateRefusal}
use Rattle.operations.specs.declared.answers.Expiration.{Expiration}
use Rattle.operations.specs.declared.answers.Expiration.TheVariants.{Done, Stale, NotDue}
use Rattle.operations.specs.Answers.{Inserted}
use Rattle.operations.specs.Answers.{Replaced}
use Rattle.operations.specs.Answers.{Renewed}
use Rattle.operations.specs.Answers.{Deleted}
use Rattle.operations.specs.Answers.{Expired}
use Rattle.operations.specs.Answers.{Acknowledged}
use Rattle.operations.specs.Answers.{DefunctsExpired}
use Rattle.operations.specs.Answers.{is_done, paper_of, refuse_if, and_then}
use Rattle.operations.specs.Defuncts.{remove_d, remove_all}
use Rattle.operations.specs.Checks.{at_last_lem, check_room}
use Rattle.operations.specs.Insert.{inserted_in, judge_insert, inserted, closed_insert, settled_insert, insert_active_with, insert_active_on}
use Rattle.operations.specs.Vehicle.{vehicle_in, judge_vehicle, insert_vehicle_with, insert_vehicle_on}
use Rattle.operations.specs.Renew.{renewed_in, judge_renew, renewed, settled_renew, renew_on}
use Rattle.operations.specs.Delete.{tree_out, without_tree, deleted, delete_found, delete_on, expired, as_expiration, as_expired, expire_found, begin_expiration_on}
use Rattle.operations.specs.Replace.{cut_of, replaced_in, judge_replace, replaced, closed_replace, settled_replace, commit_replacement_with, commit_replacement_on}
use Rattle.operations.specs.Acknowledge.{shed_in, acknowledged, acknowledged_to, acknowledge_on, lapsed, lapsed_of, ids_of_entries, shed, shed_to, expire_defunct_on}
use Rattle.promises.proofs.Passed.{is_done_lem}
use Rattle.promises.proofs.Keeps.{insert_keeps, vehicle_keeps, renew_keeps, delete_keeps, replace_keeps, acknowledge_keeps, expire_keeps}
use Rattle.promises.proofs.Answered.{differ, foreign, insert_parts, vehicle_parts, replace_parts, insert_own, vehicle_own, replace_own}
use Rattle.promises.proofs.Every.{normal_neat}

-- ---- an answer to a state, by its verdict
pub by_verdict_lem : {A : Type 0} (P : A → Type 0) (s : LockState) (u : ℕ → A) (a : A) → ((n : ℕ) → P (u n)) → (broken_rule s ≡ Ok tt → P a) → P (on_sound s u a)
unfolding on_sound
by_verdict_lem {A} P s u a f g = go (broken_rule s) refl
  where
    go : (v : Result ⊤ Unsound) → broken_rule s ≡ v → P (by_verdict v u a)
    go (Ok tt) e = g e
    go (Err (Rule n)) e = f n

-- ---- no judgement is the closing check's answer
judge_not : (k : Limits) (a : Result ⊤ Refusal) (n : Model) → No (foreign a) → and_then a (check_room k n) ≡ Err Invariant → ⊥
unfolding and_then check_room refuse_if paper_of
judge_not k a n f =
    cond_both (λ (r : Result ⊤ Refusal). r ≡ Err Invariant → ⊥) _ a (is_done a)
    (λ t. cond_both (λ (r : Result ⊤ Refusal). r ≡ Err Invariant → ⊥) (Err NoRoom) (Ok tt) (non (fits k n)) (λ u. differ (λ r. eqb (paper_of r).number 11) refl refl) (λ u. differ foreign refl refl))
    (λ t. differ foreign f refl)

-- ---- what each operation comes to: a refusal other than Invariant that leaves the state, or, from a sound state, the done
-- result, whose state is sound
-- an insertion's or a replacement's judgement is followed by exactly the done result or the refusal
settled : {A : Type 0} (k : Limits) (a : Result ⊤ Refusal) (m : Model) (d e r : A) → (a ≡ Ok tt → Yes (sound k m))
    → cond (is_done a) (cond (sound k m) d e) r ≡ cond (is_done a) d r
settled {A} k a m d e r keep = go (is_done a) refl
  where
    go : (b : Bool) → is_done a ≡ b → cond b (cond (sound k m) d e) r ≡ cond b d r
    go true q = cond_true (sound k m) d e (keep (is_done_lem a q))
    go false q = refl

-- under any limits that hold the state
module _ (k : Limits) (s : LockState) (e : broken_rule s ≡ Ok tt) (t : Yes (sound k (model_of s))) where
  pub insert_with : (y : ActiveLock)
      → insert_active_with k s y
      ≡ cond (is_done (judge_insert k (model_of s) (normal y))) (inserted (Ok tt) (state_of (inserted_in (model_of s) (normal y)))) (inserted (judge_insert k (model_of s) (normal y)) s)
  unfolding insert_active_with settled_insert closed_insert
  insert_with y = sym (on_sound_lem s _ _ (broken_rule s) refl e) ∙ settled k _ _ _ _ _ (insert_keeps k (model_of s) (normal y) (normal_neat y) t)

  pub vehicle_with : (y : ActiveLock) (ws : List ℕ)
      → insert_vehicle_with k s y ws
      ≡ cond (is_done (judge_vehicle k (model_of s) (normal y) ws)) (inserted (Ok tt) (state_of (vehicle_in (model_of s) (normal y) ws))) (inserted (judge_vehicle k (model_of s) (normal y) ws) s)
  unfolding insert_vehicle_with settled_insert closed_insert
  vehicle_with y ws = sym (on_sound_lem s _ _ (broken_rule s) refl e) ∙ settled k _ _ _ _ _ (vehicle_keeps k (model_of s) (normal y) ws (normal_neat y) t)

  pub replace_with : (ws : List ℕ) (y : ActiveLock) (by at : ℕ)
      → commit_replacement_with k s ws y by at
      ≡ cond (is_done (judge_replace k (model_of s) ws (normal y) by at)) (replaced (Ok tt) (cut_of (model_of s) ws).gone (state_of (replaced_in (model_of s) ws (normal y) by at)))
      (replaced (judge_replace k (model_of s) ws (normal y) by at) [] s)
  unfolding commit_replacement_with settled_replace closed_replace
  replace_with ws y by at = sym (on_sound_lem s _ _ (broken_rule s) refl e) ∙ settled k _ _ _ _ _ (replace_keeps k (model_of s) ws (normal y) by at (normal_neat y) t)

-- and at 64 and 128
pub insert_exactly : (s : LockState) (y : ActiveLock) → broken_rule s ≡ Ok tt
    → insert_active_on s y
    ≡ cond (is_done (judge_insert full (model_of s) (normal y))) (inserted (Ok tt) (state_of (inserted_in (model_of s) (normal y)))) (inserted (judge_insert full (model_of s) (normal y)) s)
unfolding insert_active_on
insert_exactly s y e = insert_with full s e (sound_of s e) y

pub vehicle_exactly : (s : LockState) (y : ActiveLock) (ws : List ℕ) → broken_rule s ≡ Ok tt
    → insert_vehicle_on s y ws
    ≡ cond (is_done (judge_vehicle full (model_of s) (normal y) ws)) (inserted (Ok tt) (state_of (vehicle_in (model_of s) (normal y) ws))) (inserted (judge_vehicle full (model_of s) (normal y) ws) s)
unfolding insert_vehicle_on
vehicle_exactly s y ws e = vehicle_with full s e (sound_of s e) y ws

pub replace_exactly : (s : LockState) (ws : List ℕ) (y : ActiveLock) (by at : ℕ) → broken_rule s ≡ Ok tt
    → commit_replacement_on s ws y by at
    ≡ cond (is_done (judge_replace full (model_of s) ws (normal y) by at)) (replaced (Ok tt) (cut_of (model_of s) ws).gone (state_of (replaced_in (model_of s) ws (normal y) by at)))
    (replaced (judge_replace full (model_of s) ws (normal y) by at) [] s)
unfolding commit_replacement_on
replace_exactly s ws y by at e = replace_with full s e (sound_of s e) ws y by at

-- the five that make no closing check: what stands after the test at entry
module _ (s : LockState) (e : broken_rule s ≡ Ok tt) where
  pub renew_exactly : (i : LockId) (t now : ℕ) (has : Bool) (d : ℕ)
      → renew_on s i t now has d ≡ settled_renew (judge_renew (model_of s) i t now) s (renewed_in (model_of s) i t has d)
  unfolding renew_on
  renew_exactly i t now has d = sym (on_sound_lem s _ _ (broken_rule s) refl e)

  pub delete_exactly : (i : LockId) → delete_on s i ≡ delete_found s i (find (has_id i) (model_of s).active)
  unfolding delete_on
  delete_exactly i = sym (on_sound_lem s _ _ (broken_rule s) refl e)

  pub expiration_exactly : (i : LockId) (now : ℕ) → begin_expiration_on s i now ≡ expire_found s i now (find (has_id i) (model_of s).active)
  unfolding begin_expiration_on
  expiration_exactly i now = sym (on_sound_lem s _ _ (broken_rule s) refl e)

  pub acknowledge_exactly : (i : LockId)
      → acknowledge_on s i
      ≡ cond (any (has_id_d i) (model_of s).defunct) (acknowledged_to s (state_of (shed_in (model_of s) (remove_d i (model_of s).defunct)))) (acknowledged (Ok false) s)
  unfolding acknowledge_on
  acknowledge_exactly i = sym (on_sound_lem s _ _ (broken_rule s) refl e)

  pub expire_exactly : (now : ℕ)
      → expire_defunct_on s now
      ≡ cond (any (lapsed now) (model_of s).defunct)
      (shed_to s (ids_of_entries (lapsed_of now (model_of s))) (state_of (shed_in (model_of s) (remove_all (lapsed_of now (model_of s)) (model_of s).defunct))))
      (shed (Ok tt) [] s)
  unfolding expire_defunct_on
  expire_exactly now = sym (on_sound_lem s _ _ (broken_rule s) refl e)

-- and so what holds of both holds of the operation
judged : {A : Type 0} (P : A → Type 0) (a : Result ⊤ Refusal) (m : Model) (d e r : A) → (a ≡ Ok tt → Yes (sound full m))
    → (a ≡ Ok tt → broken_rule (state_of m) ≡ Ok tt → P d) → P r → P (cond (is_done a) (cond (sound full m) d e) r)
judged P a m d e r keep f g = cond_both P _ r (is_done a) (λ t. let q = is_done_lem a t in rw (cond_true (sound full m) d e (keep q)) (f q (sound_state m (keep q)))) (λ t. g)

unsound_not : (n : ℕ) → ◌≡◌ {A = Result ⊤ Refusal} (Err (UnsoundState n)) (Err Invariant) → ⊥
unfolding paper_of
unsound_not n = differ (λ r. eqb (paper_of r).number 11) refl refl

pub insert_active_comes : (P : Inserted → Type 0) (s : LockState) (y : ActiveLock) → ((b : Result ⊤ Refusal) → (b ≡ Err Invariant → ⊥) → P (inserted b s))
    → (judge_insert full (model_of s) (normal y) ≡ Ok tt → broken_rule (state_of (inserted_in (model_of s) (normal y))) ≡ Ok tt → P (inserted (Ok tt) (state_of (inserted_in (model_of s) (normal y)))))
    → P (insert_active_on s y)
unfolding insert_active_on insert_active_with settled_insert closed_insert
insert_active_comes P s y refused through =
    by_verdict_lem P s _ _ (λ n. refused (Err (UnsoundState n)) (unsound_not n)) (λ e.
    judged P _ _ _ _ _ (insert_keeps full (model_of s) (normal y) (normal_neat y) (sound_of s e)) through
    (refused _ (λ q. judge_not full _ _ (insert_own (model_of s) (normal y)) (sym (insert_parts (model_of s) full (normal y)) ∙ q))))

pub insert_vehicle_comes : (P : Inserted → Type 0) (s : LockState) (y : ActiveLock) (ws : List ℕ) → ((b : Result ⊤ Refusal) → (b ≡ Err Invariant → ⊥) → P (inserted b s))
    → (judge_vehicle full (model_of s) (normal y) ws ≡ Ok tt → broken_rule (state_of (vehicle_in (model_of s) (normal y) ws)) ≡ Ok tt → P (inserted (Ok tt) (state_of (vehicle_in (model_of s) (normal y) ws))))
    → P (insert_vehicle_on s y ws)
unfolding insert_vehicle_on insert_vehicle_with settled_insert closed_insert
insert_vehicle_comes P s y ws refused through =
    by_verdict_lem P s _ _ (λ n. refused (Err (UnsoundState n)) (unsound_not n)) (λ e.
    judged P _ _ _ _ _ (vehicle_keeps full (model_of s) (normal y) ws (normal_neat y) (sound_of s e)) through
    (refused _ (λ q. judge_not full _ _ (vehicle_own (model_of s) (normal y) ws) (sym (vehicle_parts (model_of s) full (normal y) ws) ∙ q))))

pub replace_comes : (P : Replaced → Type 0) (s : LockState) (ws : List ℕ) (y : ActiveLock) (by at : ℕ) → ((b : Result ⊤ Refusal) → (b ≡ Err Invariant → ⊥) → P (replaced b [] s))
    → (judge_replace full (model_of s) ws (normal y) by at ≡ Ok tt → broken_rule (state_of (replaced_in (model_of s) ws (normal y) by at)) ≡ Ok tt
    → P (replaced (Ok tt) (cut_of (model_of s) ws).gone (state_of (replaced_in (model_of s) ws (normal y) by at))))
    → P (commit_replacement_on s ws y by at)
unfolding commit_replacement_on commit_replacement_with settled_replace closed_replace
replace_comes P s ws y by at refused through =
    by_verdict_lem P s _ _ (λ n. refused (Err (UnsoundState n)) (unsound_not n)) (λ e.
    judged P _ _ _ _ _ (replace_keeps full (model_of s) ws (normal y) by at (normal_neat y) (sound_of s e)) through
    (refused _ (λ q. judge_not full _ _ (replace_own (model_of s) ws (normal y)) (sym (replace_parts (model_of s) full ws (normal y) by at) ∙ q))))

-- ---- the five that make no closing check (C-21): their next state is sound all the same
-- renew
settled_renew_lem : (P : Renewed → Type 0) (s : LockState) (m : Model) (a : Result ⊤ RenewalRefusal) → P (renewed a s) → (a ≡ Ok tt → P (renewed (Ok tt) (state_of m))) → P (settled_renew a s m)
settled_renew_lem P s m (Ok tt) f g = g refl
settled_renew_lem P s m (Err why) f g = f

pub renew_comes : (P : Renewed → Type 0) (s : LockState) (i : LockId) (e now : ℕ) (has : Bool) (d : ℕ) → ((b : Result ⊤ RenewalRefusal) → P (renewed b s))
    → (judge_renew (model_of s) i e now ≡ Ok tt → broken_rule (state_of (renewed_in (model_of s) i e has d)) ≡ Ok tt → P (renewed (Ok tt) (state_of (renewed_in (model_of s) i e has d))))
    → P (renew_on s i e now has d)
unfolding renew_on
renew_comes P s i e now has d refused through =
    by_verdict_lem P s (λ n. renewed (Err (renewal.UnsoundState n)) s) _ (λ n. refused (Err (renewal.UnsoundState n))) (λ v.
    settled_renew_lem P s (renewed_in (model_of s) i e has d) (judge_renew (model_of s) i e now) (refused _)
    (λ q. through q (sound_state _ (renew_keeps (model_of s) i e has d full (sound_of s v)))))

-- delete
pub delete_comes : (P : Deleted → Type 0) (s : LockState) (i : LockId) → ((b : Result ⊤ DeletionRefusal) → P (deleted b [] s))
    → ((r : ActiveLock) → find (has_id i) (model_of s).active ≡ Some r → broken_rule (state_of (without_tree (model_of s) r)) ≡ Ok tt
    → P (deleted (Ok tt) (tree_out (model_of s) r).gone (state_of (without_tree (model_of s) r))))
    → P (delete_on s i)
unfolding delete_on delete_found
delete_comes P s i refused through =
    by_verdict_lem P s (λ n. deleted (Err (deletion.UnsoundState n)) [] s) _ (λ n. refused (Err (deletion.UnsoundState n))) (λ v.
    go (sound_of s v) (find (has_id i) (model_of s).active) refl)
  where
    go : Yes (sound full (model_of s)) → (o : Option ActiveLock) → find (has_id i) (model_of s).active ≡ o → P (delete_found s i o)
    go t None q = refused (Err (deletion.ActiveLockNotFound i))
    go t (Some r) q =
        cond_both P _ _ (at_last_lem s.revision) (λ u. refused (Err deletion.RevisionOverflow)) (λ u.
        through r q (sound_state _ (delete_keeps full (model_of s) r t)))

-- begin_expiration: "else as delete"
pub expiration_comes : (P : Expired → Type 0) (s : LockState) (i : LockId) (now : ℕ) → ((b : Result Expiration StateRefusal) → P (expired b [] s))
    → ((r : ActiveLock) → find (has_id i) (model_of s).active ≡ Some r → broken_rule (state_of (without_tree (model_of s) r)) ≡ Ok tt
    → P (expired (Ok Done) (tree_out (model_of s) r).gone (state_of (without_tree (model_of s) r))))
    → P (begin_expiration_on s i now)
unfolding begin_expiration_on expire_found
expiration_comes P s i now refused through =
    by_verdict_lem P s (λ n. expired (Err (state_refusal.UnsoundState n)) [] s) _ (λ n. refused (Err (state_refusal.UnsoundState n))) (λ v.
    go (find (has_id i) (model_of s).active))
  where
    go : (o : Option ActiveLock) → P (expire_found s i now o)
    go None = refused (Ok Stale)
    go (Some r) =
        cond_both P _ _ (ltb now r.expires) (λ u. refused (Ok (NotDue r.expires))) (λ u.
        delete_comes (λ (d : Deleted). P (as_expired d)) s i (λ b. refused (as_expiration b)) through)

-- acknowledge_defunct, expire_defunct: the entries are gone at the last revision too
pub acknowledge_comes : (P : Acknowledged → Type 0) (s : LockState) (i : LockId) → ((b : Result Bool StateRefusal) → P (acknowledged b s))
    → ((b : Result Bool StateRefusal) → broken_rule (state_of (shed_in (model_of s) (remove_d i (model_of s).defunct))) ≡ Ok tt
    → P (acknowledged b (state_of (shed_in (model_of s) (remove_d i (model_of s).defunct)))))
    → P (acknowledge_on s i)
unfolding acknowledge_on acknowledged_to
acknowledge_comes P s i refused through =
    by_verdict_lem P s (λ n. acknowledged (Err (state_refusal.UnsoundState n)) s) _ (λ n. refused (Err (state_refusal.UnsoundState n))) (λ v.
    cond_both P _ _ (any (has_id_d i) (model_of s).defunct) (λ u. through _ (sound_state _ (acknowledge_keeps full (model_of s) i (sound_of s v)))) (λ u. refused (Ok false)))

pub expire_defunct_comes : (P : DefunctsExpired → Type 0) (s : LockState) (now : ℕ) → ((b : Result ⊤ StateRefusal) → P (shed b [] s))
    → ((b : Result ⊤ StateRefusal) (l : List LockId) → broken_rule (state_of (shed_in (model_of s) (remove_all (lapsed_of now (model_of s)) (model_of s).defunct))) ≡ Ok tt
    → P (shed b l (state_of (shed_in (model_of s) (remove_all (lapsed_of now (model_of s)) (model_of s).defunct)))))
    → P (expire_defunct_on s now)
unfolding expire_defunct_on shed_to
expire_defunct_comes P s now refused through =
    by_verdict_lem P s (λ n. shed (Err (state_refusal.UnsoundState n)) [] s) _ (λ n. refused (Err (state_refusal.UnsoundState n))) (λ v.
    let g = sound_state _ (expire_keeps full (model_of s) (lapsed_of now (model_of s)) (sound_of s v)) in
    cond_both P _ _ (any (lapsed now) (model_of s).defunct) (λ u.
    cond_both P _ _ (at_last_lem s.revision) (λ u. through (Err state_refusal.RevisionOverflow) [] g) (λ u. through (Ok tt) (ids_of_entries (lapsed_of now (model_of s))) g))
    (λ u. refused (Ok tt)))
