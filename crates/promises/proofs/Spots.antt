-- 02, C-13: what 7 tells. It is told of the calls it was told of before, with the id of the lock in the way, and where the
-- two meet: at the lowest ECU that both cover, or at none as `shared` says. Of each operation, and of the one call.
-- Assumes nothing.
use Rattle.std.specs.Prelude.{true, false}
use mathlib.Core.Path.{◌≡◌, refl, sym, subst, ap, ◌∙◌}
use mathlib.Core.Bool.{Bool, cond, false≢true}
use mathlib.Core.List.{List, [], ◌∷◌}
use Rattle.operations.specs.declared.answers.StateRefusal.TheVariants as state_refusal
use Rattle.operations.specs.declared.answers.DeletionRefusal.TheVariants as deletion
use Rattle.operations.specs.declared.answers.RenewalRefusal.TheVariants as renewal
use Rattle.std.specs.Prelude.{Option, None, Some}
use Rattle.lists.proofs.Options.{None_ne_Some}
use Prim.Native.Nat.{ℕ, ◌<◌}
use native.Mathlib.Omega.{arith}
use lib.Dec.{eqb}
use borrow.Author.Tests.{eq-eqb}
use Rattle.lists.specs.Tests.{◌and◌, ◌or◌, Yes, No}
use Rattle.lists.specs.Lists.{find, filter, Mem}
use Rattle.lists.specs.Papers.{Paper}
use Rattle.lists.proofs.Tests.{against, cond_both}
use Rattle.lists.proofs.Lists.{find→}
use Rattle.ids.specs.Words.{ascending_ids}
use Rattle.std.specs.Prelude.{Result, Ok, Err, ⊤}
use Rattle.coverage.specs.Coverage.{covers, spot_of, is_met_at_none, is_empty}
use Rattle.coverage.proofs.Shared.{shared_spot, shared_in, shared_lowest, shared_none}
use Rattle.state.specs.declared.ActiveLock.{ActiveLock}
use Rattle.state.specs.declared.LockState.{LockState}
use Rattle.state.specs.Locks.{normal}
use Rattle.state.specs.Model.{Model, model_of, state_of, Limits, full}
use Rattle.rules.specs.Rules.{broken_rule, sound}
use Rattle.rules.proofs.Sound.{sound_of}
use Rattle.lookups.specs.Reads.{on_sound}
use Rattle.operations.specs.declared.answers.Refusal.{Refusal}
use Rattle.operations.specs.declared.answers.Refusal.TheVariants.{ActiveLockNotFound, RevisionOverflow, Invariant, UnsoundState}
use Rattle.operations.specs.declared.answers.RenewalRefusal.{RenewalRefusal}
use Rattle.operations.specs.declared.answers.DeletionRefusal.{DeletionRefusal}
use Rattle.operations.specs.declared.answers.StateRefusal.{StateRefusal}
use Rattle.operations.specs.declared.answers.Expiration.{Expiration}
use Rattle.operations.specs.declared.answers.Expiration.TheVariants.{Done, Stale, NotDue}
use Rattle.operations.specs.Answers.{Inserted}
use Rattle.operations.specs.Answers.{Replaced}
use Rattle.operations.specs.Answers.{paper_of, renewal_paper, deletion_paper, expiration_paper, acknowledgement_paper, expiry_paper, is_done, refuse_if, and_then, first_refusal}
use Rattle.operations.specs.Checks.{check_list, check_id, check_scope, check_parent_active, check_parent_vehicle, check_parent_owner, check_parent_cover, conflicts, conflict_with, check_conflict, check_clear, check_revision, check_room, check_root, check_active, check_free, check_listed, check_owner, check_cover, check_child, check_holder}
use Rattle.operations.specs.Insert.{inserted_in, judge_insert, inserted, closed_insert, settled_insert, insert_active_with, insert_active_on}
use Rattle.operations.specs.Vehicle.{vehicle_in, judge_vehicle, insert_vehicle_with, insert_vehicle_on}
use Rattle.operations.specs.Trees.{is_listed}
use Rattle.operations.specs.Replace.{orphan, cut_of, replaced_in, judge_replace, replaced, closed_replace, settled_replace, commit_replacement_with, commit_replacement_on}
use Rattle.operations.proofs.Chains.{conflicts_overlap}
use Rattle.operations.specs.Renew.{renew_on}
use Rattle.operations.specs.Delete.{delete_on, begin_expiration_on}
use Rattle.operations.specs.Acknowledge.{acknowledge_on, expire_defunct_on}
use Rattle.records.specs.declared.requests.Request.{Request}
use Rattle.records.specs.declared.requests.Request.TheVariants.{Insert, InsertVehicle, Renew, Delete, BeginExpiration, Replace, Acknowledge, ExpireDefunct}
use Rattle.calls.specs.Calls.{perform_on, outcome_paper}
use Rattle.promises.specs.Spots.{told_before, without_spot, placing, insert_before7, replace_before7, Conflict, InConflict, inserting, replacing}
use Rattle.promises.proofs.Core.{stands_of}
use Rattle.promises.proofs.Removal.{cut_roots}
use Rattle.promises.proofs.Answered.{then_assoc}
use Rattle.promises.proofs.Closing.{by_verdict_lem, insert_exactly, replace_exactly}

-- ---- "Which calls are refused doesn't change": number and id are those of before
pub refused_as_before : (l : List ActiveLock) (x : ActiveLock) → without_spot (paper_of (check_clear l x)) ≡ told_before (find (conflicts x) l)
unfolding check_clear paper_of
refused_as_before l x = go (find (conflicts x) l)
  where
    go : (o : Option ActiveLock) → without_spot (paper_of (check_conflict x o)) ≡ told_before o
    go None = refl
    go (Some a) = refl

-- ---- what it tells
module _ (l : List ActiveLock) (x : ActiveLock) (p : Paper) (c : Conflict l x p) where
  -- the ECU is covered by both locks, and no lower one is
  pub both_cover : (e : ℕ) → c.spot ≡ Some e → (e < 256) × Yes (covers c.lock.lock.coverage e) × Yes (covers x.lock.coverage e)
  both_cover e q = shared_in c.lock.lock.coverage x.lock.coverage e (c.meeting ∙ ap Some q)

  pub none_lower : (e : ℕ) → c.spot ≡ Some e → (f : ℕ) → f < e → Yes (covers c.lock.lock.coverage f) → Yes (covers x.lock.coverage f) → ⊥
  none_lower e q = shared_lowest c.lock.lock.coverage x.lock.coverage e (c.meeting ∙ ap Some q)

  -- without an ECU: two whole vehicles, or the whole vehicle and the empty set
  pub none_where : c.spot ≡ None → let a = c.lock.lock.coverage in let b = x.lock.coverage in Yes (a.whole and b.whole or a.whole and is_empty b or is_empty a and b.whole)
  none_where q = sym (shared_none c.lock.lock.coverage x.lock.coverage) ∙ ap is_met_at_none (c.meeting ∙ ap Some q)

-- ---- an answer that, if it is 7, tells a conflict
abbrev is_seven : Result ⊤ Refusal → Bool
is_seven r = eqb (paper_of r).number 7

Tells : List ActiveLock → ActiveLock → Result ⊤ Refusal → Type 0
Tells l x r = Yes (is_seven r) → Conflict l x (paper_of r)

module _ (l : List ActiveLock) (x : ActiveLock) where
  others : (r : Result ⊤ Refusal) → No (is_seven r) → Tells l x r
  unfolding Tells
  others r f t = absurd (against f t)

  if_tells : (c : Bool) (a b : Result ⊤ Refusal) → Tells l x a → Tells l x b → Tells l x (cond c a b)
  if_tells c a b f g = cond_both (Tells l x) a b c (λ t. f) (λ t. g)

  then_tells : (a b : Result ⊤ Refusal) → Tells l x a → Tells l x b → Tells l x (and_then a b)
  unfolding and_then
  then_tells a b f g = if_tells (is_done a) b a g f

  -- a check that refuses by another number
  plain : (c : Bool) (a : Result ⊤ Refusal) → No (is_seven a) → Tells l x (refuse_if c a (Ok tt))
  unfolding refuse_if paper_of
  plain c a f = if_tells c a (Ok tt) (others a f) (others (Ok tt) refl)

  first_tells : {A : Type 0} (c : A → Result ⊤ Refusal) → ((a : A) → Tells l x (c a)) → (elements : List A) → Tells l x (first_refusal c elements)
  unfolding paper_of
  first_tells c f [] = others (Ok tt) refl
  first_tells c f (a ∷ rest) = then_tells _ _ (f a) (first_tells c f rest)

  clear_tells : Tells l x (check_clear l x)
  unfolding check_clear Tells paper_of
  clear_tells = go (find (conflicts x) l) refl
    where
      go : (o : Option ActiveLock) → find (conflicts x) l ≡ o → Yes (is_seven (check_conflict x o)) → Conflict l x (paper_of (check_conflict x o))
      go None e t = absurd (false≢true t)
      go (Some a) e t =
          record { lock = a; spot = spot_of a.lock.coverage x.lock.coverage; found = e; meeting = shared_spot a.lock.coverage x.lock.coverage (conflicts_overlap x a (find→ (conflicts x) l e).1); told = refl }

  placing_tells : Tells l x (placing l x)
  unfolding check_scope check_parent_active check_parent_vehicle check_parent_owner check_parent_cover paper_of
  placing_tells = then_tells _ _ (plain _ _ refl) (then_tells _ _ (plain _ _ refl) (then_tells _ _ (plain _ _ refl) (then_tells _ _ (plain _ _ refl) (plain _ _ refl))))

-- ---- each judgement: the checks before 7, 7, and those after it
insert_split : (k : Limits) (m : Model) (x : ActiveLock)
    → judge_insert k m x ≡ and_then (and_then (insert_before7 m x) (check_clear m.active x)) (and_then (check_revision m.revision) (check_room k (inserted_in m x)))
unfolding judge_insert
insert_split k m x = simp then_assoc

replace_split : (k : Limits) (m : Model) (ws : List ℕ) (x : ActiveLock) (by at : ℕ)
    → judge_replace k m ws x by at
    ≡ and_then (and_then (replace_before7 m ws x) (check_clear (cut_of m ws).kept x))
    (and_then (check_revision m.revision) (and_then (first_refusal (check_cover x) (filter (orphan x) (cut_of m ws).kept)) (check_room k (replaced_in m ws x by at))))
unfolding judge_replace
replace_split k m ws x by at = simp then_assoc

module _ (k : Limits) (m : Model) (x : ActiveLock) where
  insert_tells : Tells m.active x (judge_insert k m x)
  unfolding check_id check_revision check_room paper_of
  insert_tells =
      let l = m.active in
      subst (Tells l x) (sym (insert_split k m x))
      (then_tells l x _ _ (then_tells l x _ _ (then_tells l x _ _ (plain l x _ _ refl) (placing_tells l x)) (clear_tells l x)) (then_tells l x _ _ (plain l x _ _ refl) (plain l x _ _ refl)))

  vehicle_tells : (ws : List ℕ) → Tells [] x (judge_vehicle k m x ws)
  unfolding judge_vehicle check_list check_root check_listed check_active check_free check_id check_scope check_revision check_child check_owner check_cover check_room paper_of
  vehicle_tells ws =
      then_tells [] x _ _ (plain [] x _ _ refl)
      (then_tells [] x _ _ (plain [] x _ _ refl)
      (then_tells [] x _ _ (first_tells [] x (check_listed m.active) (λ i. then_tells [] x _ _ (plain [] x _ _ refl) (plain [] x _ _ refl)) (ascending_ids ws))
      (then_tells [] x _ _ (plain [] x _ _ refl)
      (then_tells [] x _ _ (plain [] x _ _ refl)
      (then_tells [] x _ _ (plain [] x _ _ refl)
      (then_tells [] x _ _ (first_tells [] x (check_child x) (λ a. then_tells [] x _ _ (plain [] x _ _ refl) (plain [] x _ _ refl)) (filter (is_listed ws) m.active))
      (plain [] x _ _ refl)))))))

  replace_tells : (ws : List ℕ) (by at : ℕ) → Tells (cut_of m ws).kept x (judge_replace k m ws x by at)
  unfolding check_list check_active check_id check_holder check_revision check_cover check_room paper_of
  replace_tells ws by at =
      let l = (cut_of m ws).kept in
      subst (Tells l x) (sym (replace_split k m ws x by at))
      (then_tells l x _ _
      (then_tells l x _ _
      (then_tells l x _ _ (plain l x _ _ refl)
      (then_tells l x _ _ (first_tells l x (check_active m.active) (λ i. plain l x _ _ refl) (ascending_ids ws))
      (then_tells l x _ _ (plain l x _ _ refl) (then_tells l x _ _ (plain l x _ _ refl) (placing_tells l x)))))
      (clear_tells l x))
      (then_tells l x _ _ (plain l x _ _ refl)
      (then_tells l x _ _ (first_tells l x (check_cover x) (λ a. plain l x _ _ refl) (filter (orphan x) (cut_of m ws).kept)) (plain l x _ _ refl))))

-- ---- each operation, on any state: where its number is 7
-- tested, judged, and closed by a check: each of the other answers is another number's
settled_tells : {A : Type 0} (told : A → Result ⊤ Refusal) (l : List ActiveLock) (x : ActiveLock) (s : LockState) (u : ℕ → A) (c d : Bool) (done unsound refused : A)
    → ((n : ℕ) → No (is_seven (told (u n)))) → No (is_seven (told done)) → No (is_seven (told unsound)) → Tells l x (told refused) → Tells l x (told (on_sound s u (cond c (cond d done unsound) refused)))
settled_tells told l x s u c d done unsound refused f g h t =
    by_verdict_lem (λ r. Tells l x (told r)) s u (cond c (cond d done unsound) refused) (λ n. others l x (told (u n)) (f n))
    (λ e. cond_both (λ r. Tells l x (told r)) (cond d done unsound) refused c (λ p. cond_both (λ r. Tells l x (told r)) done unsound d (λ q. others l x (told done) g) (λ q. others l x (told unsound) h)) (λ p. t))

module _ (l : List ActiveLock) (x : ActiveLock) (s : LockState) (a : Result ⊤ Refusal) (n : Model) (t : Tells l x a) where
  inserted_tells : Tells l x (on_sound s (λ rule. inserted (Err (UnsoundState rule)) s) (settled_insert full a s n)).told
  unfolding settled_insert closed_insert paper_of
  inserted_tells =
      settled_tells (λ (r : Inserted). r.told) l x s (λ rule. inserted (Err (UnsoundState rule)) s) (is_done a) (sound full n) (inserted (Ok tt) (state_of n)) (inserted (Err Invariant) s) (inserted a s) (λ rule. refl) refl refl t

  replaced_tells : (gone : List ActiveLock) → Tells l x (on_sound s (λ rule. replaced (Err (UnsoundState rule)) [] s) (settled_replace full a s gone n)).told.answer
  unfolding settled_replace closed_replace paper_of
  replaced_tells gone =
      settled_tells (λ (r : Replaced). r.told.answer) l x s (λ rule. replaced (Err (UnsoundState rule)) [] s) (is_done a) (sound full n) (replaced (Ok tt) gone (state_of n)) (replaced (Err Invariant) [] s) (replaced a [] s) (λ rule. refl) refl refl t

module _ (s : LockState) (y : ActiveLock) where
  pub insert_conflict : (paper_of (insert_active_on s y).told).number ≡ 7 → Conflict (model_of s).active (normal y) (paper_of (insert_active_on s y).told)
  unfolding insert_active_on insert_active_with Tells
  insert_conflict n = inserted_tells (model_of s).active (normal y) s (judge_insert full (model_of s) (normal y)) (inserted_in (model_of s) (normal y)) (insert_tells full (model_of s) (normal y)) (eq-eqb _ 7 n)

  -- the lock in the way is one that stays
  pub replace_conflict : (ws : List ℕ) (by at : ℕ)
      → (paper_of (commit_replacement_on s ws y by at).told.answer).number ≡ 7 → Conflict (cut_of (model_of s) ws).kept (normal y) (paper_of (commit_replacement_on s ws y by at).told.answer)
  unfolding commit_replacement_on commit_replacement_with Tells
  replace_conflict ws by at n =
      replaced_tells (cut_of (model_of s) ws).kept (normal y) s (judge_replace full (model_of s) ws (normal y) by at) (replaced_in (model_of s) ws (normal y) by at) (replace_tells full (model_of s) (normal y) ws by at) (cut_of (model_of s) ws).gone (eq-eqb _ 7 n)

  -- 7 is none of insert_vehicle's answers: it would be told of an empty list
  pub vehicle_no_conflict : (ws : List ℕ) → (paper_of (insert_vehicle_on s y ws).told).number ≡ 7 → ⊥
  unfolding insert_vehicle_on insert_vehicle_with Tells
  vehicle_no_conflict ws n =
      None_ne_Some _ (inserted_tells [] (normal y) s (judge_vehicle full (model_of s) (normal y) ws) (vehicle_in (model_of s) (normal y) ws) (vehicle_tells full (model_of s) (normal y) ws) (eq-eqb _ 7 n)).found

-- ---- and back: on a sound state, where the checks before it pass and a lock conflicts, 7 is told of the first such lock, and
-- the state stays. So 7 refuses the calls of before: neither those checks nor `conflicts` moved
refused_in : (early late : Result ⊤ Refusal) (l : List ActiveLock) (x a : ActiveLock) → Yes (is_done early) → find (conflicts x) l ≡ Some a → and_then (and_then early (check_clear l x)) late ≡ conflict_with x a
unfolding and_then check_clear is_done
refused_in early late l x a t f = rw (t, f)

module _ (s : LockState) (e : broken_rule s ≡ Ok tt) (y a : ActiveLock) where
  pub insert_refused : Yes (is_done (insert_before7 (model_of s) (normal y))) → find (conflicts (normal y)) (model_of s).active ≡ Some a
      → insert_active_on s y ≡ inserted (conflict_with (normal y) a) s
  unfolding is_done
  insert_refused t f =
      insert_exactly s y e
      ∙ ap (λ (j : Result ⊤ Refusal). cond (is_done j) (inserted (Ok tt) (state_of (inserted_in (model_of s) (normal y)))) (inserted j s))
      (insert_split full (model_of s) (normal y) ∙ refused_in _ _ _ (normal y) a t f)

  pub replace_refused : (ws : List ℕ) (by at : ℕ) → Yes (is_done (replace_before7 (model_of s) ws (normal y))) → find (conflicts (normal y)) (cut_of (model_of s) ws).kept ≡ Some a
      → commit_replacement_on s ws y by at ≡ replaced (conflict_with (normal y) a) [] s
  unfolding is_done
  replace_refused ws by at t f =
      replace_exactly s ws y by at e
      ∙ ap (λ (j : Result ⊤ Refusal). cond (is_done j) (replaced (Ok tt) (cut_of (model_of s) ws).gone (state_of (replaced_in (model_of s) ws (normal y) by at))) (replaced j [] s))
      (replace_split full (model_of s) ws (normal y) by at ∙ refused_in _ _ _ (normal y) a t f)

-- in a sound state the lock in a replacement's way is one of those at entry, as it was
at_entry : (s : LockState) (ws : List ℕ) (x : ActiveLock) (p : Paper) → broken_rule s ≡ Ok tt → (c : Conflict (cut_of (model_of s) ws).kept x p) → Mem c.lock (model_of s).active
at_entry s ws x p e c = (cut_roots (model_of s) ws (stands_of full (model_of s) (sound_of s e)).core).split.stays c.lock (find→ (conflicts x) (cut_of (model_of s) ws).kept c.found).0

-- ---- the one call: no other operation tells 7
renewal_other : (a : Result ⊤ RenewalRefusal) → (renewal_paper a).number ≡ 7 → ⊥
unfolding renewal_paper
renewal_other (Ok tt) n = omega (arith, n)
renewal_other (Err (renewal.ActiveLockNotFound i)) n = omega (arith, n)
renewal_other (Err renewal.RevisionOverflow) n = omega (arith, n)
renewal_other (Err renewal.LockExpired) n = omega (arith, n)
renewal_other (Err renewal.RenewalNotExtension) n = omega (arith, n)
renewal_other (Err (renewal.UnsoundState r)) n = omega (arith, n)

deletion_other : (a : Result ⊤ DeletionRefusal) → (deletion_paper a).number ≡ 7 → ⊥
unfolding deletion_paper
deletion_other (Ok tt) n = omega (arith, n)
deletion_other (Err (deletion.ActiveLockNotFound i)) n = omega (arith, n)
deletion_other (Err deletion.RevisionOverflow) n = omega (arith, n)
deletion_other (Err (deletion.UnsoundState r)) n = omega (arith, n)

expiration_other : (a : Result Expiration StateRefusal) → (expiration_paper a).number ≡ 7 → ⊥
unfolding expiration_paper
expiration_other (Ok Done) n = omega (arith, n)
expiration_other (Ok Stale) n = omega (arith, n)
expiration_other (Ok (NotDue t)) n = omega (arith, n)
expiration_other (Err state_refusal.RevisionOverflow) n = omega (arith, n)
expiration_other (Err (state_refusal.UnsoundState r)) n = omega (arith, n)

acknowledgement_other : (a : Result Bool StateRefusal) → (acknowledgement_paper a).number ≡ 7 → ⊥
unfolding acknowledgement_paper
acknowledgement_other (Ok true) n = omega (arith, n)
acknowledgement_other (Ok false) n = omega (arith, n)
acknowledgement_other (Err state_refusal.RevisionOverflow) n = omega (arith, n)
acknowledgement_other (Err (state_refusal.UnsoundState r)) n = omega (arith, n)

expiry_other : (a : Result ⊤ StateRefusal) → (expiry_paper a).number ≡ 7 → ⊥
unfolding expiry_paper
expiry_other (Ok tt) n = omega (arith, n)
expiry_other (Err state_refusal.RevisionOverflow) n = omega (arith, n)
expiry_other (Err (state_refusal.UnsoundState r)) n = omega (arith, n)

module _ (s : LockState) (e : broken_rule s ≡ Ok tt) (ws : List ℕ) where
  abbrev Answered : Request → Type 0
  Answered r = (outcome_paper (perform_on s r ws).outcome).number ≡ 7 → InConflict s r ws (outcome_paper (perform_on s r ws).outcome)

  pub perform_conflict : (r : Request) → Answered r
  unfolding perform_on outcome_paper
  perform_conflict (Insert y) n = inserting (insert_conflict s y n)
  perform_conflict (InsertVehicle y) n = absurd (vehicle_no_conflict s y ws n)
  perform_conflict (Renew r) n = absurd (renewal_other (renew_on s r.id r.expires r.now r.given r.metadata).told n)
  perform_conflict (Delete i) n = absurd (deletion_other (delete_on s i).told.answer n)
  perform_conflict (BeginExpiration r) n = absurd (expiration_other (begin_expiration_on s r.id r.now).told.answer n)
  perform_conflict (Replace r) n = let c = replace_conflict s r.lock ws r.breaker r.broken n in replacing c (at_entry s ws (normal r.lock) _ e c)
  perform_conflict (Acknowledge i) n = absurd (acknowledgement_other (acknowledge_on s i).told n)
  perform_conflict (ExpireDefunct now) n = absurd (expiry_other (expire_defunct_on s now).told.answer n)
