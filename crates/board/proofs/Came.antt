-- 02, C-11: "only ECUs covered by a lock that came or went are written". A lock went where it is active before the call and no
-- lock with its id is after it; it came where that is so the other way round.
--     came_or_went      of a sound state the locks by which the board is written are no others
--     written_covered   so of any buffer of a board's size an entry keeps its bytes, or a lock that came or went covers its ECU
--     none_written      and a call that leaves the active locks leaves every byte
-- of the eight operations; with `step_` before it, of a step over the feed. And of any state:
--     refused_none      with an operation that was refused none came or went
--     refused_left      so it leaves every byte. Assumes nothing.
use Rattle.std.proofs.Common.{◌≡◌, ℕ, ◌<◌, Bool, cond, eqb, leb, ◌⊎◌, List, [], ◌∷◌, ◌++◌, map, length, take, sym, refl, ap, ◌∙◌, subst, ap₂, inl, inr, eq-eqb, ne_eqb, eqb-true}
use mathlib.Core.List.Memᴰ
use Rattle.lists.specs.Tests.{non, Yes, No}
use Rattle.lists.specs.Lists.{any, filter, insert_by, Mem}
use Rattle.lists.specs.Places.{in_places}
use Rattle.lists.proofs.Tests.{against, →no, non_yes, or_l, or_r, by, cond_both, cond_false}
use Rattle.lists.proofs.Lists.{any→, →any, filter→, from_unique, insert→, insert_new}
use Rattle.ids.specs.Order.{key}
use Rattle.state.specs.declared.ActiveLock.{ActiveLock}
use Rattle.state.specs.declared.LockState.{LockState}
use Rattle.state.specs.Locks.{akey, has_id, blank_active, normal}
use Rattle.state.specs.Model.{Model, model_of, state_of, full}
use Rattle.state.proofs.Laws.{back}
use Rattle.std.specs.Prelude.{Result, Ok, Err, ⊤}
use Rattle.rules.specs.Rules.{broken_rule}
use Rattle.rules.proofs.Sound.{sound_of}
use Rattle.lookups.specs.Reads.{narrow}
use Rattle.operations.specs.declared.answers.Refusal.{Refusal}
use Rattle.operations.specs.declared.answers.Refusal.TheVariants.{DuplicateId, DuplicateScope, ActiveLockNotFound, ParentNotFound, ParentNotVehicle, ReplacementScopeConflict, CoverageConflict, RevisionOverflow, NotRootVehicle, BadChild, OtherOwner, NotCovered, Invariant, UnsoundState, NoRoom, BadList}
use Rattle.operations.specs.Answers.{Inserted}
use Rattle.operations.specs.Answers.{Deleted}
use Rattle.operations.specs.Answers.{Expired}
use Rattle.operations.specs.Answers.{Replaced}
use Rattle.operations.specs.Answers.{is_done, paper_of, deletion_paper, expiration_paper}
use Rattle.operations.specs.Trees.{child_of, in_tree, start_parts, tree_parts, is_listed}
use Rattle.operations.specs.Insert.{inserted_in, judge_insert}
use Rattle.operations.specs.Vehicle.{adopt, vehicle_in, judge_vehicle}
use Rattle.operations.specs.Delete.{tree_out, without_tree, deleted, expired}
use Rattle.operations.specs.Replace.{orphan, cut_of, replaced_in, judge_replace}
use Rattle.records.specs.declared.requests.Request.{Request}
use Rattle.records.specs.declared.requests.Request.TheVariants.{Insert, InsertVehicle, Renew, Delete, BeginExpiration, Replace, Acknowledge, ExpireDefunct}
use Rattle.calls.specs.declared.Outcome.TheVariants as O
use Rattle.calls.specs.declared.Performed.{Performed}
use Rattle.calls.specs.Calls.{by_insert, by_delete, by_expiration, by_replace, perform_on, outcome_paper}
use Rattle.image.specs.declared.Spare.{Spare}
use Rattle.feed.specs.declared.events.Step.{Step}
use Rattle.records.specs.declared.frame.Unread.{Unread}
use Rattle.records.specs.declared.frame.Unread.TheVariants.{Torn, BadKind, BadField}
use Rattle.feed.specs.declared.taking.Placed.{Placed}
use Rattle.feed.specs.Feed.{distance, numbered, body_in, taken_at, act_on, turn_on, taken_on, step_on, event_paper}
use Rattle.feed.proofs.Turning.{step_sound}
use Rattle.promises.proofs.Core.{Core, stands_of}
use Rattle.promises.proofs.Removal.{tree_kept, cut_roots}
use Rattle.promises.proofs.Passed.{then_done}
use Rattle.promises.proofs.Checked.{id_ok}
use Rattle.promises.proofs.Closing.{insert_exactly, vehicle_exactly, replace_exactly, replace_comes, delete_comes, expiration_comes}
use Rattle.board.specs.Board.{on, brings, moved, entry_at, updated}
use Rattle.board.specs.Forms.{call_moved, call_board, taken_moved, step_moved, step_updated}
use Rattle.board.proofs.Kept.{kept_outside, nothing_moved}
use Rattle.board.proofs.Same.{normal_on, adopt_like}

-- ---- a lock of one list whose id isn't in the other
abbrev pub active_in : List ActiveLock → ActiveLock → Bool
active_in l a = any (has_id a.lock.id) l

abbrev pub Went : List ActiveLock → List ActiveLock → ActiveLock → Type 0
Went l l' a = Mem a l × No (active_in l' a)

-- a lock that is brought came in its normal form
abbrev pub Turns : List ActiveLock → List ActiveLock → ActiveLock → Type 0
Turns l l' a = Went l l' a ⊎ Went l' l (normal a)

there : (l : List ActiveLock) (a : ActiveLock) → Mem a l → Yes (active_in l a)
unfolding has_id
there l a u = →any (has_id a.lock.id) u (eq-eqb (akey a) (akey a) refl)

away : (l : List ActiveLock) (a : ActiveLock) → ((b : ActiveLock) → Mem b l → akey b ≡ akey a → ⊥) → No (active_in l a)
unfolding has_id
away l a f = →no (active_in l a) (λ t. let w = any→ (has_id a.lock.id) l t in f w.0 w.1 (eqb-true (akey w.0) (akey a) w.2))

-- ---- the next lists of a sound state
abbrev New : Model → ActiveLock → Type 0
New m x = (b : ActiveLock) → Mem b m.active → akey b ≡ akey x → ⊥

put_turns : (m : Model) (x : ActiveLock) (l : List ActiveLock) → New m (normal x) → Turns m.active (insert_by akey (normal x) l) x
put_turns m x l new = inr (insert_new akey (normal x) l, away m.active (normal x) new)

module _ (m : Model) (c : Core m) where
  tree_in : (r a : ActiveLock) → Mem a (tree_out m r).gone → Mem a m.active × Yes (in_tree r a)
  unfolding tree_parts in_tree
  tree_in r a u =
      let l1 = filter (λ b. non (child_of r b)) m.active in
      let l2 = filter (λ b. non (narrow r b)) l1 in
      elim (Memᴰ.append_cases (filter (child_of r) m.active ++ filter (narrow r) l1) u) [
        | inl v ↦
            elim (Memᴰ.append_cases (filter (child_of r) m.active) v) [
              | inl w ↦ let z = filter→ (child_of r) m.active w in (z.0, or_l _ _ (or_l _ _ z.1))
              | inr w ↦ let z = filter→ (narrow r) l1 w in ((filter→ (λ b. non (child_of r b)) m.active z.0).0, or_l _ _ (or_r _ _ z.1))
            ]
        | inr v ↦
            let z = filter→ (has_id r.lock.id) l2 v in
            ((filter→ (λ b. non (child_of r b)) m.active (filter→ (λ b. non (narrow r b)) l1 z.0).0).0, or_r _ _ z.1)
      ]

  tree_turns : (r a : ActiveLock) → Mem a (tree_out m r).gone → Turns m.active (without_tree m r).active a
  unfolding without_tree
  tree_turns r a u =
      let w = tree_in r a u in
      inl (
        w.0,
        away _ a (λ b v q.
            let z = filter→ (λ d. non (in_tree r d)) m.active (subst (Mem b) (tree_kept r (start_parts m.active)) v) in
            against (non_yes (in_tree r b) z.1) (subst (λ (d : ActiveLock). Yes (in_tree r d)) (sym (from_unique akey 0 c.order z.0 w.0 q)) w.1)),
      )

  cut_turns : (ws : List ℕ) (x : ActiveLock) (by at : ℕ) → New m (normal x) → (a : ActiveLock) → Mem a (cut_of m ws).gone → Turns m.active (replaced_in m ws (normal x) by at).active a
  unfolding replaced_in
  cut_turns ws x by at new a u =
      let p = (cut_roots m ws c).split in
      inl (
        p.went a u,
        away _ a (λ b v q. elim (insert→ akey (normal x) (map (adopt (orphan (normal x)) (normal x)) (cut_of m ws).kept) v) [
          | inl z ↦ new a (p.went a u) (sym q ∙ ap akey z)
          | inr z ↦
              let w = Memᴰ.of_map (adopt (orphan (normal x)) (normal x)) (cut_of m ws).kept z in
              p.off a u w.0 w.1 (sym q ∙ ap akey (sym w.2) ∙ ap key (adopt_like (orphan (normal x)) (normal x) w.0).0)
        ]),
      )

-- ---- where the answer isn't 0 nothing came
done_number : (a : Result ⊤ Refusal) → eqb (paper_of a).number 0 ≡ is_done a
unfolding paper_of is_done
done_number (Ok tt) = refl
done_number (Err (DuplicateId i)) = refl
done_number (Err DuplicateScope) = refl
done_number (Err (ActiveLockNotFound i)) = refl
done_number (Err (ParentNotFound i)) = refl
done_number (Err (ParentNotVehicle i)) = refl
done_number (Err ReplacementScopeConflict) = refl
done_number (Err (CoverageConflict i at)) = refl
done_number (Err RevisionOverflow) = refl
done_number (Err NotRootVehicle) = refl
done_number (Err (BadChild i)) = refl
done_number (Err (OtherOwner i j)) = refl
done_number (Err (NotCovered i j)) = refl
done_number (Err Invariant) = refl
done_number (Err (UnsoundState n)) = refl
done_number (Err NoRoom) = refl
done_number (Err BadList) = refl

none_came : (c : Result ⊤ Refusal) (l : List ActiveLock) {a : ActiveLock} → No (is_done c) → Mem a (cond (eqb (paper_of c).number 0) l [] ++ []) → ⊥
none_came c l {a} n u = Memᴰ.not-nil (subst (λ (b : Bool). Mem a (cond b l [] ++ [])) (done_number c ∙ n) u)

none_moved : (r : Request) (p : Performed) → brings r ≡ [] → p.gone ≡ 0 → call_moved r p ≡ []
unfolding moved
none_moved r p b g = rw (b, g) (cond_both (λ (l : List ActiveLock). l ++ [] ≡ []) [] [] (eqb (outcome_paper p.outcome).number 0) (λ t. refl) (λ t. refl))

-- ---- the operations of a sound state
module _ (s : LockState) (q : broken_rule s ≡ Ok tt) where
  core : Core (model_of s)
  core = (stands_of full (model_of s) (sound_of s q)).core

  abbrev Turned : Model → ActiveLock → Type 0
  Turned n a = Turns (model_of s).active (model_of (state_of n)).active a

  settled : (n : Model) (a : ActiveLock) → Turns (model_of s).active n.active a → Turned n a
  settled n a t = subst (λ (l : List ActiveLock). Turns (model_of s).active l a) (sym (back 64 blank_active n.active)) t

  inserted_came : (x : ActiveLock) → Yes (is_done (judge_insert full (model_of s) (normal x))) → Turned (inserted_in (model_of s) (normal x)) x
  unfolding judge_insert inserted_in
  inserted_came x t = settled (inserted_in (model_of s) (normal x)) x (put_turns (model_of s) x (model_of s).active (id_ok _ _ (normal x) (then_done _ _ t).0).0)

  vehicle_came : (x : ActiveLock) (ws : List ℕ) → Yes (is_done (judge_vehicle full (model_of s) (normal x) ws)) → Turned (vehicle_in (model_of s) (normal x) ws) x
  unfolding judge_vehicle vehicle_in inserted_in
  vehicle_came x ws t =
      settled (vehicle_in (model_of s) (normal x) ws) x
      (put_turns (model_of s) x (map (adopt (is_listed ws) (normal x)) (model_of s).active) (id_ok _ _ (normal x) (then_done _ _ (then_done _ _ (then_done _ _ (then_done _ _ t).1).1).1).0).0)

  tree_went : (r a : ActiveLock) → Mem a (take (length (tree_out (model_of s) r).gone) (in_places 64 blank_active (tree_out (model_of s) r).gone)) → Turned (without_tree (model_of s) r) a
  tree_went r a u = settled (without_tree (model_of s) r) a (tree_turns (model_of s) core r a (subst (Mem a) (back 64 blank_active (tree_out (model_of s) r).gone) u))

  module _ (ws : List ℕ) (x : ActiveLock) (by at : ℕ) (t : Yes (is_done (judge_replace full (model_of s) ws (normal x) by at))) where
    replaced_new : New (model_of s) (normal x)
    unfolding judge_replace
    replaced_new = (id_ok _ _ (normal x) (then_done _ _ (then_done _ _ (then_done _ _ t).1).1).0).0

    replaced_turns : (a : ActiveLock) → Mem a (x ∷ take (length (cut_of (model_of s) ws).gone) (in_places 64 blank_active (cut_of (model_of s) ws).gone)) → Turned (replaced_in (model_of s) ws (normal x) by at) a
    unfolding replaced_in
    replaced_turns a (Memᴰ.head z) =
        subst (Turned (replaced_in (model_of s) ws (normal x) by at)) (sym z)
        (settled (replaced_in (model_of s) ws (normal x) by at) x (put_turns (model_of s) x (map (adopt (orphan (normal x)) (normal x)) (cut_of (model_of s) ws).kept) replaced_new))
    replaced_turns a (Memᴰ.tail u) =
        settled (replaced_in (model_of s) ws (normal x) by at) a (cut_turns (model_of s) core ws x by at replaced_new a (subst (Mem a) (back 64 blank_active (cut_of (model_of s) ws).gone) u))

  abbrev CameOrWent : Request → Performed → Type 0
  CameOrWent r p = (a : ActiveLock) → Mem a (call_moved r p) → Turns (model_of s).active (model_of p.state).active a

  none_turns : (r : Request) (p : Performed) → brings r ≡ [] → p.gone ≡ 0 → CameOrWent r p
  none_turns r p b g a u = absurd (Memᴰ.not-nil (subst (Mem a) (none_moved r p b g) u))

  pub came_or_went : (r : Request) (ws : List ℕ) (a : ActiveLock) → Mem a (call_moved r (perform_on s r ws)) → Turns (model_of s).active (model_of (perform_on s r ws).state).active a
  unfolding perform_on moved outcome_paper paper_of deletion_paper expiration_paper
  came_or_went (Insert x) ws =
      subst (λ (r : Inserted). CameOrWent (Insert x) (by_insert O.Inserted r)) (sym (insert_exactly s x q))
      (cond_both (λ (r : Inserted). CameOrWent (Insert x) (by_insert O.Inserted r)) _ _ (is_done (judge_insert full (model_of s) (normal x)))
      (λ t a u. subst (Turned (inserted_in (model_of s) (normal x))) (sym (Memᴰ.eq_of_singleton u)) (inserted_came x t))
      (λ n a u. absurd (none_came (judge_insert full (model_of s) (normal x)) (x ∷ []) n u)))
  came_or_went (InsertVehicle x) ws =
      subst (λ (r : Inserted). CameOrWent (InsertVehicle x) (by_insert O.VehicleInserted r)) (sym (vehicle_exactly s x ws q))
      (cond_both (λ (r : Inserted). CameOrWent (InsertVehicle x) (by_insert O.VehicleInserted r)) _ _ (is_done (judge_vehicle full (model_of s) (normal x) ws))
      (λ t a u. subst (Turned (vehicle_in (model_of s) (normal x) ws)) (sym (Memᴰ.eq_of_singleton u)) (vehicle_came x ws t))
      (λ n a u. absurd (none_came (judge_vehicle full (model_of s) (normal x) ws) (x ∷ []) n u)))
  came_or_went (Renew x) ws = none_turns (Renew x) (perform_on s (Renew x) ws) refl refl
  came_or_went (Delete i) ws = delete_comes (λ (r : Deleted). CameOrWent (Delete i) (by_delete r)) s i (λ b. none_turns (Delete i) (by_delete (deleted b [] s)) refl refl) (λ r f g. tree_went r)
  came_or_went (BeginExpiration x) ws =
      expiration_comes (λ (r : Expired). CameOrWent (BeginExpiration x) (by_expiration r)) s x.id x.now (λ b. none_turns (BeginExpiration x) (by_expiration (expired b [] s)) refl refl) (λ r f g. tree_went r)
  came_or_went (Replace x) ws =
      subst (λ (r : Replaced). CameOrWent (Replace x) (by_replace r)) (sym (replace_exactly s ws x.lock x.breaker x.broken q))
      (cond_both (λ (r : Replaced). CameOrWent (Replace x) (by_replace r)) _ _ (is_done (judge_replace full (model_of s) ws (normal x.lock) x.breaker x.broken))
      (λ t. replaced_turns ws x.lock x.breaker x.broken t)
      (λ n a u. absurd (none_came (judge_replace full (model_of s) ws (normal x.lock) x.breaker x.broken) (x.lock ∷ []) n u)))
  came_or_went (Acknowledge i) ws = none_turns (Acknowledge i) (perform_on s (Acknowledge i) ws) refl refl
  came_or_went (ExpireDefunct now) ws = none_turns (ExpireDefunct now) (perform_on s (ExpireDefunct now) ws) refl refl

-- ---- a step over the feed
module _ (sp : Spare) (q : broken_rule sp.state ≡ Ok tt) (f : List ℕ) (at : ℕ) where
  abbrev StepCameOrWent : Result Placed Unread → Step → Type 0
  StepCameOrWent t st = (a : ActiveLock) → Mem a (taken_moved t st) → Turns (model_of sp.state).active (model_of st.spare.state).active a

  taken_came_or_went : (t : Result Placed Unread) → StepCameOrWent t (taken_on sp f at t)
  unfolding turn_on act_on event_paper moved
  taken_came_or_went (Err (Torn x)) = λ a u. absurd (Memᴰ.not-nil u)
  taken_came_or_went (Err (BadKind x)) = λ a u. absurd (Memᴰ.not-nil u)
  taken_came_or_went (Err (BadField x)) = λ a u. absurd (Memᴰ.not-nil u)
  taken_came_or_went (Ok p) =
      let x = numbered p (body_in f p.frame) in
      cond_both (StepCameOrWent (Ok p)) _ _ (eqb (distance x.number sp.expected) 0) (λ t. came_or_went sp.state q x.request x.list) (λ t.
      cond_both (StepCameOrWent (Ok p)) _ _ (leb (distance x.number sp.expected) 2147483647) (λ u a v. absurd (Memᴰ.not-nil v)) (λ u a v. absurd (Memᴰ.not-nil v)))

  pub step_came_or_went : (a : ActiveLock) → Mem a (step_moved f at (step_on sp f at)) → Turns (model_of sp.state).active (model_of (step_on sp f at).spare.state).active a
  step_came_or_went = subst (StepCameOrWent (taken_at f at)) (sym (step_sound sp f at q)) (taken_came_or_went (taken_at f at))

-- ---- what is written of any buffer of a board's size
-- a lock that went or came, and covers e
abbrev pub Cause : List ActiveLock → List ActiveLock → ℕ → Type 0
Cause l l' e = (a : ActiveLock) × Yes (on e a) × (Went l l' a ⊎ Went l' l a)

cause : (l l' : List ActiveLock) (e : ℕ) (a : ActiveLock) → Yes (on e a) → Turns l l' a → Cause l l' e
cause l l' e a t (inl w) = (a, t, inl w)
cause l l' e a t (inr w) = (normal a, normal_on e a ∙ t, inr w)

module _ (cs l l' : List ActiveLock) (turns : (a : ActiveLock) → Mem a cs → Turns l l' a) (b : List ℕ) (h : length b ≡ 4352) where
  covered : (e : ℕ) → e < 256 → (entry_at (updated cs l' b) e ≡ entry_at b e) ⊎ Cause l l' e
  covered e k =
      by (any (on e) cs) ((entry_at (updated cs l' b) e ≡ entry_at b e) ⊎ Cause l l' e)
      (λ t. let w = any→ (on e) cs t in inr (cause l l' e w.0 w.2 (turns w.0 w.1)))
      (λ n. inl (kept_outside cs l' b h e k n))

  nobody : l' ≡ l → (a : ActiveLock) → Turns l l' a → ⊥
  nobody z a (inl w) = against w.1 (there l' a (subst (Mem a) (sym z) w.0))
  nobody z a (inr w) = against w.1 (there l (normal a) (subst (Mem (normal a)) z w.0))

  unwritten : l' ≡ l → updated cs l' b ≡ b
  unwritten z = go cs turns
    where
      go : (cs : List ActiveLock) → ((a : ActiveLock) → Mem a cs → Turns l l' a) → updated cs l' b ≡ b
      go [] f = nothing_moved l' b h
      go (a ∷ rest) f = absurd (nobody z a (f a (Memᴰ.head refl)))

module _ (s : LockState) (q : broken_rule s ≡ Ok tt) (r : Request) (ws : List ℕ) (b : List ℕ) (h : length b ≡ 4352) where
  pub written_covered : (e : ℕ) → e < 256
      → (entry_at (call_board r (perform_on s r ws) b) e ≡ entry_at b e) ⊎ Cause (model_of s).active (model_of (perform_on s r ws).state).active e
  written_covered = covered (call_moved r (perform_on s r ws)) (model_of s).active (model_of (perform_on s r ws).state).active (came_or_went s q r ws) b h

  pub none_written : (model_of (perform_on s r ws).state).active ≡ (model_of s).active → call_board r (perform_on s r ws) b ≡ b
  none_written = unwritten (call_moved r (perform_on s r ws)) (model_of s).active (model_of (perform_on s r ws).state).active (came_or_went s q r ws) b h

module _ (sp : Spare) (q : broken_rule sp.state ≡ Ok tt) (f : List ℕ) (at : ℕ) (b : List ℕ) (h : length b ≡ 4352) where
  pub step_written_covered : (e : ℕ) → e < 256
      → (entry_at (step_updated f at (step_on sp f at) b) e ≡ entry_at b e) ⊎ Cause (model_of sp.state).active (model_of (step_on sp f at).spare.state).active e
  step_written_covered = covered (step_moved f at (step_on sp f at)) (model_of sp.state).active (model_of (step_on sp f at).spare.state).active (step_came_or_went sp q f at) b h

  pub step_none_written : (model_of (step_on sp f at).spare.state).active ≡ (model_of sp.state).active → step_updated f at (step_on sp f at) b ≡ b
  step_none_written = unwritten (step_moved f at (step_on sp f at)) (model_of sp.state).active (model_of (step_on sp f at).spare.state).active (step_came_or_went sp q f at) b h

-- ---- a refused operation: nothing came or went, and so the board keeps every byte
refused_gone : (s : LockState) (r : Request) (ws : List ℕ) → ((outcome_paper (perform_on s r ws).outcome).number ≡ 0 → ⊥) → (perform_on s r ws).gone ≡ 0
unfolding perform_on outcome_paper paper_of deletion_paper expiration_paper
refused_gone s (Insert x) ws h = refl
refused_gone s (InsertVehicle x) ws h = refl
refused_gone s (Renew r) ws h = refl
refused_gone s (Delete i) ws h = delete_comes (λ (d : Deleted). ((deletion_paper d.told.answer).number ≡ 0 → ⊥) → d.told.gone ≡ 0) s i (λ b k. refl) (λ r e v k. absurd (k refl)) h
refused_gone s (BeginExpiration e) ws h = expiration_comes (λ (d : Expired). ((expiration_paper d.told.answer).number ≡ 0 → ⊥) → d.told.gone ≡ 0) s e.id e.now (λ b k. refl) (λ r e v k. absurd (k refl)) h
refused_gone s (Replace r) ws h = replace_comes (λ (d : Replaced). ((paper_of d.told.answer).number ≡ 0 → ⊥) → d.told.gone ≡ 0) s ws r.lock r.breaker r.broken (λ b n k. refl) (λ q v k. absurd (k refl)) h
refused_gone s (Acknowledge i) ws h = refl
refused_gone s (ExpireDefunct now) ws h = refl

pub refused_none : (s : LockState) (r : Request) (ws : List ℕ) → ((outcome_paper (perform_on s r ws).outcome).number ≡ 0 → ⊥) → call_moved r (perform_on s r ws) ≡ []
unfolding moved
refused_none s r ws h = ap₂ (λ (l : List ActiveLock) (g : ℕ). l ++ take g (perform_on s r ws).removed) (cond_false _ _ _ (ne_eqb _ 0 h)) (refused_gone s r ws h)

pub refused_left : (s : LockState) (r : Request) (ws : List ℕ) (b : List ℕ) → length b ≡ 4352 → ((outcome_paper (perform_on s r ws).outcome).number ≡ 0 → ⊥) → call_board r (perform_on s r ws) b ≡ b
refused_left s r ws b l h = ap (λ (cs : List ActiveLock). updated cs (model_of (perform_on s r ws).state).active b) (refused_none s r ws h) ∙ nothing_moved (model_of (perform_on s r ws).state).active b l
