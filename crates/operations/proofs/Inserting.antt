-- An insertion: room for one more, the new lists in their places, and the answer from the judgement and the change.
-- Assumes nothing.
use mathlib.Core.Path.{◌≡◌, refl, sym, ap, ◌∙◌}
use mathlib.Core.Bool.{Bool, true, false, cond, true≢false, false≢true}
use mathlib.Core.List.{List, ◌++◌}
use Prim.Native.Nat.{ℕ, ◌+◌, ◌-◌, ◌≤◌, ◌<◌}
use native.Mathlib.Omega.{arith}
use lib.Dec.{eqb}
use lib.ListN.{length, take, drop, replicate, length-take}
use lib.Seq.{take-take, drop-append-add}
use Rattle.std.proofs.lemmas.List.{drop-replicate}
use borrow.Author.Tests.{eqb-true, eqb-false, le-leb, lt-leb}
use Rattle.lists.specs.Tests.{non}
use Rattle.lists.specs.Lists.{any, filter, insert_by}
use Rattle.lists.specs.Places.{in_places, opened}
use Rattle.lists.proofs.Tests.{by, cond_true, cond_false, and_f, and_i, and_r, non_t, non_f}
use Rattle.lists.proofs.Lists.{length_insert}
use Rattle.state.specs.declared.ActiveLock.{ActiveLock}
use Rattle.state.specs.declared.LockState.{LockState}
use Rattle.state.specs.Locks.{akey, blank_active, blank_defunct}
use Rattle.state.specs.Model.{Model, model_of, state_of, full, fits, Tidy}
use Rattle.state.proofs.Laws.{active_count, defunct_count, active_in_lem, defunct_in_lem, length_places, tidy_of}
use Rattle.std.specs.Prelude.{Result, Ok, Err, ⊤}
use Rattle.std.specs.Result.{is_ok}
use Rattle.rules.specs.declared.Unsound.{Unsound}
use Rattle.rules.specs.declared.Unsound.TheVariants.{Rule}
use Rattle.rules.specs.Rules.{rule9, broken_rule, in_order, sound}
use Rattle.rules.proofs.Sound.{facts_of_state, tidy_of_sound}
use Rattle.lookups.specs.Reads.{by_verdict, on_sound}
use Rattle.lookups.proofs.Verdicts.{on_sound_lem}
use Rattle.operations.specs.declared.answers.Refusal.{Refusal}
use Rattle.operations.specs.declared.answers.Refusal.TheVariants.{Invariant, UnsoundState, NoRoom}
use Rattle.operations.specs.Answers.{Inserted}
use Rattle.operations.specs.Answers.{is_done, refuse_if}
use Rattle.operations.specs.Defuncts.{remove_all, superseded, supersede}
use Rattle.operations.specs.Checks.{check_room, last_revision}
use Rattle.operations.specs.Insert.{inserted_in, inserted, closed_insert, settled_insert}
use Rattle.operations.specs.Code.{Placed, Ready, place_of, judge_bundled, with_entries, on_tested, closing}
use Rattle.operations.proofs.Going.{placed_count}
use Rattle.operations.proofs.Leaving.{supersede_le, supersede_none}
use Rattle.operations.proofs.Putting.{put_placed}
use Rattle.operations.proofs.Coming.{place_le, put_in}
use Rattle.operations.proofs.Closing.{closing_is}
use Rattle.operations.proofs.Chains.{ok_is, refuse, go_on, first_done, rest_done, revision_left}

-- ---- a lock in its place
module _ (l : List ActiveLock) (n : ℕ) (h : Placed l n) (x : ActiveLock) (k : ℕ) (e : k ≡ place_of akey x.lock.id (take n l)) where
  pub active_place : k ≤ n
  active_place = omega (arith, e, place_le akey x.lock.id x refl 64 blank_active l n (placed_count l n h))

  pub active_put : n < 64 → (r : List ActiveLock) → r ≡ opened l k n x → r ≡ in_places 64 blank_active (insert_by akey x (take n l))
  active_put g r f = f ∙ ap (λ (j : ℕ). opened l j n x) e ∙ put_in akey x.lock.id x refl 64 blank_active l n (placed_count l n h) h.same g

-- ---- 13
module _ (m : Model) (x : ActiveLock) (n : ℕ) (e : length m.active ≡ n) (h : n ≤ 64) (g : length m.defunct ≤ 128) where
  room_is : fits full (inserted_in m x) ≡ non (eqb n 64)
  unfolding fits inserted_in
  room_is = by (eqb n 64) (fits full (inserted_in m x) ≡ non (eqb n 64))
      (λ t. and_f _ _ (lt-leb (length (insert_by akey x m.active)) 64 (omega (arith, eqb-true n 64 t, length_insert akey x m.active))) ∙ sym (non_t (eqb n 64) t))
      (λ t. and_i _ _
      (le-leb (length (insert_by akey x m.active)) 64 (omega (arith, eqb-false n 64 t, length_insert akey x m.active)))
      (le-leb (length (supersede x m.defunct)) 128 (omega (arith, supersede_le x m.defunct))) ∙ sym (non_f (eqb n 64) t))

  pub room_judged : refuse_if (eqb n 64) (Err NoRoom) (Ok tt) ≡ check_room full (inserted_in m x)
  unfolding check_room
  room_judged = by (eqb n 64) (refuse_if (eqb n 64) (Err NoRoom) (Ok tt) ≡ refuse_if (non (fits full (inserted_in m x))) (Err NoRoom) (Ok tt))
      (λ t. refuse _ _ _ t ∙ sym (refuse _ _ _ (non_f _ (room_is ∙ non_t _ t))))
      (λ t. go_on _ _ _ t ∙ sym (go_on _ _ _ (non_t _ (room_is ∙ non_f _ t))))

  pub room_left : is_done (check_room full (inserted_in m x)) ≡ true → n < 64
  unfolding is_done
  room_left t = by (eqb n 64) (n < 64) (λ u. absurd (true≢false (sym t ∙ ap is_done (sym room_judged ∙ refuse _ _ _ u)))) (λ u. omega (arith, eqb-false n 64 u))

-- ---- a state that was tested
-- v is what the test answered
pub tested : (s : LockState) (v : Result ⊤ Unsound) → v ≡ broken_rule s → v ≡ Ok tt → length s.active ≡ 64 → length s.defunct ≡ 128 → Ready s
unfolding in_order
tested s v e f la ld = let q : broken_rule s ≡ (Ok tt) = sym e ∙ f in record { tidy = tidy_of_sound s la ld q; order = and_r _ _ (facts_of_state s q).order; free = (facts_of_state s q).nine }

pub ready : (s : LockState) → length s.active ≡ 64 → length s.defunct ≡ 128 → broken_rule s ≡ Ok tt → Ready s
ready s la ld q = tested s (broken_rule s) refl q la ld

module _ (s : LockState) (t : Tidy s) where
  pub active_few : length (model_of s).active ≤ 64
  active_few = omega (arith, active_count s t, t.active)

  pub active_placed : Placed s.active s.actives
  active_placed = record { room = t.active; same = active_in_lem s t }

  pub defunct_room : length (model_of s).defunct ≤ 128
  defunct_room = omega (arith, defunct_count s t, t.defunct)

-- ---- the change
-- the lock x in its place among the first places, m: y
module _ (s : LockState) (h : Ready s) (x : ActiveLock) (r : s.actives < 64) (m : List ActiveLock) (e : m ≡ insert_by akey x (take (length (take (s.actives + 1) s.active) - 1) (take (s.actives + 1) s.active))) where
  abbrev list : List ActiveLock
  list = insert_by akey x (model_of s).active

  abbrev with_lock : LockState
  with_lock = record { revision = s.revision + 1; active = in_places 64 blank_active list; actives = s.actives + 1; defunct = s.defunct; defuncts = s.defuncts }

  abbrev y : LockState
  y = record { revision = s.revision + 1; active = m ++ drop (s.actives + 1) s.active; actives = s.actives + 1; defunct = s.defunct; defuncts = s.defuncts }

  one_more : s.actives + 1 ≡ length list
  one_more = omega (arith, length_insert akey x (model_of s).active, active_count s h.tidy)

  put_is : y ≡ with_lock
  put_is =
      ap (λ (l : List ActiveLock). record { revision = s.revision + 1; active = l; actives = s.actives + 1; defunct = s.defunct; defuncts = s.defuncts })
      (put_placed akey x blank_active (model_of s).active s.active m s.actives 64 (sym (active_in_lem s h.tidy)) (active_count s h.tidy) r e)

  put_tidy : Tidy with_lock
  put_tidy = rw put_state (tidy_of (record { revision = s.revision + 1; active = list; defunct = (model_of s).defunct }) (omega (arith, one_more)) (defunct_room s h.tidy))
    where
      put_state : with_lock ≡ state_of (record { revision = s.revision + 1; active = list; defunct = (model_of s).defunct })
      put_state = λ j. record {
        revision = s.revision + 1;
        active = in_places 64 blank_active list;
        actives = one_more j;
        defunct = sym (defunct_in_lem s h.tidy) j;
        defuncts = sym (defunct_count s h.tidy) j;
      }

  pub put_ready : Ready y
  unfolding rule9
  put_ready = rw put_is (record { tidy = put_tidy; order = h.order; free = h.free })

  pub put_some : (z : LockState) → z ≡ with_entries y (remove_all (filter (superseded x) (model_of y).defunct) (model_of y).defunct) → z ≡ state_of (inserted_in (model_of s) x)
  unfolding inserted_in supersede
  put_some z q =
      q ∙ ap (λ (u : LockState). with_entries u (remove_all (filter (superseded x) (model_of u).defunct) (model_of u).defunct)) put_is
      ∙ ap (λ (n : ℕ). record { revision = s.revision + 1; active = in_places 64 blank_active list; actives = n; defunct = in_places 128 blank_defunct (supersede x (model_of s).defunct); defuncts = length (supersede x (model_of s).defunct) }) one_more

-- ---- the answer: refused, or changed and tested again
-- j is the judgement of the state s, m the change, a what the test and the judge answered
module _ (s : LockState) (j : Result ⊤ Refusal) (m : Model) where
  abbrev answered : Inserted
  answered = on_sound s (λ n. inserted (Err (UnsoundState n)) s) (settled_insert full j s m)

  settled_on : settled_insert full (on_tested s j) s m ≡ answered
  unfolding on_sound settled_insert is_done
  settled_on = go (broken_rule s)
    where
      go : (v : Result ⊤ Unsound) → settled_insert full (by_verdict v (λ n. Err (UnsoundState n)) j) s m ≡ by_verdict v (λ n. inserted (Err (UnsoundState n)) s) (settled_insert full j s m)
      go (Ok _) = refl
      go (Err (Rule n)) = refl

  module _ (a : Result ⊤ Refusal) (g : a ≡ on_tested s j) where
    pub put_refused : is_ok a ≡ false → inserted a s ≡ answered
    unfolding settled_insert
    put_refused t = sym (cond_false (is_done a) (closed_insert full s m) (inserted a s) (ok_is a t)) ∙ ap (λ (b : Result ⊤ Refusal). settled_insert full b s m) g ∙ settled_on

    module _ (t : is_ok a ≡ true) where
      pub put_allowed : (broken_rule s ≡ Ok tt) × (is_done j ≡ true)
      unfolding on_sound is_done
      put_allowed = go (broken_rule s) (sym (ap is_done g) ∙ ok_is a t)
        where
          go : (v : Result ⊤ Unsound) → is_done (by_verdict v (λ n. Err (UnsoundState n)) j) ≡ true → (v ≡ Ok tt) × (is_done j ≡ true)
          go (Ok _) u = (refl, u)
          go (Err (Rule n)) u = absurd (false≢true u)

      -- n is the next state, w what the closing check answered
      module _ (n : LockState) (k : n ≡ state_of m) (w : Result ⊤ Refusal) (q : w ≡ closing n) where
        closed_on : closed_insert full s m ≡ answered
        unfolding settled_insert
        closed_on = sym (cond_true (is_done j) (closed_insert full s m) (inserted j s) put_allowed.1) ∙ on_sound_lem s (λ n. inserted (Err (UnsoundState n)) s) (settled_insert full j s m) (broken_rule s) refl put_allowed.0

        pub put_done : is_ok w ≡ true → inserted w n ≡ answered
        unfolding closed_insert
        put_done u = go (sound full m) (closing_is n m k w q) ∙ closed_on
          where
            go : (b : Bool) → w ≡ cond b (Ok tt) (Err Invariant) → inserted w n ≡ cond b (inserted (Ok tt) (state_of m)) (inserted (Err Invariant) s)
            go true e = λ i. inserted (e i) (k i)
            go false e = absurd (true≢false (sym u ∙ ap is_ok e))

        pub put_undone : is_ok w ≡ false → inserted w s ≡ answered
        unfolding closed_insert
        put_undone u = go (sound full m) (closing_is n m k w q) ∙ closed_on
          where
            go : (b : Bool) → w ≡ cond b (Ok tt) (Err Invariant) → inserted w s ≡ cond b (inserted (Ok tt) (state_of m)) (inserted (Err Invariant) s)
            go true e = absurd (true≢false (sym (ap is_ok e) ∙ u))
            go false e = ap (λ (a : Result ⊤ Refusal). inserted a s) e

-- ---- insert_active: what the judgement leaves
module _ (s : LockState) (k : Tidy s) (x : ActiveLock) (t : is_done (judge_bundled full (model_of s) x) ≡ true) where
  pub insert_allowed : (s.actives < 64) × (s.revision ≡ last_revision → ⊥)
  unfolding judge_bundled
  insert_allowed =
      let r = rest_done _ _ (rest_done _ _ t) in
      (room_left (model_of s) x s.actives (active_count s k) k.active (defunct_room s k) (rest_done _ _ r), revision_left s.revision (first_done _ _ r))
