-- A replacement: the holder of the scope, the table and the lists in their places, and the whole from its parts.
-- Assumes nothing.
use mathlib.Core.Path.{◌≡◌, refl, sym, ap, subst, ◌∙◌}
use mathlib.Core.Bool.{Bool, true, false, not, cond, ◌&&◌, ◌||◌}
use mathlib.Core.List.{List, [], map}
use Prim.Native.Nat.{ℕ, suc, ◌+◌, ◌≤◌, ◌<◌}
use native.Mathlib.Omega.{arith}
use lib.Dec.{eqb, ltb, leb}
use lib.ListN.{length, get_or, take, length-map}
use borrow.Author.Tests.{eqb-true, eqb-false, ltb-true, ltb-false, le-leb, lt-leb}
use Rattle.std.specs.List.{list_any}
use Rattle.lists.specs.Tests.{◌and◌, ◌or◌, non, Yes}
use Rattle.lists.specs.Lists.{any, filter, insert_by, ascending}
use Rattle.lists.specs.Places.{in_places}
use Rattle.lists.proofs.Tests.{by as cases, and_f, and_t, non_t, non_f, or_t, or_f, or_no, or_code, and_code, codes, cond_true, cond_false}
use Rattle.lists.proofs.Lists.{length_insert}
use Rattle.lists.proofs.Std.{any_as}
use Rattle.state.specs.declared.ActiveLock.{ActiveLock}
use Rattle.state.specs.declared.DefunctLock.{DefunctLock}
use Rattle.state.specs.declared.LockState.{LockState}
use Rattle.state.specs.Locks.{akey, dkey, is_vehicle, has_id, normal, blank_active, blank_defunct}
use Rattle.state.specs.Model.{Model, model_of, state_of, full, fits, Tidy}
use Rattle.state.proofs.Laws.{active_count}
use Rattle.std.specs.Prelude.{Result, Ok, Err, ⊤}
use Rattle.rules.specs.declared.Unsound.{Unsound}
use Rattle.rules.specs.declared.Unsound.TheVariants.{Rule}
use Rattle.rules.specs.Rules.{broken_rule, is_sound}
use Rattle.rules.proofs.Sound.{facts_of_state}
use Rattle.lookups.specs.Reads.{by_verdict, on_sound, on_scope}
use Rattle.lookups.proofs.Verdicts.{on_sound_lem}
use Rattle.operations.specs.declared.answers.Refusal.{Refusal}
use Rattle.operations.specs.declared.answers.Refusal.TheVariants.{ReplacementScopeConflict, Invariant, UnsoundState, NoRoom}
use Rattle.operations.specs.Answers.{Replaced}
use Rattle.operations.specs.declared.defuncts.Table.{Table}
use Rattle.operations.specs.declared.entering.Ledger.{Ledger}
use Rattle.operations.specs.declared.trees.Split.{Split}
use Rattle.operations.specs.Answers.{rule_of, is_done, and_then, first_refusal}
use Rattle.operations.specs.Defuncts.{to_defunct, enter_all, superseded, supersede}
use Rattle.operations.specs.Trees.{Parts, in_tree, is_listed, in_trees}
use Rattle.operations.specs.Checks.{check_list, check_revision, check_child, check_room, outside, check_holder, last_revision}
use Rattle.operations.specs.Vehicle.{adopt}
use Rattle.operations.specs.Replace.{orphan, cut_of, entered_of, replaced_in, judge_replace, replaced, closed_replace, settled_replace, commit_replacement_with, commit_replacement_on}
use Rattle.operations.specs.Code.{Placed, Ready, Cut, parts_of, split_of, entries_of, table_of, Laid, Ranked, unflagged, hand_on, check_insert, check_entry, replaced_by, left_in, judge_left, left_on, Listed, on_tested, closing}
use Rattle.operations.proofs.Going.{placed_count, kept_count, parts_back, cut_of_lem, roots_size}
use Rattle.operations.proofs.Leaving.{entries_back, laid_of, shed_all, shed_by}
use Rattle.operations.proofs.Coming.{enter_length}
use Rattle.operations.proofs.Closing.{on_unsound, lists_test}
use Rattle.operations.proofs.Chains.{refuse, go_on, and_then_lem, first_done, rest_done, revision_left}
use Rattle.operations.proofs.Bundles.{judge_replace_lem}
use Rattle.operations.proofs.Ordering.{entered_order}

-- ---- tests
pub orphan_is : (x a : ActiveLock) (v h : Bool) → v ≡ is_vehicle x.lock.scope → h ≡ has_id x.lock.id a → (v && not h && not a.child && eqb a.lock.subject x.lock.subject) ≡ orphan x a
unfolding orphan
orphan_is x a v h e f = rw (e, f) (simp codes)

-- ---- 6
-- what the code's tests of the locks are
trees_is : (l : List ActiveLock) (ws : List ℕ) (a : ActiveLock) → list_any (λ r. in_tree r a && is_listed ws r) l ≡ in_trees ws l a
trees_is l ws a = any_as (λ r. in_tree r a and is_listed ws r) (λ r. in_tree r a && is_listed ws r) (λ r. and_code (in_tree r a) (is_listed ws r)) l

pub outside_is : (l : List ActiveLock) (ws : List ℕ) (x : ActiveLock) → list_any (λ a. on_scope x.lock.scope a && not (list_any (λ r. in_tree r a && is_listed ws r) l)) l ≡ any (outside ws l x) l
outside_is l ws x = any_as (outside ws l x) _ (λ a. rw (trees_is l ws a) (simp codes)) l

module _ (l : List ActiveLock) (ws : List ℕ) (x : ActiveLock) (b : Bool) (e : b ≡ any (outside ws l x) l) where
  pub holder_yes : b ≡ true → (Err ReplacementScopeConflict) ≡ check_holder l ws x
  unfolding check_holder
  holder_yes t = sym (refuse _ _ _ (sym e ∙ t))

  pub holder_no : b ≡ false → (Ok tt) ≡ check_holder l ws x
  unfolding check_holder
  holder_no t = sym (go_on _ _ _ (sym e ∙ t))

-- ---- the table
module _ (x : ActiveLock) (by at : ℕ) (g : List ActiveLock) (t : List DefunctLock) (hg : length g ≤ 64) (ht : length t ≤ 128) (o : Yes (ascending dkey (enter_all (map (to_defunct x by at) g) t))) (w : Table) (e : w ≡ table_of t) where
  pub wide_laid : Laid w
  wide_laid = rw e (laid_of t (omega arith))

  module _ (u : Table) (f : u ≡ table_of (enter_all (map (to_defunct x by at) g) (entries_of w))) where
    all_in : u ≡ table_of (enter_all (map (to_defunct x by at) g) t)
    all_in = f ∙ ap (λ (y : Table). table_of (enter_all (map (to_defunct x by at) g) (entries_of y))) e ∙ ap (λ (l : List DefunctLock). table_of (enter_all (map (to_defunct x by at) g) l)) (entries_back t)

    pub entered_ranked : Ranked u
    entered_ranked = rw all_in (record {
      laid = laid_of (enter_all (map (to_defunct x by at) g) t) (omega (arith, enter_length (map (to_defunct x by at) g) t, length-map g (to_defunct x by at)));
      order = rw (entries_back (enter_all (map (to_defunct x by at) g) t)) o;
    })

    pub entered_all : (r : Table) → r ≡ table_of (supersede x (entries_of u)) → r ≡ table_of (entered_of x by at g t)
    unfolding entered_of
    entered_all r k = k ∙ ap (λ (y : Table). table_of (supersede x (entries_of y))) all_in ∙ ap (λ (l : List DefunctLock). table_of (supersede x l)) (entries_back (enter_all (map (to_defunct x by at) g) t))

    -- what is left of the table once all that the new lock covers have handed on and are left out
    module _ (goes : List Bool) (wg : u.count ≤ length goes) (marks : (j : ℕ) → j < u.count → get_or goes j false ≡ superseded x (get_or u.entries j blank_defunct)) (m : List DefunctLock) (q : take u.count m ≡ hand_on goes u.count (entries_of u)) where
      pub sifted : unflagged (take u.count goes) (take u.count m) ≡ entered_of x by at g t
      unfolding supersede
      sifted =
          let l = unflagged (take u.count goes) (take u.count m) in
          sym (entries_back l)
          ∙ ap entries_of (entered_all (table_of l) (shed_by u entered_ranked.laid (superseded x) goes wg marks (table_of l) (shed_all u entered_ranked goes wg m q (table_of l) refl)))
          ∙ entries_back (entered_of x by at g t)

-- ---- the answers
-- nothing removed
-- n is the next state, w what the closing check answered
module _ (s n : LockState) (gone : ℕ) (removed : List ActiveLock) (h : Placed removed gone) (w : Result ⊤ Refusal) (q : w ≡ closing n) where
  pub shut_refused : (e : Refusal) → w ≡ Err e → replaced (Err e) [] s ≡ replaced_by s (take gone removed) n
  unfolding replaced_by closing
  shut_refused e f = go (is_sound (broken_rule n)) (sym f ∙ q)
    where
      go : (b : Bool) → ◌≡◌ {A = Result ⊤ Refusal} (Err e) (cond b (Ok tt) (Err Invariant)) → replaced (Err e) [] s ≡ cond b (replaced (Ok tt) (take gone removed) n) (replaced (Err Invariant) [] s)
      go true u = absurd (cc)
      go false u = ap (λ (a : Result ⊤ Refusal). replaced a [] s) u

  pub shut_done : {x : ⊤} → w ≡ Ok x → record { told = record { answer = Ok tt; gone = gone; removed = removed }; state = n } ≡ replaced_by s (take gone removed) n
  unfolding replaced_by closing
  shut_done {x} f = go (is_sound (broken_rule n)) (sym f ∙ q)
    where
      go : (b : Bool) → ◌≡◌ {A = Result ⊤ Refusal} (Ok x) (cond b (Ok tt) (Err Invariant)) → record { told = record { answer = Ok tt; gone = gone; removed = removed }; state = n } ≡ cond b (replaced (Ok tt) (take gone removed) n) (replaced (Err Invariant) [] s)
      go true u = λ j. record { told = record { answer = Ok tt; gone = sym (placed_count removed gone h) j; removed = sym h.same j }; state = n }
      go false u = absurd (cc)

module _ (a : Result ⊤ Refusal) (s : LockState) (g : List ActiveLock) (m : Model) where
  refused_is : is_done a ≡ false → replaced a [] s ≡ settled_replace full a s g m
  unfolding settled_replace
  refused_is t = sym (cond_false (is_done a) (closed_replace full s g m) (replaced a [] s) t)

  done_is : is_done a ≡ true → closed_replace full s g m ≡ settled_replace full a s g m
  unfolding settled_replace
  done_is t = sym (cond_true (is_done a) (closed_replace full s g m) (replaced a [] s) t)

-- ---- once the trees are out
module _ (s : LockState) (h : Ready s) (q : Split ActiveLock) (c : Cut q) (x : ActiveLock) (by at : ℕ) where
  abbrev p : Parts
  p = parts_of q

  abbrev m : Model
  m = model_of s

  pub gone_placed : Placed q.removed q.gone
  gone_placed = record { room = omega (arith, c.room); same = ap (λ (y : Split ActiveLock). y.removed) c.same }

  module _ (a : Result ⊤ Refusal) (g : a ≡ and_then (check_insert p.kept x) (and_then (check_revision s.revision) (first_refusal (check_child x) (filter (orphan x) p.kept)))) (b : Bool) (f : b ≡ is_done a) where
    judge_is : judge_left m p x by at ≡ and_then a (check_room full (left_in m p x by at))
    unfolding judge_left
    judge_is =
        ap (and_then (check_insert p.kept x)) (sym (and_then_lem (check_revision s.revision) (first_refusal (check_child x) (filter (orphan x) p.kept)) (check_room full (left_in m p x by at))))
        ∙ sym (and_then_lem (check_insert p.kept x) (and_then (check_revision s.revision) (first_refusal (check_child x) (filter (orphan x) p.kept))) (check_room full (left_in m p x by at)))
        ∙ ap (λ (y : Result ⊤ Refusal). and_then y (check_room full (left_in m p x by at))) (sym g)

    pub left_refused : b ≡ false → (r : Replaced) → r ≡ replaced a [] s → r ≡ left_on s p x by at
    unfolding left_on and_then
    left_refused t r k =
        let u : is_done a ≡ false = sym f ∙ t in
        let j : judge_left m p x by at ≡ a = judge_is ∙ cond_false (is_done a) (check_room full (left_in m p x by at)) a u in
        k ∙ ap (λ (y : Result ⊤ Refusal). replaced y [] s) (sym j) ∙ refused_is (judge_left m p x by at) s p.gone (left_in m p x by at) (ap is_done j ∙ u)

    module _ (t : b ≡ true) where
      rest_is : judge_left m p x by at ≡ check_room full (left_in m p x by at)
      unfolding and_then
      rest_is = judge_is ∙ cond_true (is_done a) (check_room full (left_in m p x by at)) a (sym f ∙ t)

      pub left_revision : s.revision ≡ last_revision → ⊥
      left_revision = revision_left s.revision (first_done _ _ (rest_done (check_insert p.kept x) _ (ap is_done (sym g) ∙ sym f ∙ t)))

      module _ (u : Ledger) (k : Listed u (entered_of x by at p.gone m.defunct)) where
        room_is : fits full (left_in m p x by at) ≡ non (eqb q.left 64 || ltb 128 u.count)
        unfolding fits left_in
        room_is = rw or_code (cases (eqb q.left 64) (fits full (left_in m p x by at) ≡ non (eqb q.left 64 or ltb 128 u.count))
            (λ y. and_f _ _ (lt-leb (length (insert_by akey x (map (adopt (orphan x) x) p.kept))) 64 (omega (arith, eqb-true q.left 64 y, long))) ∙ sym (non_t _ (or_t _ _ y)))
            (λ y. and_t _ _ (le-leb (length (insert_by akey x (map (adopt (orphan x) x) p.kept))) 64 (omega (arith, eqb-false q.left 64 y, long, c.room))) ∙ second y))
          where
            long : length (insert_by akey x (map (adopt (orphan x) x) p.kept)) ≡ suc q.left
            long = length_insert akey x (map (adopt (orphan x) x) p.kept) ∙ ap suc (length-map p.kept (adopt (orphan x) x) ∙ kept_count q c)

            second : eqb q.left 64 ≡ false → leb (length (entered_of x by at p.gone m.defunct)) 128 ≡ non (eqb q.left 64 or ltb 128 u.count)
            second y = cases (ltb 128 u.count) (leb (length (entered_of x by at p.gone m.defunct)) 128 ≡ non (eqb q.left 64 or ltb 128 u.count))
                (λ z. lt-leb (length (entered_of x by at p.gone m.defunct)) 128 (omega (arith, ltb-true 128 u.count z, k.count)) ∙ sym (non_t _ (or_f _ _ y ∙ z)))
                (λ z. le-leb (length (entered_of x by at p.gone m.defunct)) 128 (omega (arith, ltb-false 128 u.count z, k.count)) ∙ sym (non_f _ (or_f _ _ y ∙ z)))

        pub left_full : (eqb q.left 64 || ltb 128 u.count) ≡ true → (r : Replaced) → r ≡ replaced (Err NoRoom) [] s → r ≡ left_on s p x by at
        unfolding left_on check_room is_done
        left_full y r z =
            let j : judge_left m p x by at ≡ (Err NoRoom) = rest_is ∙ refuse _ _ _ (non_f _ (room_is ∙ non_t _ y)) in
            z ∙ ap (λ (o : Result ⊤ Refusal). replaced o [] s) (sym j) ∙ refused_is (judge_left m p x by at) s p.gone (left_in m p x by at) (ap is_done j)

        module _ (y : (eqb q.left 64 || ltb 128 u.count) ≡ false) where
          pub left_room : (q.left < 64) × (u.count ≤ 128)
          left_room =
              let z = or_no (eqb q.left 64) (ltb 128 u.count) (sym (or_code (eqb q.left 64) (ltb 128 u.count)) ∙ y) in
              (omega (arith, eqb-false q.left 64 z.0, c.room), ltb-false 128 u.count z.1)

          done : is_done (judge_left m p x by at) ≡ true
          unfolding check_room is_done
          done = ap is_done (rest_is ∙ go_on _ _ _ (non_t _ (room_is ∙ non_f _ y)))

          module _ (d : List ActiveLock) (i : d ≡ in_places 64 blank_active (insert_by akey x (map (adopt (orphan x) x) p.kept))) where
            next_is : record { revision = s.revision + 1; active = d; actives = q.left + 1; defunct = u.list; defuncts = u.count } ≡ state_of (left_in m p x by at)
            unfolding left_in
            next_is = λ o. record {
              revision = s.revision + 1;
              active = i o;
              actives = count o;
              defunct = k.same (omega (arith, k.count, left_room.1)) o;
              defuncts = k.count o;
            }
              where
                count : q.left + 1 ≡ length (insert_by akey x (map (adopt (orphan x) x) p.kept))
                count = omega (arith, length_insert akey x (map (adopt (orphan x) x) p.kept), length-map p.kept (adopt (orphan x) x), kept_count q c)

            pub left_done : (n : LockState) (r : Replaced) → n ≡ record { revision = s.revision + 1; active = d; actives = q.left + 1; defunct = u.list; defuncts = u.count } → r ≡ replaced_by s p.gone n → r ≡ left_on s p x by at
            unfolding left_on closed_replace replaced_by
            left_done n r o z = z ∙ ap (replaced_by s p.gone) (o ∙ next_is) ∙ ap (λ (y : Bool). cond y (replaced (Ok tt) p.gone (state_of (left_in m p x by at))) (replaced (Err Invariant) [] s)) (lists_test (left_in m p x by at)) ∙ done_is (judge_left m p x by at) s p.gone (left_in m p x by at) done

-- ---- the whole
module _ (s : LockState) (ws : List ℕ) (y x : ActiveLock) (f : x ≡ normal y) (by at : ℕ) (v : Result ⊤ Unsound) (e : v ≡ broken_rule s) where
  pub whole_broken : (n : Unsound) → v ≡ Err n → (r : Replaced) → r ≡ replaced (Err (UnsoundState (rule_of n))) [] s → r ≡ commit_replacement_on s ws y by at
  unfolding commit_replacement_on commit_replacement_with
  whole_broken n g r k = k ∙ on_unsound s (λ n. replaced (Err (UnsoundState n)) [] s) _ v n e g

  module _ (g : v ≡ Ok tt) (a : Result ⊤ Refusal) (h : a ≡ and_then (check_list ws) (check_entry (model_of s).active (model_of s).defunct ws x)) (b : Bool) (d : b ≡ is_done a) where
    entry_is : judge_replace full (model_of s) ws x by at ≡ and_then a (judge_left (model_of s) (cut_of (model_of s) ws) x by at)
    unfolding judge_left replaced_in left_in
    entry_is = judge_replace_lem full (model_of s) ws x by at ∙ sym (and_then_lem (check_list ws) (check_entry (model_of s).active (model_of s).defunct ws x) _) ∙ ap (λ (o : Result ⊤ Refusal). and_then o (judge_left (model_of s) (cut_of (model_of s) ws) x by at)) (sym h)

    whole : settled_replace full (judge_replace full (model_of s) ws x by at) s (cut_of (model_of s) ws).gone (replaced_in (model_of s) ws x by at) ≡ commit_replacement_on s ws y by at
    unfolding commit_replacement_on commit_replacement_with
    whole = ap (λ (o : ActiveLock). settled_replace full (judge_replace full (model_of s) ws o by at) s (cut_of (model_of s) ws).gone (replaced_in (model_of s) ws o by at)) f ∙ on_sound_lem s (λ n. replaced (Err (UnsoundState n)) [] s) _ v e g

    pub whole_refused : b ≡ false → (r : Replaced) → r ≡ replaced a [] s → r ≡ commit_replacement_on s ws y by at
    unfolding and_then
    whole_refused t r k =
        let u : is_done a ≡ false = sym d ∙ t in
        let j : judge_replace full (model_of s) ws x by at ≡ a = entry_is ∙ cond_false (is_done a) (judge_left (model_of s) (cut_of (model_of s) ws) x by at) a u in
        k ∙ ap (λ (o : Result ⊤ Refusal). replaced o [] s) (sym j) ∙ refused_is (judge_replace full (model_of s) ws x by at) s (cut_of (model_of s) ws).gone (replaced_in (model_of s) ws x by at) (ap is_done j ∙ u) ∙ whole

    module _ (k : Tidy s) (q : Split ActiveLock) (i : q ≡ split_of (cut_of (model_of s) ws)) where
      cut_is : parts_of q ≡ cut_of (model_of s) ws
      cut_is = ap parts_of i ∙ parts_back (cut_of (model_of s) ws)

      pub whole_cut : Cut q
      whole_cut = rw i (cut_of_lem (cut_of (model_of s) ws) (omega (arith, roots_size ws (model_of s).active, active_count s k, k.active)))

      pub whole_order : Yes (ascending dkey (enter_all (map (to_defunct x by at) (parts_of q).gone) (model_of s).defunct))
      whole_order =
          let z = facts_of_state s (sym e ∙ g) in
          subst (λ (o : Parts). Yes (ascending dkey (enter_all (map (to_defunct x by at) o.gone) (model_of s).defunct))) (sym cut_is) (entered_order x by at (model_of s) ws z.order z.one)

      pub whole_rest : b ≡ true → (r : Replaced) → r ≡ left_on s (parts_of q) x by at → r ≡ commit_replacement_on s ws y by at
      unfolding left_on and_then replaced_in left_in
      whole_rest t r z =
          let j : judge_replace full (model_of s) ws x by at ≡ judge_left (model_of s) (cut_of (model_of s) ws) x by at = entry_is ∙ cond_true (is_done a) (judge_left (model_of s) (cut_of (model_of s) ws) x by at) a (sym d ∙ t) in
          z ∙ ap (λ (o : Parts). left_on s o x by at) cut_is ∙ ap (λ (o : Result ⊤ Refusal). settled_replace full o s (cut_of (model_of s) ws).gone (replaced_in (model_of s) ws x by at)) (sym j) ∙ whole

-- ---- the test of the state and the judgement of it in one: a is what they answered
module _ (s : LockState) (ws : List ℕ) (y x : ActiveLock) (f : x ≡ normal y) (by at : ℕ) (a : Result ⊤ Refusal) where
  abbrev entry : Result ⊤ Refusal
  entry = and_then (check_list ws) (check_entry (model_of s).active (model_of s).defunct ws x)

  module _ (h : a ≡ on_tested s entry) where
    pub entry_refused : (e : Refusal) → a ≡ Err e → replaced (Err e) [] s ≡ commit_replacement_on s ws y by at
    unfolding on_sound is_done
    entry_refused e q = go (broken_rule s) refl (sym q ∙ h)
      where
        go : (v : Result ⊤ Unsound) → v ≡ broken_rule s → ◌≡◌ {A = Result ⊤ Refusal} (Err e) (by_verdict v (λ n. Err (UnsoundState n)) entry) → replaced (Err e) [] s ≡ commit_replacement_on s ws y by at
        go (Ok _) w u = whole_refused s ws y x f by at (Ok tt) w refl entry refl (is_done entry) refl (sym (ap is_done u)) _ (ap (λ (z : Result ⊤ Refusal). replaced z [] s) u)
        go (Err (Rule n)) w u = whole_broken s ws y x f by at (Err (Rule n)) w (Rule n) refl _ (ap (λ (z : Result ⊤ Refusal). replaced z [] s) u)

    pub entry_allowed : {z : ⊤} → a ≡ Ok z → (broken_rule s ≡ Ok tt) × (is_done entry ≡ true)
    unfolding on_sound is_done
    entry_allowed {z} q = go (broken_rule s) (sym q ∙ h)
      where
        go : (v : Result ⊤ Unsound) → ◌≡◌ {A = Result ⊤ Refusal} (Ok z) (by_verdict v (λ n. Err (UnsoundState n)) entry) → (v ≡ Ok tt) × (is_done entry ≡ true)
        go (Ok _) u = (refl, sym (ap is_done u))
        go (Err (Rule n)) u = absurd (cc)
