-- What `delete_on` and `begin_expiration_on` are in each case of their tests.
-- Assumes nothing.
use mathlib.Core.Bool.{Bool, true, false, cond}
use mathlib.Core.List.{[]}
use mathlib.Core.Path.{◌≡◌, refl, sym, ap, ◌∙◌}
use Prim.Native.Nat.{ℕ, ◌+◌}
use lib.Dec.{eqb, ltb}
use borrow.Author.Tests.{eq-eqb}
use mathlib.Core.List.{map}
use mathlib.Core.List.{List}
use mathlib.Core.Path.{subst}
use lib.ListN.{length}
use lib.Seq.{length-take-le}
use Prim.Native.Nat.{◌≤◌}
use Rattle.operations.proofs.Going.{held_split}
use Rattle.operations.specs.Code.{parts_in}
use Rattle.operations.specs.Code.{Sorting}
use Rattle.operations.specs.Code.{halves_of}
use Rattle.operations.specs.Code.{lock_at}
use Rattle.state.specs.Locks.{blank_active}
use Rattle.lists.specs.Places.{in_places}
use Rattle.std.specs.Prelude.{Option, None, Some, Result, Ok, Err, ⊤}
use Rattle.lists.specs.Lists.{find}
use Rattle.ids.specs.declared.LockId.{LockId}
use Rattle.state.specs.declared.ActiveLock.{ActiveLock}
use Rattle.state.specs.declared.LockState.{LockState}
use Rattle.state.specs.Locks.{has_id}
use Rattle.state.specs.Model.{model_of, state_of, Tidy}
use Rattle.state.proofs.Laws.{defunct_count, defunct_in_lem}
use Rattle.rules.specs.declared.Unsound.{Unsound}
use Rattle.rules.specs.declared.Unsound.TheVariants.{Rule}
use Rattle.rules.specs.Rules.{broken_rule}
use Rattle.lookups.specs.Reads.{by_verdict, on_sound}
use Rattle.operations.specs.declared.answers.DeletionRefusal.{DeletionRefusal}
use Rattle.operations.specs.declared.answers.DeletionRefusal.TheVariants as deletion
use Rattle.operations.specs.declared.answers.StateRefusal.{StateRefusal}
use Rattle.operations.specs.declared.answers.StateRefusal.TheVariants as unsound
use Rattle.operations.specs.declared.answers.Expiration.{Expiration}
use Rattle.operations.specs.declared.answers.Expiration.TheVariants.{Done, NotDue}
use Rattle.operations.specs.declared.trees.Split.{Split}
use Rattle.operations.specs.Trees.{Parts, start_parts, tree_parts}
use Rattle.operations.specs.Answers.{Deleted, Expired, removing}
use Rattle.operations.specs.Checks.{at_last_lem, last_revision}
use Rattle.operations.specs.Code.{split_of, deletable_found, deletable, due_found, due}
use Rattle.operations.specs.Delete.{tree_out, without_tree, deleted, delete_found, delete_on, expired, as_expired, expire_found, begin_expiration_on}

-- ---- the parts m of the active locks, within the list that is held
pub held_cut : (s : LockState) → s.actives ≤ length s.active → (m : Parts) (c : Split ℕ) → Sorting (length (model_of s).active) c → parts_in (model_of s).active (halves_of c) ≡ m
    → (k w : List ActiveLock) → k ≡ in_places 64 blank_active (map (lock_at s.active) (halves_of c).kept) → w ≡ in_places 64 blank_active (map (lock_at s.active) (halves_of c).gone)
    → record { left = c.left; kept = k; gone = c.gone; removed = w } ≡ split_of m
held_cut s h m c o p k w e f = held_split s.active s.actives h c (subst (λ (n : ℕ). Sorting n c) (length-take-le s.actives s.active h) o) k w e f ∙ ap split_of p

-- ---- the tree of r out
module _ (s : LockState) (t : Tidy s) (r : ActiveLock) (x : Split ActiveLock) (f : x ≡ split_of (tree_parts r (start_parts (model_of s).active))) where
  pub cut_state : record { revision = s.revision + 1; active = x.kept; actives = x.left; defunct = s.defunct; defuncts = s.defuncts } ≡ state_of (without_tree (model_of s) r)
  unfolding without_tree
  cut_state = λ j. record {
    revision = s.revision + 1;
    active = (f j).kept;
    actives = (f j).left;
    defunct = sym (defunct_in_lem s t) j;
    defuncts = sym (defunct_count s t) j;
  }

  pub cut_told : {A : Type 0} (a : A) → record { answer = a; gone = x.gone; removed = x.removed } ≡ removing a (tree_out (model_of s) r).gone
  cut_told a = λ j. record { answer = a; gone = (f j).gone; removed = (f j).removed }

-- ---- what is told, and the state that is left, by the lock that goes or by what refuses
module _ (s : LockState) (i : LockId) where
  abbrev deleted_by : Result ActiveLock DeletionRefusal → Deleted
  deleted_by (Ok r) = deleted (Ok tt) (tree_out (model_of s) r).gone (state_of (without_tree (model_of s) r))
  deleted_by (Err e) = deleted (Err e) [] s

  found_is : (o : Option ActiveLock) → deleted_by (deletable_found s i o) ≡ delete_found s i o
  unfolding delete_found
  found_is None = refl
  found_is (Some r) = go (at_last_lem s.revision)
    where
      go : (b : Bool) → deleted_by (cond b (Err deletion.RevisionOverflow) (Ok r)) ≡ cond b (deleted (Err deletion.RevisionOverflow) [] s) (deleted (Ok tt) (tree_out (model_of s) r).gone (state_of (without_tree (model_of s) r)))
      go true = refl
      go false = refl

  delete_is : deleted_by (deletable s i) ≡ delete_on s i
  unfolding deletable delete_on on_sound
  delete_is = go (broken_rule s)
    where
      go : (v : Result ⊤ Unsound) → deleted_by (by_verdict v (λ n. Err (deletion.UnsoundState n)) (deletable_found s i (find (has_id i) (model_of s).active))) ≡ by_verdict v (λ n. deleted (Err (deletion.UnsoundState n)) [] s) (delete_found s i (find (has_id i) (model_of s).active))
      go (Ok _) = found_is (find (has_id i) (model_of s).active)
      go (Err (Rule n)) = refl

  module _ (a : Result ActiveLock DeletionRefusal) (g : a ≡ deletable s i) where
    pub not_deleted : (e : DeletionRefusal) → a ≡ Err e → deleted (Err e) [] s ≡ delete_on s i
    not_deleted e f = ap deleted_by (sym f ∙ g) ∙ delete_is

    module _ (r : ActiveLock) (f : a ≡ Ok r) where
      pub deleted_is : deleted (Ok tt) (tree_out (model_of s) r).gone (state_of (without_tree (model_of s) r)) ≡ delete_on s i
      deleted_is = ap deleted_by (sym f ∙ g) ∙ delete_is

      pub deletable_is : (broken_rule s ≡ Ok tt) × (s.revision ≡ last_revision → ⊥)
      unfolding deletable on_sound at_last_lem
      deletable_is = go (broken_rule s) (find (has_id i) (model_of s).active) (sym g ∙ f)
        where
          go : (v : Result ⊤ Unsound) (o : Option ActiveLock) → ◌≡◌ {A = Result ActiveLock DeletionRefusal} (by_verdict v (λ n. Err (deletion.UnsoundState n)) (deletable_found s i o)) (Ok r) → (v ≡ Ok tt) × (s.revision ≡ last_revision → ⊥)
          go (Err (Rule n)) o e = absurd (cc)
          go (Ok _) None e = absurd (cc)
          go (Ok _) (Some l) e = (refl, λ q. let w : eqb s.revision last_revision ≡ true = eq-eqb s.revision last_revision q in let z : ◌≡◌ {A = Result ActiveLock DeletionRefusal} (Err deletion.RevisionOverflow) (Ok r) = rw w at e in cc)

  -- ---- begin_expiration
  module _ (now : ℕ) where
    abbrev expired_by : Result ActiveLock (Result Expiration StateRefusal) → Expired
    expired_by (Ok r) = expired (Ok Done) (tree_out (model_of s) r).gone (state_of (without_tree (model_of s) r))
    expired_by (Err a) = expired a [] s

    due_is : expired_by (due s i now) ≡ begin_expiration_on s i now
    unfolding due begin_expiration_on expire_found delete_on delete_found on_sound
    due_is = go (broken_rule s) (find (has_id i) (model_of s).active) refl refl
      where
        kinds : (r : ActiveLock) (x y : Bool)
            → expired_by (cond x (Err (Ok (NotDue r.expires))) (cond y (Err (Err unsound.RevisionOverflow)) (Ok r)))
            ≡ cond x (expired (Ok (NotDue r.expires)) [] s) (as_expired (cond y (deleted (Err deletion.RevisionOverflow) [] s) (deleted (Ok tt) (tree_out (model_of s) r).gone (state_of (without_tree (model_of s) r)))))
        kinds r true y = refl
        kinds r false true = refl
        kinds r false false = refl

        go : (v : Result ⊤ Unsound) (o : Option ActiveLock) → broken_rule s ≡ v → find (has_id i) (model_of s).active ≡ o
            → expired_by (by_verdict v (λ n. Err (Err (unsound.UnsoundState n))) (due_found s now o))
            ≡ by_verdict v (λ n. expired (Err (unsound.UnsoundState n)) [] s) (expire_found s i now o)
        go (Err (Rule n)) o e f = refl
        go (Ok _) None e f = refl
        go (Ok _) (Some r) e f = rw (e, f) (kinds r (ltb now r.expires) (at_last_lem s.revision))

    module _ (a : Result ActiveLock (Result Expiration StateRefusal)) (g : a ≡ due s i now) where
      pub not_expired : (e : Result Expiration StateRefusal) → a ≡ Err e → expired e [] s ≡ begin_expiration_on s i now
      not_expired e f = ap expired_by (sym f ∙ g) ∙ due_is

      module _ (r : ActiveLock) (f : a ≡ Ok r) where
        pub expired_is : expired (Ok Done) (tree_out (model_of s) r).gone (state_of (without_tree (model_of s) r)) ≡ begin_expiration_on s i now
        expired_is = ap expired_by (sym f ∙ g) ∙ due_is

        pub due_allows : (broken_rule s ≡ Ok tt) × (s.revision ≡ last_revision → ⊥)
        unfolding due on_sound at_last_lem
        due_allows = go (broken_rule s) (find (has_id i) (model_of s).active) (sym g ∙ f)
          where
            R : Type 0
            R = Result ActiveLock (Result Expiration StateRefusal)

            kinds : (x y : Bool) (l : ActiveLock) → ◌≡◌ {A = R} (cond x (Err (Ok (NotDue l.expires))) (cond y (Err (Err unsound.RevisionOverflow)) (Ok l))) (Ok r) → y ≡ true → ⊥
            kinds true y l e q = cc
            kinds false true l e q = cc
            kinds false false l e q = cc

            go : (v : Result ⊤ Unsound) (o : Option ActiveLock) → ◌≡◌ {A = R} (by_verdict v (λ n. Err (Err (unsound.UnsoundState n))) (due_found s now o)) (Ok r) → (v ≡ Ok tt) × (s.revision ≡ last_revision → ⊥)
            go (Err (Rule n)) o e = absurd (cc)
            go (Ok _) None e = absurd (cc)
            go (Ok _) (Some l) e = (refl, λ q. kinds (ltb now l.expires) (eqb s.revision last_revision) l e (eq-eqb s.revision last_revision q))
