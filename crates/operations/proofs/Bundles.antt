-- Checks that the code makes in one function, against the definitions' lines.
-- Assumes nothing.
use mathlib.Core.Path.{◌≡◌, refl, sym, ap, ap₂, ◌∙◌}
use mathlib.Core.Bool.{Bool, true, false, cond}
use mathlib.Core.List.{List, [], ◌∷◌}
use Rattle.std.specs.Prelude.{Option, None, Some}
use Prim.Native.Nat.{ℕ}
use lib.Dec.{eqb}
use borrow.Author.Tests.{eq-eqb, eqb-true}
use Rattle.lists.specs.Tests.{◌and◌, non}
use Rattle.lists.specs.Lists.{filter}
use Rattle.lists.proofs.Tests.{by, and_r}
use Rattle.ids.specs.Words.{ascending_ids}
use Rattle.coverage.specs.Coverage.{within}
use Rattle.state.specs.declared.ActiveLock.{ActiveLock}
use Rattle.state.specs.Locks.{is_vehicle}
use Rattle.state.specs.Model.{Model, Limits}
use Rattle.std.specs.Prelude.{Result, Ok, Err, ⊤}
use Rattle.operations.specs.declared.answers.Refusal.{Refusal}
use Rattle.operations.specs.declared.answers.Refusal.TheVariants.{ParentNotFound, ParentNotVehicle, OtherOwner, NotCovered}
use Rattle.operations.specs.Answers.{is_done, refuse_if, and_then, first_refusal}
use Rattle.operations.specs.Checks.{parent_of, absent, present, check_list, check_id, check_scope, check_parent_active, check_parent_vehicle, check_parent_owner, check_parent_cover, check_clear, check_revision, check_room, check_active, check_owner, check_cover, check_child, check_holder}
use Rattle.operations.specs.Insert.{inserted_in, judge_insert}
use Rattle.operations.specs.Replace.{orphan, cut_of, replaced_in, judge_replace}
use Rattle.operations.specs.Code.{check_parent, check_found, check_nesting, check_insert, check_entry, judge_bundled}
use Rattle.operations.proofs.Chains.{and_then_lem}

-- ---- 4, 5, 11.3, 11.4
module _ (x : ActiveLock) (rest : Result ⊤ Refusal) where
  abbrev four : Bool → Option ActiveLock → Result ⊤ Refusal
  four b o =
      and_then (refuse_if (b and absent o) (Err (ParentNotFound x.parent)) (Ok tt))
      (and_then (refuse_if (b and present (λ p. non (is_vehicle p.lock.scope)) o) (Err (ParentNotVehicle x.parent)) (Ok tt))
      (and_then (refuse_if (b and present (λ p. non (eqb p.lock.subject x.lock.subject)) o) (Err (OtherOwner x.lock.id x.parent)) (Ok tt))
      (and_then (refuse_if (b and present (λ p. non (within x.lock.coverage p.lock.coverage)) o) (Err (NotCovered x.lock.id x.parent)) (Ok tt)) rest)))

  -- by what the three tests of the parent say
  three : (v s w : Bool)
      → and_then (refuse_if (true and non v) (Err (ParentNotVehicle x.parent)) (Ok tt))
      (and_then (refuse_if (true and non s) (Err (OtherOwner x.lock.id x.parent)) (Ok tt)) (and_then (refuse_if (true and non w) (Err (NotCovered x.lock.id x.parent)) (Ok tt)) rest))
      ≡ and_then (refuse_if (non v) (Err (ParentNotVehicle x.parent)) (refuse_if (non s) (Err (OtherOwner x.lock.id x.parent)) (refuse_if (non w) (Err (NotCovered x.lock.id x.parent)) (Ok tt)))) rest
  unfolding and_then refuse_if is_done ◌and◌ non
  three false s w = refl
  three true false w = refl
  three true true false = refl
  three true true true = refl

  four_is : (b : Bool) (o : Option ActiveLock) → four b o ≡ and_then (cond b (check_found x o) (Ok tt)) rest
  unfolding check_parent and_then refuse_if is_done ◌and◌
  four_is false o = refl
  four_is true None = refl
  four_is true (Some p) = three (is_vehicle p.lock.scope) (eqb p.lock.subject x.lock.subject) (within x.lock.coverage p.lock.coverage)

-- ---- 2, 4, 5, 11.3, 11.4, 7
module _ (l : List ActiveLock) (x : ActiveLock) (rest : Result ⊤ Refusal) where
  nesting_is : and_then (check_parent_active l x) (and_then (check_parent_vehicle l x) (and_then (check_parent_owner l x) (and_then (check_parent_cover l x) rest))) ≡ and_then (check_nesting l x) rest
  unfolding check_parent_active check_parent_vehicle check_parent_owner check_parent_cover check_nesting
  nesting_is = four_is x rest x.child (parent_of l x)

  abbrev pub six : Result ⊤ Refusal
  six =
      and_then (check_scope l x)
      (and_then (check_parent_active l x) (and_then (check_parent_vehicle l x) (and_then (check_parent_owner l x) (and_then (check_parent_cover l x) (and_then (check_clear l x) rest)))))

module _ (l : List ActiveLock) (x : ActiveLock) (rest : Result ⊤ Refusal) where
  pub insert_is : six l x rest ≡ and_then (check_insert l x) rest
  unfolding check_insert
  insert_is =
      ap (and_then (check_scope l x)) (nesting_is l x (and_then (check_clear l x) rest) ∙ sym (and_then_lem (check_nesting l x) (check_clear l x) rest))
      ∙ sym (and_then_lem (check_scope l x) (and_then (check_nesting l x) (check_clear l x)) rest)

pub judge_insert_lem : (k : Limits) (m : Model) (x : ActiveLock) → judge_insert k m x ≡ judge_bundled k m x
unfolding judge_insert judge_bundled
judge_insert_lem k m x = ap (and_then (check_id m.active m.defunct x)) (insert_is m.active x (and_then (check_revision m.revision) (check_room k (inserted_in m x))))

-- ---- locks of the vehicle lock's own subject are not refused by 11.3
module _ (x : ActiveLock) where
  own : (a : ActiveLock) → orphan x a ≡ true → check_cover x a ≡ check_child x a
  unfolding orphan check_child check_owner and_then refuse_if is_done non
  own a t = let e : eqb x.lock.subject a.lock.subject ≡ true = eq-eqb x.lock.subject a.lock.subject (sym (eqb-true a.lock.subject x.lock.subject (and_r _ _ t))) in rw e

  pub adopted_is : (l : List ActiveLock) → first_refusal (check_cover x) (filter (orphan x) l) ≡ first_refusal (check_child x) (filter (orphan x) l)
  adopted_is [] = refl
  adopted_is (a ∷ l) = by (orphan x a) (first_refusal (check_cover x) (filter (orphan x) (a ∷ l)) ≡ first_refusal (check_child x) (filter (orphan x) (a ∷ l)))
      (λ t. rw t (ap₂ and_then (own a t) (adopted_is l)))
      (λ t. rw t (adopted_is l))

-- ---- a replacement: 14; 3, 1, 6; the insertion's; 8; 11.3 and 11.4; 13
pub judge_replace_lem : (k : Limits) (m : Model) (ws : List ℕ) (x : ActiveLock) (by at : ℕ) → judge_replace k m ws x by at
    ≡ and_then (check_list ws)
    (and_then (check_entry m.active m.defunct ws x)
    (and_then (check_insert (cut_of m ws).kept x)
    (and_then (check_revision m.revision) (and_then (first_refusal (check_child x) (filter (orphan x) (cut_of m ws).kept)) (check_room k (replaced_in m ws x by at))))))
unfolding judge_replace check_entry
judge_replace_lem k m ws x by at =
    ap (and_then (check_list ws))
    (ap (λ (y : Result ⊤ Refusal). and_then A (and_then I (and_then H y)))
    (insert_is (cut_of m ws).kept x (and_then (check_revision m.revision) (and_then (first_refusal (check_cover x) (filter (orphan x) (cut_of m ws).kept)) (check_room k (replaced_in m ws x by at))))
    ∙ ap (λ (y : Result ⊤ Refusal). and_then (check_insert (cut_of m ws).kept x) (and_then (check_revision m.revision) (and_then y (check_room k (replaced_in m ws x by at))))) (adopted_is x (cut_of m ws).kept))
    ∙ ap (and_then A) (sym (and_then_lem I H _)) ∙ sym (and_then_lem A (and_then I H) _))
  where
    A : Result ⊤ Refusal
    A = first_refusal (check_active m.active) (ascending_ids ws)

    I : Result ⊤ Refusal
    I = check_id m.active m.defunct x

    H : Result ⊤ Refusal
    H = check_holder m.active ws x
