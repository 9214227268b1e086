-- What the checks of insertions and replacement answer: each refuses by its own answer, never by NoRoom, Invariant or
-- UnsoundState; and each operation's judgement is its checks before 13, then 13.
-- Assumes nothing.
use mathlib.Core.Path.{◌≡◌, refl, ap, ◌∙◌}
use mathlib.Core.Bool.{Bool, true, false, cond}
use mathlib.Core.List.{List, [], ◌∷◌}
use Rattle.std.specs.Prelude.{Option, None, Some}
use Prim.Native.Nat.{ℕ}
use Rattle.lists.specs.Tests.{Yes, No}
use Rattle.lists.specs.Lists.{find, filter}
use Rattle.lists.proofs.Tests.{against, cond_both}
use Rattle.ids.specs.declared.LockId.{LockId}
use Rattle.ids.specs.Words.{ascending_ids}
use Rattle.state.specs.declared.ActiveLock.{ActiveLock}
use Rattle.state.specs.declared.DefunctLock.{DefunctLock}
use Rattle.state.specs.Locks.{has_id}
use Rattle.state.specs.Model.{Model, Limits}
use Rattle.std.specs.Prelude.{Result, Ok, Err, ⊤}
use Rattle.operations.specs.declared.answers.Refusal.{Refusal}
use Rattle.operations.specs.declared.answers.Refusal.TheVariants.{DuplicateId, DuplicateScope, ActiveLockNotFound, ParentNotFound, ParentNotVehicle, ReplacementScopeConflict, CoverageConflict, RevisionOverflow, NotRootVehicle, BadChild, OtherOwner, NotCovered, Invariant, UnsoundState, NoRoom, BadList}
use Rattle.operations.specs.Answers.{is_done, refuse_if, and_then, first_refusal}
use Rattle.operations.specs.Trees.{is_listed}
use Rattle.operations.specs.Checks.{check_list, check_id, check_scope, conflicts, check_conflict, check_clear, check_revision, check_room, check_root, check_active, check_free, check_listed, check_owner, check_cover, check_child, check_holder}
use Rattle.operations.specs.Code.{check_parent, check_found, check_nesting, check_insert, check_entry, judge_bundled}
use Rattle.operations.proofs.Bundles.{judge_insert_lem, judge_replace_lem}
use Rattle.operations.specs.Insert.{inserted_in, judge_insert}
use Rattle.operations.specs.Vehicle.{vehicle_in, judge_vehicle}
use Rattle.operations.specs.Replace.{orphan, cut_of, replaced_in, judge_replace}

-- a test that fails of a and passes of b tells them apart
pub differ : {A : Type 0} (p : A → Bool) {a b : A} → No (p a) → Yes (p b) → a ≡ b → ⊥
differ p f t e = against f (ap p e ∙ t)

-- an answer of none of the checks before 13; where odd is true 14 counts as one too
abbrev pub foreign_if : Bool → Result ⊤ Refusal → Bool
foreign_if odd (Ok tt) = false
foreign_if odd (Err (DuplicateId i)) = false
foreign_if odd (Err DuplicateScope) = false
foreign_if odd (Err (ActiveLockNotFound i)) = false
foreign_if odd (Err (ParentNotFound i)) = false
foreign_if odd (Err (ParentNotVehicle i)) = false
foreign_if odd (Err ReplacementScopeConflict) = false
foreign_if odd (Err (CoverageConflict i at)) = false
foreign_if odd (Err RevisionOverflow) = false
foreign_if odd (Err NotRootVehicle) = false
foreign_if odd (Err (BadChild i)) = false
foreign_if odd (Err (OtherOwner i j)) = false
foreign_if odd (Err (NotCovered i j)) = false
foreign_if odd (Err Invariant) = true
foreign_if odd (Err (UnsoundState n)) = true
foreign_if odd (Err NoRoom) = true
foreign_if odd (Err BadList) = odd

abbrev pub foreign : Result ⊤ Refusal → Bool
foreign = foreign_if false

-- no check gives it
module _ (odd : Bool) where
  if_not : (c : Bool) (a b : Result ⊤ Refusal) → No (foreign_if odd a) → No (foreign_if odd b) → No (foreign_if odd (cond c a b))
  if_not c a b f g = cond_both (λ (r : Result ⊤ Refusal). No (foreign_if odd r)) a b c (λ t. f) (λ t. g)

  refuse_not : (c : Bool) (a b : Result ⊤ Refusal) → No (foreign_if odd a) → No (foreign_if odd b) → No (foreign_if odd (refuse_if c a b))
  unfolding refuse_if
  refuse_not = if_not

  then_not : (a b : Result ⊤ Refusal) → No (foreign_if odd a) → No (foreign_if odd b) → No (foreign_if odd (and_then a b))
  unfolding and_then
  then_not a b f g = if_not (is_done a) b a g f

  nesting_not : (l : List ActiveLock) (x : ActiveLock) → No (foreign_if odd (check_nesting l x))
  unfolding check_nesting check_parent
  nesting_not l x = if_not x.child _ (Ok tt) (go (find (has_id x.parent) l)) refl
    where
      go : (o : Option ActiveLock) → No (foreign_if odd (check_found x o))
      go None = refl
      go (Some p) = refuse_not _ _ _ refl (refuse_not _ _ _ refl (refuse_not _ _ _ refl refl))

  clear_not : (l : List ActiveLock) (x : ActiveLock) → No (foreign_if odd (check_clear l x))
  unfolding check_clear
  clear_not l x = go (find (conflicts x) l)
    where
      go : (o : Option ActiveLock) → No (foreign_if odd (check_conflict x o))
      go None = refl
      go (Some a) = refl

  insert_not : (l : List ActiveLock) (x : ActiveLock) → No (foreign_if odd (check_insert l x))
  unfolding check_insert check_scope
  insert_not l x = then_not _ _ (refuse_not _ _ _ refl refl) (then_not _ _ (nesting_not l x) (clear_not l x))

  first_not : {A : Type 0} (c : A → Result ⊤ Refusal) → ((a : A) → No (foreign_if odd (c a))) → (l : List A) → No (foreign_if odd (first_refusal c l))
  first_not c f [] = refl
  first_not c f (a ∷ l) = then_not _ _ (f a) (first_not c f l)

  active_not : (l : List ActiveLock) (i : LockId) → No (foreign_if odd (check_active l i))
  unfolding check_active
  active_not l i = refuse_not _ _ _ refl refl

  listed_not : (l : List ActiveLock) (i : LockId) → No (foreign_if odd (check_listed l i))
  unfolding check_listed check_free
  listed_not l i = then_not _ _ (active_not l i) (refuse_not _ _ _ refl refl)

  child_not : (x a : ActiveLock) → No (foreign_if odd (check_child x a))
  unfolding check_child check_owner check_cover
  child_not x a = then_not _ _ (refuse_not _ _ _ refl refl) (refuse_not _ _ _ refl refl)

  entry_not : (l : List ActiveLock) (t : List DefunctLock) (ws : List ℕ) (x : ActiveLock) → No (foreign_if odd (check_entry l t ws x))
  unfolding check_entry check_id check_holder
  entry_not l t ws x = then_not _ _ (first_not (check_active l) (active_not l) (ascending_ids ws)) (then_not _ _ (refuse_not _ _ _ refl refl) (refuse_not _ _ _ refl refl))

-- ---- chains
pub then_assoc : (a b c : Result ⊤ Refusal) → and_then a (and_then b c) ≡ and_then (and_then a b) c
unfolding and_then
then_assoc a b c = go (is_done a) refl
  where
    go : (d : Bool) → is_done a ≡ d → cond d (cond (is_done b) c b) a ≡ cond (is_done (cond d b a)) c (cond d b a)
    go true e = refl
    go false e = rw e

-- the checks before 13
abbrev pub before_insert : Model → ActiveLock → Result ⊤ Refusal
before_insert m x = and_then (and_then (check_id m.active m.defunct x) (check_insert m.active x)) (check_revision m.revision)

abbrev pub before_vehicle : Model → ActiveLock → List ℕ → Result ⊤ Refusal
before_vehicle m x ws =
    and_then (and_then (and_then (and_then (and_then (and_then (check_list ws) (check_root x)) (first_refusal (check_listed m.active) (ascending_ids ws))) (check_id m.active m.defunct x)) (check_scope m.active x)) (check_revision m.revision))
    (first_refusal (check_child x) (filter (is_listed ws) m.active))

abbrev pub before_replace : Model → List ℕ → ActiveLock → Result ⊤ Refusal
before_replace m ws x =
    and_then (and_then (and_then (and_then (check_list ws) (check_entry m.active m.defunct ws x)) (check_insert (cut_of m ws).kept x)) (check_revision m.revision))
    (first_refusal (check_child x) (filter (orphan x) (cut_of m ws).kept))

module _ (m : Model) where
  pub insert_parts : (k : Limits) (x : ActiveLock) → judge_insert k m x ≡ and_then (before_insert m x) (check_room k (inserted_in m x))
  unfolding judge_bundled
  insert_parts k x = judge_insert_lem k m x ∙ simp then_assoc

  pub vehicle_parts : (k : Limits) (x : ActiveLock) (ws : List ℕ) → judge_vehicle k m x ws ≡ and_then (before_vehicle m x ws) (check_room k (vehicle_in m x ws))
  unfolding judge_vehicle
  vehicle_parts k x ws = simp then_assoc

  pub replace_parts : (k : Limits) (ws : List ℕ) (x : ActiveLock) (by at : ℕ) → judge_replace k m ws x by at ≡ and_then (before_replace m ws x) (check_room k (replaced_in m ws x by at))
  replace_parts k ws x by at = judge_replace_lem k m ws x by at ∙ simp then_assoc

  module _ (odd : Bool) where
    id_not : (x : ActiveLock) → No (foreign_if odd (check_id m.active m.defunct x))
    unfolding check_id
    id_not x = refuse_not odd _ _ _ refl refl

    revision_not : No (foreign_if odd (check_revision m.revision))
    unfolding check_revision
    revision_not = refuse_not odd _ _ _ refl refl

    pub insert_own_if : (x : ActiveLock) → No (foreign_if odd (before_insert m x))
    insert_own_if x = then_not odd _ _ (then_not odd _ _ (id_not x) (insert_not odd m.active x)) revision_not

    pub vehicle_own_if : (x : ActiveLock) (ws : List ℕ) → No (foreign_if odd (check_list ws)) → No (foreign_if odd (before_vehicle m x ws))
    unfolding check_root check_scope
    vehicle_own_if x ws h =
        then_not odd _ _ (then_not odd _ _ (then_not odd _ _ (then_not odd _ _ (then_not odd _ _ (then_not odd _ _ h (refuse_not odd _ _ _ refl refl)) (first_not odd (check_listed m.active) (listed_not odd m.active) (ascending_ids ws))) (id_not x)) (refuse_not odd _ _ _ refl refl)) revision_not)
        (first_not odd (check_child x) (child_not odd x) (filter (is_listed ws) m.active))

    pub replace_own_if : (ws : List ℕ) (x : ActiveLock) → No (foreign_if odd (check_list ws)) → No (foreign_if odd (before_replace m ws x))
    replace_own_if ws x h =
        then_not odd _ _ (then_not odd _ _ (then_not odd _ _ (then_not odd _ _ h (entry_not odd m.active m.defunct ws x)) (insert_not odd (cut_of m ws).kept x)) revision_not)
        (first_not odd (check_child x) (child_not odd x) (filter (orphan x) (cut_of m ws).kept))

  list_not : (ws : List ℕ) → No (foreign (check_list ws))
  unfolding check_list
  list_not ws = refuse_not false _ _ _ refl refl

  pub insert_own : (x : ActiveLock) → No (foreign (before_insert m x))
  insert_own = insert_own_if false

  pub vehicle_own : (x : ActiveLock) (ws : List ℕ) → No (foreign (before_vehicle m x ws))
  vehicle_own x ws = vehicle_own_if false x ws (list_not ws)

  pub replace_own : (ws : List ℕ) (x : ActiveLock) → No (foreign (before_replace m ws x))
  replace_own ws x = replace_own_if false ws x (list_not ws)
