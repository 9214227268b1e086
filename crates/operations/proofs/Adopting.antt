-- Locks that a vehicle lock takes in: the marked ones are those that a test picks; the state with them as its children.
-- Assumes nothing.
use mathlib.Core.Path.{◌≡◌, refl, sym, ap, ◌∙◌}
use mathlib.Core.Bool.{Bool, true}
use mathlib.Core.List.{List, [], ◌∷◌, ◌++◌, map}
use Prim.Native.Nat.{ℕ, zero, suc, ◌+◌, ◌-◌, ◌≤◌, ◌<◌}
use native.Mathlib.Numerals.{add-one}
use native.Mathlib.Omega.{arith}
use lib.Dec.{eqb}
use lib.ListN.{length, get_or, set, take, drop, replicate, length-map}
use lib.Seq.{drop-append_seam}
use Rattle.lists.specs.Places.{in_places}
use Rattle.state.specs.declared.ActiveLock.{ActiveLock}
use Rattle.state.specs.declared.LockState.{LockState}
use Rattle.state.specs.Locks.{blank_active}
use Rattle.state.specs.Model.{Model, model_of, state_of, full, Tidy}
use Rattle.state.proofs.Laws.{active_count, defunct_count, defunct_in_lem, model-of-state, tidy_of}
use Rattle.std.specs.Prelude.{Ok, Err}
use Rattle.operations.specs.declared.answers.Refusal.TheVariants.{NoRoom}
use Rattle.operations.specs.Answers.{is_done, refuse_if}
use Rattle.operations.specs.Trees.{is_listed}
use Rattle.operations.specs.Checks.{check_room, last_revision}
use Rattle.operations.specs.Insert.{inserted_in}
use Rattle.operations.specs.Vehicle.{adopt, adopting, vehicle_in, judge_vehicle}
use Rattle.rules.specs.Rules.{rule9}
use Rattle.operations.specs.Code.{Placed, Ready}
use Rattle.operations.proofs.Going.{placed_count}
use Rattle.operations.proofs.Chains.{first_done, rest_done, revision_left}
use Rattle.operations.proofs.Inserting.{room_judged, room_left, defunct_room}

-- ---- a list changed place by place: what stands before place i is mapped
module _ {A : Type 0} (f : A → A) (d : A) where
  abbrev pub mapped_to : ℕ → List A → List A
  mapped_to i s = map f (take i s) ++ drop i s

  pub map_read : (s : List A) (i : ℕ) → get_or (mapped_to i s) i d ≡ get_or s i d
  map_read [] zero = refl
  map_read [] (suc i) = refl
  map_read (x ∷ xs) zero = refl
  map_read (x ∷ xs) (suc i) = map_read xs i

  pub map_step : (s : List A) (i : ℕ) → i < length s → (v : A) → v ≡ f (get_or s i d) → set (mapped_to i s) i v ≡ mapped_to (suc i) s
  map_step [] i h v e = absurd (omega arith)
  map_step (x ∷ xs) zero h v e = ap (λ (y : A). y ∷ xs) e
  map_step (x ∷ xs) (suc i) h v e = ap (λ (l : List A). f x ∷ l) (map_step xs i (omega arith) v e)

-- the locks are changed within the first places of their array
pub taken : (f : ActiveLock → ActiveLock) (l : List ActiveLock) (n : ℕ) → Placed l n → (b : List ActiveLock) → b ≡ map f (take n l) → b ++ drop n l ≡ in_places 64 blank_active (map f (take n l))
taken f l n h b e =
    let blanks : List ActiveLock = replicate (64 - length (take n l)) blank_active in
    let rest : drop n l ≡ blanks = ap (drop n) (sym h.same) ∙ ap (λ (k : ℕ). drop k (take n l ++ blanks)) (sym (placed_count l n h)) ∙ drop-append_seam (take n l) blanks in
    ap (λ (q : List ActiveLock). q ++ drop n l) e
    ∙ ap (λ (q : List ActiveLock). map f (take n l) ++ q) rest
    ∙ ap (λ (k : ℕ). map f (take n l) ++ replicate (64 - k) blank_active) (sym (length-map (take n l) f))

-- one place more, where y is what the lock there becomes
pub place_changed : (f : ActiveLock → ActiveLock) (s l : List ActiveLock) (i : ℕ) → i < length s → l ≡ mapped_to f blank_active i s → (y : ActiveLock) → y ≡ f (get_or l i blank_active) → set l i y ≡ mapped_to f blank_active (i + 1) s
place_changed f s l i h e y g =
    ap (λ (k : List ActiveLock). set k i y) e
    ∙ map_step f blank_active s i h y (g ∙ ap f (ap (λ (q : List ActiveLock). get_or q i blank_active) e ∙ map_read f blank_active s i))
    ∙ ap (λ (k : ℕ). mapped_to f blank_active k s) (sym (add-one i))

module _ (p : ActiveLock → Bool) (x : ActiveLock) where
  -- ---- the state with its children
  module _ (s : LockState) (h : Ready s) (b : List ActiveLock) (e : b ≡ in_places 64 blank_active (map (adopt p x) (model_of s).active)) where
    abbrev pub with_active : LockState
    with_active = record { revision = s.revision; active = b; actives = s.actives; defunct = s.defunct; defuncts = s.defuncts }

    adopting_is : with_active ≡ state_of (adopting p x (model_of s))
    adopting_is = λ j. record {
      revision = s.revision;
      active = e j;
      actives = (sym (active_count s h.tidy) ∙ sym (length-map (model_of s).active (adopt p x))) j;
      defunct = sym (defunct_in_lem s h.tidy) j;
      defuncts = sym (defunct_count s h.tidy) j;
    }

    adopting_model : model_of with_active ≡ adopting p x (model_of s)
    adopting_model = ap model_of adopting_is ∙ model-of-state (adopting p x (model_of s))

    pub adopting_ready : Ready with_active
    unfolding rule9
    adopting_ready = record {
      tidy = rw adopting_is (tidy_of (adopting p x (model_of s)) (omega (arith, length-map (model_of s).active (adopt p x), active_count s h.tidy, h.tidy.active)) (defunct_room s h.tidy));
      order = h.order;
      free = h.free;
    }

    pub adopting_inserted : (n : LockState) → n ≡ state_of (inserted_in (model_of with_active) x) → n ≡ state_of (inserted_in (adopting p x (model_of s)) x)
    adopting_inserted n f = f ∙ ap (λ (m : Model). state_of (inserted_in m x)) adopting_model

-- ---- 13
pub room_vehicle : (m : Model) (x : ActiveLock) (ws : List ℕ) (n : ℕ) → length m.active ≡ n → n ≤ 64 → length m.defunct ≤ 128 → refuse_if (eqb n 64) (Err NoRoom) (Ok tt) ≡ check_room full (vehicle_in m x ws)
unfolding vehicle_in
room_vehicle m x ws n e h g = room_judged (adopting (is_listed ws) x m) x n (length-map m.active (adopt (is_listed ws) x) ∙ e) h g

-- ---- insert_vehicle: what the judgement leaves
module _ (s : LockState) (k : Tidy s) (x : ActiveLock) (ws : List ℕ) (t : is_done (judge_vehicle full (model_of s) x ws) ≡ true) where
  pub vehicle_allowed : (s.actives < 64) × (s.revision ≡ last_revision → ⊥)
  unfolding judge_vehicle vehicle_in
  vehicle_allowed =
      let r = rest_done _ _ (rest_done _ _ (rest_done _ _ (rest_done _ _ (rest_done _ _ t)))) in
      (room_left (adopting (is_listed ws) x (model_of s)) x s.actives (length-map (model_of s).active (adopt (is_listed ws) x) ∙ active_count s k) k.active (defunct_room s k) (rest_done _ _ (rest_done _ _ r)), revision_left s.revision (first_done _ _ r))
