-- What each check says once it has passed.
-- Assumes nothing.
use mathlib.Core.Path.{◌≡◌, refl, sym, ap, ◌∙◌}
use mathlib.Core.Bool.{Bool, true, false, false≢true}
use mathlib.Core.List.Memᴰ
use mathlib.Core.List.{List, [], ◌∷◌}
use Rattle.std.specs.Prelude.{Option, None, Some}
use mathlib.Core.Logic.{inl, inr}
use Prim.Native.Nat.{ℕ}
use lib.Dec.{eqb}
use borrow.Author.Tests.{eq-eqb, eqb-true}
use Rattle.lists.specs.Tests.{◌and◌, non, Yes, No}
use Rattle.lists.specs.Lists.{find, filter, Mem}
use Rattle.lists.proofs.Tests.{against, →no, and_i, or_no, cond_true, cond_both}
use Rattle.lists.proofs.Lists.{any→, →any, →filter, find→, find_none→, find_cases}
use Rattle.ids.specs.declared.LockId.{LockId}
use Rattle.ids.specs.Order.{key, same_id, before_id}
use Rattle.ids.specs.Words.{ids_of, listed_in, insert_id, insert_ids, ascending_ids}
use Rattle.coverage.specs.Coverage.{within}
use Rattle.state.specs.declared.ActiveLock.{ActiveLock}
use Rattle.state.specs.declared.DefunctLock.{DefunctLock}
use Rattle.state.specs.Locks.{akey, dkey, is_vehicle, same_scope, has_id, has_id_d}
use Rattle.state.specs.Model.{Model, Limits, fits}
use Rattle.lookups.specs.Reads.{on_scope}
use Rattle.std.specs.Prelude.{Result, Ok, ⊤}
use Rattle.operations.specs.declared.answers.Refusal.{Refusal}
use Rattle.operations.specs.Answers.{is_done, first_refusal}
use Rattle.operations.specs.Trees.{is_listed}
use Rattle.operations.specs.Checks.{check_id, check_scope, conflicts, check_clear, check_room, check_root, missing, check_active, settled_lock, check_free, check_listed, check_owner, check_cover, check_child}
use Rattle.operations.specs.Code.{check_parent, check_found, check_nesting}
use Rattle.operations.proofs.Refusing.{listed_same}
use Rattle.promises.proofs.Passed.{then_done, went_on}
use Rattle.promises.proofs.Core.{Parent}

pub non_no : (b : Bool) → No (non b) → Yes b
unfolding non
non_no true e = refl
non_no false e = sym e

-- ---- 1
pub id_ok : (l : List ActiveLock) (t : List DefunctLock) (x : ActiveLock) → Yes (is_done (check_id l t x))
    → ((a : ActiveLock) → Mem a l → akey a ≡ akey x → ⊥) × ((d : DefunctLock) → Mem d t → dkey d ≡ akey x → ⊥)
unfolding check_id has_id has_id_d is_done
id_ok l t x e =
    let h = (went_on _ _ _ refl e).0 in
    (λ a u q. against (or_no _ _ h).0 (→any (has_id x.lock.id) u (eq-eqb _ _ q)), λ d u q. against (or_no _ _ h).1 (→any (has_id_d x.lock.id) u (eq-eqb _ _ q)))

-- ---- 2
pub scope_ok : (l : List ActiveLock) (x : ActiveLock) → Yes (is_done (check_scope l x)) → (a : ActiveLock) → Mem a l → Yes (same_scope a.lock.scope x.lock.scope) → ⊥
unfolding check_scope on_scope is_done
scope_ok l x e a u t = against (went_on _ _ _ refl e).0 (→any (on_scope x.lock.scope) u t)

-- ---- 4, 5, 11.3, 11.4
pub nest_ok : (l : List ActiveLock) (x : ActiveLock) → Yes (is_done (check_nesting l x)) → Yes x.child → (p : ActiveLock) × Parent l x p
unfolding check_nesting check_parent has_id is_done
nest_ok l x e c = go (find (has_id x.parent) l) refl (rw (cond_true x.child (check_found x (find (has_id x.parent) l)) (Ok tt) c) at e)
  where
    go : (o : Option ActiveLock) → find (has_id x.parent) l ≡ o → Yes (is_done (check_found x o)) → (p : ActiveLock) × Parent l x p
    go None q e = absurd (false≢true e)
    go (Some p) q e =
        let h1 = went_on _ _ _ refl e in
        let h2 = went_on _ _ _ refl h1.1 in
        let h3 = went_on _ _ _ refl h2.1 in
        let f = find→ _ l q in
        (p, record { there = f.0; id = eqb-true _ _ f.1; kind = non_no _ h1.0; owner = eqb-true _ _ (non_no _ h2.0); inside = non_no _ h3.0 })

-- ---- 7
pub clear_ok : (l : List ActiveLock) (x : ActiveLock) → Yes (is_done (check_clear l x)) → (a : ActiveLock) → Mem a l → Yes (conflicts x a) → ⊥
unfolding check_clear is_done
clear_ok l x e a u t = elim (find_cases (conflicts x) l) [ inl w ↦ false≢true (rw w.1 at e) | inr n ↦ find_none→ (conflicts x) l n u t ]

-- ---- 13
pub room_ok : (k : Limits) (m : Model) → Yes (is_done (check_room k m)) → Yes (fits k m)
unfolding check_room is_done
room_ok k m e = non_no _ (went_on _ _ _ refl e).0

-- ---- 11.1
pub root_ok : (x : ActiveLock) → Yes (is_done (check_root x)) → Yes (is_vehicle x.lock.scope) × No x.child
unfolding check_root is_done
root_ok x e = let h = or_no _ _ (went_on _ _ _ refl e).0 in (non_no _ h.0, h.1)

-- ---- where nothing of a list is refused, each passes
all_passed : {A : Type 0} (c : A → Result ⊤ Refusal) (l : List A) → Yes (is_done (first_refusal c l)) → {a : A} → Mem a l → Yes (is_done (c a))
all_passed {A = A} c [] e {a = a} x'' = elim x'' [ ]
all_passed c (x ∷ l) e (Memᴰ.head q) = rw q (then_done _ _ e).0
all_passed c (x ∷ l) e (Memᴰ.tail m) = all_passed c l (then_done _ _ e).1 m

-- ---- 11.3, 11.4 of the children
pub children_ok : (p : ActiveLock → Bool) (l : List ActiveLock) (x : ActiveLock) → Yes (is_done (first_refusal (check_child x) (filter p l)))
    → (a : ActiveLock) → Mem a l → Yes (p a) → (x.lock.subject ≡ a.lock.subject) × Yes (within a.lock.coverage x.lock.coverage)
unfolding check_child check_owner check_cover is_done
children_ok p l x e a u t =
    let h = then_done _ _ (all_passed (check_child x) (filter p l) e (→filter p l u t)) in
    (eqb-true _ _ (non_no _ (went_on _ _ _ refl h.0).0), non_no _ (went_on _ _ _ refl h.1).0)

-- ---- 3, 11.2 of the listed
-- each listed id is among those in order, as itself or as one with the same key
abbrev Kin : LockId → List LockId → Type 0
Kin i l = (z : LockId) × Mem z l × (key z ≡ key i)

put_new : (i : LockId) (js : List LockId) → Kin i (insert_id i js)
unfolding same_id
put_new i [] = (i, Memᴰ.head refl, refl)
put_new i (j ∷ js) =
    cond_both (Kin i) (i ∷ (j ∷ js)) _ (before_id i j) (λ t. (i, Memᴰ.head refl, refl)) (λ t.
    cond_both (Kin i) (j ∷ js) (j ∷ insert_id i js) (eqb (key i) (key j)) (λ s. (j, Memᴰ.head refl, sym (eqb-true (key i) (key j) s))) (λ s. let w = put_new i js in (w.0, Memᴰ.tail w.1, w.2)))

put_old : (i : LockId) {z : LockId} (js : List LockId) → Mem z js → Mem z (insert_id i js)
put_old i {z = z} [] x' = elim x' [ ]
put_old i {z} (j ∷ js) (Memᴰ.head q) =
    cond_both (Mem z) (i ∷ (j ∷ js)) _ (before_id i j) (λ t. Memᴰ.tail (Memᴰ.head q)) (λ t. cond_both (Mem z) (j ∷ js) (j ∷ insert_id i js) (same_id i j) (λ s. Memᴰ.head q) (λ s. Memᴰ.head q))
put_old i {z} (j ∷ js) (Memᴰ.tail m) =
    cond_both (Mem z) (i ∷ (j ∷ js)) _ (before_id i j) (λ t. Memᴰ.tail (Memᴰ.tail m)) (λ t. cond_both (Mem z) (j ∷ js) (j ∷ insert_id i js) (same_id i j) (λ s. Memᴰ.tail m) (λ s. Memᴰ.tail (put_old i js m)))

all_old : (is js : List LockId) {z : LockId} → Mem z js → Mem z (insert_ids is js)
all_old [] js m = m
all_old (i ∷ is) js m = all_old is (insert_id i js) (put_old i js m)

all_new : {i : LockId} (is js : List LockId) → Mem i is → Kin i (insert_ids is js)
all_new {i = i} [] js x' = elim x' [ ]
all_new (x ∷ is) js (Memᴰ.head q) = let w = put_new x js in (w.0, all_old is (insert_id x js) w.1, w.2 ∙ ap key (sym q))
all_new (x ∷ is) js (Memᴰ.tail m) = all_new is (insert_id x js) m

non_one : (a b : Bool) → non a ≡ non b → Yes a → Yes b
unfolding non
non_one true true e t = refl
non_one true false e t = absurd (false≢true e)
non_one false b e t = absurd (false≢true t)

listed_fit : (l : List ActiveLock) (ws : List ℕ) → Yes (is_done (first_refusal (check_listed l) (ascending_ids ws))) → (i : LockId) → Mem i (ids_of ws) → Yes (is_done (check_listed l i))
listed_fit l ws e i u =
    let w = all_new (ids_of ws) [] u in
    non_one (is_done (check_listed l w.0)) (is_done (check_listed l i)) (listed_same l w.0 i w.2) (all_passed (check_listed l) (ascending_ids ws) e w.1)

-- a listed lock is no vehicle lock
pub listed_low : (l : List ActiveLock) (ws : List ℕ) → Yes (is_done (first_refusal (check_listed l) (ascending_ids ws))) → (a : ActiveLock) → Mem a l → Yes (is_listed ws a) → No (is_vehicle a.lock.scope)
unfolding listed_in same_id check_listed check_free settled_lock has_id is_done
listed_low l ws e a u t =
    let w = any→ (same_id a.lock.id) (ids_of ws) t in
    let h = (went_on _ _ _ refl (then_done _ _ (listed_fit l ws e w.0 w.1)).1).0 in
    (or_no _ _ (→no (settled_lock a) (λ v. against h (→any (λ a. has_id w.0 a and settled_lock a) u (and_i _ _ w.2 v))))).0

-- a lock that is not active is not listed
pub listed_old : (l : List ActiveLock) (ws : List ℕ) → Yes (is_done (first_refusal (check_listed l) (ascending_ids ws))) → (x : ActiveLock) → ((a : ActiveLock) → Mem a l → akey a ≡ akey x → ⊥) → No (is_listed ws x)
unfolding listed_in same_id check_listed check_active missing has_id is_done
listed_old l ws e x new = →no (is_listed ws x) (λ t.
    let w = any→ (same_id x.lock.id) (ids_of ws) t in
    let h = any→ (has_id w.0) l (non_no _ (went_on _ _ _ refl (then_done _ _ (listed_fit l ws e w.0 w.1)).0).0) in
    new h.0 h.1 (eqb-true _ _ h.2 ∙ sym (eqb-true _ _ w.2)))
