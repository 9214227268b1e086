-- Scopes by their codes; a lock's normal form; lists in their places and back.
-- Assumes nothing.
use mathlib.Core.Path.{◌≡◌, refl, sym, ap}
use mathlib.Core.Bool.{Bool, true, false}
use mathlib.Core.List.{List}
use Prim.Native.Nat.{ℕ, ◌+◌, ◌*◌, ◌-◌, ◌≤◌}
use native.Mathlib.Omega.{arith}
use lib.Dec.{eqb}
use lib.ListN.{length, take, replicate, length-append, length-replicate}
use borrow.Author.Tests.{eqb-true, eq-eqb, ne_eqb}
use Rattle.lists.specs.Places.{in_places}
use Rattle.lists.proofs.Loops.{front}
use Rattle.lists.proofs.Tests.{same_test}
use Rattle.ids.specs.Order.{no_id}
use Rattle.coverage.specs.declared.LockCoverage.{LockCoverage}
use Rattle.coverage.specs.Coverage.{covers}
use Rattle.state.specs.declared.ScopeKey.{ScopeKey}
use Rattle.state.specs.declared.ScopeKey.TheVariants.{Vehicle, Ecu, FunctionalGroup}
use Rattle.state.specs.contracts.ScopeKeyPartialEq as derived
use Rattle.state.specs.declared.ActiveLock.{ActiveLock}
use Rattle.state.specs.declared.LockState.{LockState}
use Rattle.state.specs.Locks.{is_vehicle, ecu_in, scope_code, same_scope, blank_active, blank_defunct, with_coverage, normal_coverage, normal}
use Rattle.state.specs.Model.{Model, model_of, state_of, Tidy}

-- ---- scopes
-- no two scopes have one code
pub scope_one : (a b : ScopeKey) → scope_code a ≡ scope_code b → a ≡ b
unfolding scope_code
scope_one Vehicle Vehicle e = refl
scope_one Vehicle (Ecu m) e = absurd (omega arith)
scope_one Vehicle (FunctionalGroup m) e = absurd (omega arith)
scope_one (Ecu n) Vehicle e = absurd (omega arith)
scope_one (Ecu n) (Ecu m) e = ap Ecu (omega arith)
scope_one (Ecu n) (FunctionalGroup m) e = absurd (omega arith)
scope_one (FunctionalGroup n) Vehicle e = absurd (omega arith)
scope_one (FunctionalGroup n) (Ecu m) e = absurd (omega arith)
scope_one (FunctionalGroup n) (FunctionalGroup m) e = ap FunctionalGroup (omega arith)

pub same_scope_one : (a b : ScopeKey) → same_scope a b ≡ true → a ≡ b
unfolding same_scope
same_scope_one a b t = scope_one a b (eqb-true (scope_code a) (scope_code b) t)

pub same_scope_refl : (a : ScopeKey) → same_scope a a ≡ true
unfolding same_scope
same_scope_refl a = eq-eqb (scope_code a) (scope_code a) refl

-- the derived `==` of scopes
by_code : (r n m : ℕ) → eqb n m ≡ eqb (n * 2 + r) (m * 2 + r)
by_code r n m = same_test (eqb n m) (eqb (n * 2 + r) (m * 2 + r)) (λ t. eq-eqb _ _ (ap (λ (x : ℕ). x * 2 + r) (eqb-true n m t))) (λ t. let e = eqb-true (n * 2 + r) (m * 2 + r) t in eq-eqb n m (omega arith))

apart : (n m : ℕ) → (n ≡ m → ⊥) → false ≡ eqb n m
apart n m h = sym (ne_eqb n m h)

pub eq_scope : (a b : ScopeKey) → (derived.TheImpl.eq-value).it a b ≡ same_scope a b
unfolding scope_code same_scope
eq_scope Vehicle Vehicle = refl
eq_scope Vehicle (Ecu m) = apart _ _ (λ e. omega arith)
eq_scope Vehicle (FunctionalGroup m) = apart _ _ (λ e. omega arith)
eq_scope (Ecu n) Vehicle = apart _ _ (λ e. omega arith)
eq_scope (Ecu n) (Ecu m) = by_code 1 n m
eq_scope (Ecu n) (FunctionalGroup m) = apart _ _ (λ e. omega arith)
eq_scope (FunctionalGroup n) Vehicle = apart _ _ (λ e. omega arith)
eq_scope (FunctionalGroup n) (Ecu m) = apart _ _ (λ e. omega arith)
eq_scope (FunctionalGroup n) (FunctionalGroup m) = by_code 2 n m

pub same_scope_sym : (a b : ScopeKey) → same_scope a b ≡ true → same_scope b a ≡ true
unfolding same_scope
same_scope_sym a b t = eq-eqb (scope_code b) (scope_code a) (sym (eqb-true (scope_code a) (scope_code b) t))

-- the vehicle's code is 0
pub vehicle_code : (k : ScopeKey) → eqb (scope_code k) 0 ≡ is_vehicle k
unfolding scope_code is_vehicle
vehicle_code Vehicle = refl
vehicle_code (Ecu n) = ne_eqb (n * 2 + 1) 0 (λ e. omega arith)
vehicle_code (FunctionalGroup n) = ne_eqb (n * 2 + 2) 0 (λ e. omega arith)

pub ecu_is : (c : LockCoverage) (k : ScopeKey) (n : ℕ) (r : Bool) → k ≡ Ecu n → r ≡ covers c n → r ≡ ecu_in c k
unfolding ecu_in
ecu_is c k n r e f = rw e f

-- ---- the normal form
module _ (x : ActiveLock) (c : LockCoverage) (e : c ≡ normal_coverage x.lock.coverage) where
  pub normal_child : x.child ≡ true → record { lock = with_coverage c x.lock; parent = x.parent; expires = x.expires; child = true } ≡ normal x
  unfolding normal
  normal_child t = rw (t, e)

  pub normal_lone : x.child ≡ false → record { lock = with_coverage c x.lock; parent = no_id; expires = x.expires; child = false } ≡ normal x
  unfolding normal
  normal_lone t = rw (t, e)

-- ---- lists in their places
pub back : {A : Type 0} (n : ℕ) (b : A) (l : List A) → take (length l) (in_places n b l) ≡ l
back n b l = front l (replicate (n - length l) b)

pub length_places : {A : Type 0} (n : ℕ) (b : A) (l : List A) → length l ≤ n → length (in_places n b l) ≡ n
length_places n b l h = omega (arith, length-append l (replicate (n - length l) b), length-replicate (n - length l) b)

pub model-of-state : (m : Model) → model_of (state_of m) ≡ m
model-of-state m = λ j. record { revision = m.revision; active = back 64 blank_active m.active j; defunct = back 128 blank_defunct m.defunct j }

pub tidy_of : (m : Model) → length m.active ≤ 64 → length m.defunct ≤ 128 → Tidy (state_of m)
tidy_of m h k = record { active = h; defunct = k; same = ap state_of (model-of-state m) }

module _ (s : LockState) (t : Tidy s) where
  pub active_count : length (model_of s).active ≡ s.actives
  active_count = ap (λ (x : LockState). x.actives) t.same

  pub defunct_count : length (model_of s).defunct ≡ s.defuncts
  defunct_count = ap (λ (x : LockState). x.defuncts) t.same

  pub active_in_lem : in_places 64 blank_active (model_of s).active ≡ s.active
  active_in_lem = ap (λ (x : LockState). x.active) t.same

  pub defunct_in_lem : in_places 128 blank_defunct (model_of s).defunct ≡ s.defunct
  defunct_in_lem = ap (λ (x : LockState). x.defunct) t.same
