-- A state that passes rule 0 is its model's. Assumes nothing.
use mathlib.Core.Bool.{Bool, true, false≢true}
use mathlib.Core.List.{List, [], ◌∷◌}
use mathlib.Core.Path.{◌≡◌, refl}
use Prim.Native.Nat.{ℕ, ◌-◌, ◌≤◌}
use native.Mathlib.Omega.{arith}
use borrow.Author.Tests.{leb-true, eqb-true}
use lib.Dec.{eqb}
use lib.ListN.{length, take, drop, replicate, length-drop, take-append-drop}
use lib.Seq.{length-take-le}
use Rattle.lists.specs.Tests.{non, Yes}
use Rattle.lists.proofs.Tests.{and_l, and_r, non_yes}
use Rattle.lists.specs.Lists.{all}
use Rattle.state.specs.Model.{model_of, state_of}
use Rattle.lists.specs.Places.{in_places}
use Rattle.ids.specs.Order.{no_id}
use Rattle.coverage.specs.Coverage.{no_coverage}
use Rattle.state.specs.Locks.{blank_lock, blank_active, blank_defunct, is_vehicle}
use Rattle.ids.specs.declared.LockId.{LockId}
use Rattle.state.specs.declared.ScopeKey.{ScopeKey}
use Rattle.state.specs.declared.ScopeKey.TheVariants.{Vehicle, Ecu, FunctionalGroup}
use Rattle.coverage.specs.declared.LockCoverage.{LockCoverage}
use Rattle.state.specs.declared.Lock.{Lock}
use Rattle.state.specs.declared.ActiveLock.{ActiveLock}
use Rattle.state.specs.declared.DefunctLock.{DefunctLock}
use Rattle.state.specs.declared.LockState.{LockState}
use Rattle.rules.specs.Rules.{zero_id, zero_set, zero_lock, is_blank_a, is_blank_d, blanks, rule0}

zero : (n : ℕ) → Yes (eqb n 0) → n ≡ 0
zero n e = eqb-true n 0 e

zero_id_lem : (x : LockId) → Yes (zero_id x) → x ≡ no_id
unfolding zero_id
zero_id_lem x e = λ i. record { hi = zero x.hi (and_l _ _ e) i; lo = zero x.lo (and_r _ _ e) i }

a_vehicle : (k : ScopeKey) → Yes (is_vehicle k) → k ≡ Vehicle
unfolding is_vehicle
a_vehicle Vehicle e = refl
a_vehicle (Ecu n) e = absurd (false≢true e)
a_vehicle (FunctionalGroup n) e = absurd (false≢true e)

zero_coverage : (x : LockCoverage) → Yes (non x.whole) → Yes (zero_set x) → x ≡ no_coverage
unfolding zero_set
zero_coverage x w e = λ i. record { whole = non_yes _ w i; w0 = zero x.w0 (and_l _ _ (and_l _ _ (and_l _ _ e))) i; w1 = zero x.w1 (and_r _ _ (and_l _ _ (and_l _ _ e))) i; w2 = zero x.w2 (and_r _ _ (and_l _ _ e)) i; w3 = zero x.w3 (and_r _ _ e) i }

zero_lock_lem : (x : Lock) → Yes (zero_lock x) → x ≡ blank_lock
unfolding zero_lock
zero_lock_lem x e =
    let e6 = and_l _ _ e in
    let e5 = and_l _ _ e6 in
    let e4 = and_l _ _ e5 in
    let e3 = and_l _ _ e4 in
    let e2 = and_l _ _ e3 in
    let e1 = and_l _ _ e2 in
    λ i. record { id = zero_id_lem x.id (and_l _ _ e1) i; scope = a_vehicle x.scope (and_r _ _ e1) i; coverage = zero_coverage x.coverage (and_r _ _ e2) (and_r _ _ e3) i; exclusive = non_yes _ (and_r _ _ e4) i; subject = zero x.subject (and_r _ _ e5) i; principal = zero x.principal (and_r _ _ e6) i; metadata = zero x.metadata (and_r _ _ e) i }

blank_a : (x : ActiveLock) → Yes (is_blank_a x) → x ≡ blank_active
unfolding is_blank_a blank_active
blank_a x e =
    let e2 = and_l _ _ e in
    let e1 = and_l _ _ e2 in
    λ i. record { lock = zero_lock_lem x.lock (and_l _ _ e1) i; expires = zero x.expires (and_r _ _ e1) i; child = non_yes _ (and_r _ _ e2) i; parent = zero_id_lem x.parent (and_r _ _ e) i }

blank_d : (x : DefunctLock) → Yes (is_blank_d x) → x ≡ blank_defunct
unfolding is_blank_d blank_defunct
blank_d x e =
    let e4 = and_l _ _ e in
    let e3 = and_l _ _ e4 in
    let e2 = and_l _ _ e3 in
    let e1 = and_l _ _ e2 in
    λ i. record { lock = zero_lock_lem x.lock (and_l _ _ e1) i; expires = zero x.expires (and_r _ _ e1) i; broken = zero x.broken (and_r _ _ e2) i; breaker = zero x.breaker (and_r _ _ e3) i; target = zero_id_lem x.target (and_r _ _ e4) i; holder = zero x.holder (and_r _ _ e) i }

module _ {A : Type 0} (p : A → Bool) (b : A) (is_b : (x : A) → Yes (p x) → x ≡ b) where
  all_blank : (l : List A) → Yes (all p l) → l ≡ replicate (length l) b
  all_blank [] e = refl
  all_blank (x ∷ xs) e = λ i. is_b x (and_l (p x) (all p xs) e) i ∷ all_blank xs (and_r (p x) (all p xs) e) i

  places_same : (a : List A) (n m : ℕ) → length a ≡ m → n ≤ m → Yes (all p (drop n a)) → in_places m b (take n a) ≡ a
  places_same a n m l h e =
      let k : m - length (take n a) ≡ length (drop n a) = omega (arith, length-take-le n a (omega arith), length-drop n a) in
      rw (k, ← (all_blank (drop n a) e)) (take-append-drop n a)

pub rule0_tidy : (s : LockState) → length s.active ≡ 64 → length s.defunct ≡ 128 → rule0 s ≡ true → state_of (model_of s) ≡ s
unfolding rule0 blanks
rule0_tidy s la ld e =
    let e2 = and_l _ _ (and_l _ _ e) in
    let e1 = and_l _ _ e2 in
    let bl = and_r _ _ e2 in
    let ha = leb-true s.actives 64 (and_l _ _ e1) in
    let hd = leb-true s.defuncts 128 (and_r _ _ e1) in
    let pa = places_same is_blank_a blank_active blank_a s.active s.actives 64 la ha (and_l _ _ bl) in
    let pd = places_same is_blank_d blank_defunct blank_d s.defunct s.defuncts 128 ld hd (and_r _ _ bl) in
    let na = length-take-le s.actives s.active (omega arith) in
    let nd = length-take-le s.defuncts s.defunct (omega arith) in
    λ i. record { revision = s.revision; actives = na i; active = pa i; defuncts = nd i; defunct = pd i }
