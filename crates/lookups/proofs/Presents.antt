-- The tester present that a lock needs, by the lock's scope; and the one lock that may need a given one, since there is
-- one active lock a scope (rule 2).
-- Assumes nothing.
use mathlib.Core.Path.{◌≡◌, refl, sym, ◌∙◌, subst}
use mathlib.Core.Bool.{Bool, true, false, cond}
use mathlib.Core.List.{List}
use Rattle.std.specs.Prelude.{None, Some}
use Prim.Native.Nat.{ℕ, ◌+◌, ◌*◌}
use native.Mathlib.Omega.{arith}
use native.Mathlib.Decide.{ℕ_discrete}
use lib.Dec.{eqb}
use borrow.Author.Tests.{eq-eqb, ne_eqb, eqb-true}
use Rattle.lists.specs.Tests.{◌and◌, non, Yes}
use Rattle.lists.specs.Lists.{any, find, Mem}
use Rattle.lists.proofs.Tests.{and_l, and_r, and_i, and_f, and_comm, imp_e, →no, same_test}
use Rattle.lists.proofs.Lists.{all→, any→, →any, find→, find_none→, from_unique}
use Rattle.state.specs.declared.ScopeKey.{ScopeKey}
use Rattle.state.specs.declared.ScopeKey.TheVariants.{Vehicle, Ecu, FunctionalGroup}
use Rattle.state.specs.declared.ActiveLock.{ActiveLock}
use Rattle.state.specs.Locks.{akey, scope_code, same_scope}
use Rattle.state.specs.Model.{Model}
use Rattle.state.proofs.Laws.{same_scope_one, same_scope_refl}
use Rattle.rules.specs.Rules.{rule2, in_order}
use Rattle.lookups.specs.declared.TesterPresent.{TesterPresent}
use Rattle.lookups.specs.declared.TesterPresent.TheVariants as present
use Rattle.lookups.specs.Reads.{on_scope, group_over, present_for, same_present, needs}
use Rattle.lookups.specs.Code.{scope_of, own_need, Alone}

-- ---- by the scope
module _ (l : List ActiveLock) (subject : ℕ) (k : ScopeKey) where
  pub of_vehicle : k ≡ Vehicle → None ≡ present_for l subject k
  unfolding present_for
  of_vehicle e = rw e

  pub of_group : (g : ℕ) → k ≡ FunctionalGroup g → Some (present.Functional g) ≡ present_for l subject k
  unfolding present_for
  of_group g e = rw e

  pub of_covered : (n : ℕ) → k ≡ Ecu n → any (group_over subject n) l ≡ true → None ≡ present_for l subject k
  unfolding present_for
  of_covered n e t = rw (e, t)

  pub of_ecu : (n : ℕ) → k ≡ Ecu n → any (group_over subject n) l ≡ false → Some (present.Ecu n) ≡ present_for l subject k
  unfolding present_for
  of_ecu n e t = rw (e, t)

-- ---- only a lock on its scope needs it
of_own : (b : Bool) (e n : ℕ) → same_present (present.Ecu e) (cond b None (Some (present.Ecu n))) ≡ (eqb e n and non b)
unfolding same_present ◌and◌ non
of_own true e n = elim (eqb e n) as (λ x. false ≡ (x and false)) [ true ↦ refl | false ↦ refl ]
of_own false e n = elim (eqb e n) as (λ x. x ≡ (x and true)) [ true ↦ refl | false ↦ refl ]

not_ecu : (b : Bool) (g n : ℕ) → same_present (present.Functional g) (cond b None (Some (present.Ecu n))) ≡ false
unfolding same_present
not_ecu true g n = refl
not_ecu false g n = refl

-- a scope's number and its code
by_code : (r m n : ℕ) (f : ℕ → Bool) → (eqb m n and f n) ≡ (eqb (n * 2 + r) (m * 2 + r) and f m)
by_code r m n f = elim (ℕ_discrete m n) [
  | yes e ↦ rw (e, eq-eqb n n refl, eq-eqb (n * 2 + r) (n * 2 + r) refl)
  | no e ↦ rw (ne_eqb m n e, ne_eqb (n * 2 + r) (m * 2 + r) (λ q. e (omega arith))) (and_f false (f n) refl ∙ sym (and_f false (f m) refl))
]

by_scope : (l : List ActiveLock) (t : TesterPresent) (subject : ℕ) (k : ScopeKey) → same_present t (present_for l subject k) ≡ (same_scope k (scope_of t) and own_need l subject t)
unfolding same_present present_for scope_of own_need same_scope scope_code ◌and◌
by_scope l (present.Ecu e) subject Vehicle = rw (ne_eqb 0 (e * 2 + 1) (λ q. omega arith))
by_scope l (present.Ecu e) subject (Ecu n) = of_own (any (group_over subject n) l) e n ∙ by_code 1 e n (λ i. non (any (group_over subject i) l))
by_scope l (present.Ecu e) subject (FunctionalGroup n) = rw (ne_eqb (n * 2 + 2) (e * 2 + 1) (λ q. omega arith))
by_scope l (present.Functional g) subject Vehicle = rw (ne_eqb 0 (g * 2 + 2) (λ q. omega arith))
by_scope l (present.Functional g) subject (Ecu n) = rw (ne_eqb (n * 2 + 1) (g * 2 + 2) (λ q. omega arith)) (not_ecu (any (group_over subject n) l) g n)
by_scope l (present.Functional g) subject (FunctionalGroup n) = sym (and_comm (eqb g n) true) ∙ by_code 2 g n (λ i. true)

module _ (l : List ActiveLock) (t : TesterPresent) where
  needs_is : (a : ActiveLock) → needs l t a ≡ (on_scope (scope_of t) a and own_need l a.lock.subject t)
  unfolding on_scope
  needs_is a = by_scope l t a.lock.subject a.lock.scope

  -- no lock on the scope: none needs it
  pub none_needs : (k : ScopeKey) → k ≡ scope_of t → find (on_scope k) l ≡ None → false ≡ any (needs l t) l
  none_needs k q e = sym (→no (any (needs l t) l) (λ u.
      let w = any→ (needs l t) l u in
      find_none→ (on_scope (scope_of t)) l (rw q at e) w.1 (and_l _ _ (sym (needs_is w.0) ∙ w.2))))

  -- the lock on the scope says it
  pub one_needs : Alone l → (k : ScopeKey) → k ≡ scope_of t → (a : ActiveLock) → find (on_scope k) l ≡ Some a → own_need l a.lock.subject t ≡ any (needs l t) l
  one_needs one k q a e = same_test (own_need l a.lock.subject t) (any (needs l t) l)
      (λ u. →any (needs l t) f.0 (needs_is a ∙ and_i _ _ f.1 u))
      (λ u.
      let w = any→ (needs l t) l u in
      let v = sym (needs_is w.0) ∙ w.2 in
      subst (λ (x : ActiveLock). Yes (own_need l x.lock.subject t)) (one (scope_of t) w.0 a w.1 f.0 (and_l _ _ v) f.1) (and_r _ _ v))
    where
      f : Mem a l × Yes (on_scope (scope_of t) a)
      f = find→ (on_scope (scope_of t)) l (rw q at e)

-- ---- rule 2 as a statement
pub alone_of : (m : Model) → in_order m ≡ true → rule2 m ≡ true → Alone m.active
unfolding in_order rule2 on_scope
alone_of m o u k a b i j p q =
    from_unique akey 0 (and_l _ _ o) i j
    (eqb-true (akey a) (akey b) (imp_e (same_scope a.lock.scope b.lock.scope) _ (all→ _ (all→ _ u i) j)
    (rw (same_scope_one a.lock.scope k p, same_scope_one b.lock.scope k q) (same_scope_refl k))))
