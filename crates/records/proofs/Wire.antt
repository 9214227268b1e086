-- The laws of specs/Wire.antt. Assumes nothing.
use mathlib.Core.Path.{◌≡◌, refl, sym, ap, ◌∙◌}
use mathlib.Core.Bool.{Bool, true, false, not, cond, ◌&&◌, ◌||◌}
use mathlib.Core.List.{List, [], ◌∷◌}
use Prim.Native.Nat.{ℕ, ◌+◌, ◌≤◌}
use native.Mathlib.Omega.{arith}
use lib.ListN.{get_or}
use lib.Dec.{eqb, leb}
use borrow.Author.Tests.{eqb-true, eqb-false, leb-true}
use Rattle.lists.specs.Tests.{◌and◌, ◌or◌, ◌imp◌, Yes}
use Rattle.lists.proofs.Tests.{and_code, and_i, and_l, and_r, and_t, imp_e, by}
use Rattle.state.specs.declared.ScopeKey.{ScopeKey}
use Rattle.state.specs.declared.ScopeKey.TheVariants.{Vehicle, Ecu, FunctionalGroup}
use Rattle.state.specs.declared.Lock.{Lock}
use Rattle.state.specs.declared.ActiveLock.{ActiveLock}
use Rattle.state.specs.declared.DefunctLock.{DefunctLock}
use Rattle.records.specs.declared.bodies.Head.{Head}
use Rattle.records.specs.Layouts.{total, fields_at}
use Rattle.records.specs.Table.{rows, row_of, length_of}
use Rattle.records.specs.Codecs.{in_body}
use Rattle.records.specs.Wire.{flag, scope_kind, scope_number, scope_of, scope_right, set_right, parent_right, lock_start, active_end, active_with, active_rest, active, defunct_end, defunct_with, defunct_rest, defunct, head}
use Rattle.records.proofs.Codecs.{Lawful, Faithful, faithful, lawful}

-- ---- the code's connectives
pub three : (a b c : Bool) → ((a && b) && c) ≡ (a and b and c)
unfolding ◌and◌
three true true c = refl
three true false c = refl
three false b c = refl

pub four : (a b c d : Bool) → (((a && b) && c) && d) ≡ (a and b and c and d)
unfolding ◌and◌
four true true c d = and_code c d
four true false c d = refl
four false b c d = refl

-- what does not apply is zero
pub unless : (a b c d : Bool) → c ≡ d → (a && (not b || c)) ≡ (a and (b imp d))
unfolding ◌and◌ ◌imp◌
unless true true c d e = e
unless true false c d e = refl
unless false b c d e = refl

pub and_true : (a : Bool) → (a and true) ≡ a
unfolding ◌and◌
and_true true = refl
and_true false = refl

-- ---- HEAD: the code tests the record, the codec its numbers
pub head_right : (s : List ℕ) (h : Head) → h ≡ head.made (in_body head s) → head.right (in_body head s) ≡ (leb h.actives 64 && leb h.defuncts 128)
head_right s h e = sym (ap (λ (x : Head). leb x.actives 64 && leb x.defuncts 128) e ∙ and_code _ _)

-- ---- flags and scopes, there and back
pub flag_there : (b : Bool) → eqb (flag b) 1 ≡ b
flag_there true = refl
flag_there false = refl

unset_there : (b : Bool) → eqb (flag (not b)) 0 ≡ b
unset_there true = refl
unset_there false = refl

pub flag_back : (x : ℕ) → x ≤ 1 → flag (eqb x 1) ≡ x
flag_back x h = by (eqb x 1) (flag (eqb x 1) ≡ x)
    (λ t. ap flag t ∙ sym (eqb-true x 1 t))
    (λ t. ap flag t ∙ (let z : 0 ≡ x = omega (arith, eqb-false x 1 t) in z))

unset_back : (x : ℕ) → x ≤ 1 → flag (not (eqb x 0)) ≡ x
unset_back x h = by (eqb x 0) (flag (not (eqb x 0)) ≡ x)
    (λ t. ap (λ (b : Bool). flag (not b)) t ∙ sym (eqb-true x 0 t))
    (λ t. ap (λ (b : Bool). flag (not b)) t ∙ (let z : 1 ≡ x = omega (arith, eqb-false x 0 t) in z))

scope_there : (k : ScopeKey) → scope_of (scope_kind k) (scope_number k) ≡ k
unfolding scope_of
scope_there Vehicle = refl
scope_there (Ecu n) = refl
scope_there (FunctionalGroup n) = refl

scope_back : (k n : ℕ) → Yes (scope_right k n) → (scope_kind (scope_of k n) ≡ k) × (scope_number (scope_of k n) ≡ n)
unfolding scope_of scope_right
scope_back k n t = go (eqb k 0) refl (eqb k 1) refl (leb-true _ _ (and_l (leb k 2) _ t)) (imp_e (eqb k 0) (eqb n 0) (and_r (leb k 2) _ t))
  where
    go : (x : Bool) → eqb k 0 ≡ x → (y : Bool) → eqb k 1 ≡ y → k ≤ 2 → (Yes (eqb k 0) → Yes (eqb n 0))
        → (scope_kind (cond x Vehicle (cond y (Ecu n) (FunctionalGroup n))) ≡ k) × (scope_number (cond x Vehicle (cond y (Ecu n) (FunctionalGroup n))) ≡ n)
    go true ex y ey h z = (sym (eqb-true k 0 ex), sym (eqb-true n 0 (z ex)))
    go false ex true ey h z = (sym (eqb-true k 1 ey), refl)
    go false ex false ey h z = (omega (arith, eqb-false k 0 ex, eqb-false k 1 ey), refl)

-- ---- each codec is lawful
lock_back : (a b k n x c w0 w1 w2 w3 q p m : ℕ) → Yes (scope_right k n and leb x 1 and set_right c w0 w1 w2 w3)
    → lock_start.numbers (lock_start.made (a ∷ b ∷ k ∷ n ∷ x ∷ c ∷ w0 ∷ w1 ∷ w2 ∷ w3 ∷ q ∷ p ∷ m ∷ [])) ≡ a ∷ b ∷ k ∷ n ∷ x ∷ c ∷ w0 ∷ w1 ∷ w2 ∷ w3 ∷ q ∷ p ∷ m ∷ []
unfolding set_right
lock_back a b k n x c w0 w1 w2 w3 q p m t =
    let u = and_l (scope_right k n and leb x 1) _ t in
    let s = scope_back k n (and_l (scope_right k n) _ u) in
    let e = flag_back x (leb-true _ _ (and_r (scope_right k n) _ u)) in
    let f = unset_back c (leb-true _ _ (and_l (leb c 1) _ (and_r (scope_right k n and leb x 1) _ t))) in
    λ i. a ∷ b ∷ s.0 i ∷ s.1 i ∷ e i ∷ f i ∷ w0 ∷ w1 ∷ w2 ∷ w3 ∷ q ∷ p ∷ m ∷ []

pub lock_lawful : Lawful lock_start
lock_lawful =
    record {
      count = λ l. refl;
      back = λ s at t. lock_back _ _ _ _ _ _ _ _ _ _ _ _ _ t;
    }

pub active_end_lawful : Lawful active_end
unfolding parent_right
active_end_lawful =
    record {
      count = λ e. refl;
      back = λ s at t.
          let v = fields_at active_end.layout s at in
          let e = flag_back (get_or v 1 0) (leb-true _ _ (and_l (leb (get_or v 1 0) 1) _ t)) in
          λ i. get_or v 0 0 ∷ e i ∷ get_or v 2 0 ∷ get_or v 3 0 ∷ [];
    }

pub defunct_end_lawful : Lawful defunct_end
defunct_end_lawful = record { count = λ e. refl; back = λ s at t. refl }

pub active_lawful : Lawful active
active_lawful = lawful lock_start active_end active_with (λ a. a.lock) active_rest (λ l e. refl) (λ l e. refl) lock_lawful active_end_lawful

pub defunct_lawful : Lawful defunct
defunct_lawful = lawful lock_start defunct_end defunct_with (λ d. d.lock) defunct_rest (λ l e. refl) (λ l e. refl) lock_lawful defunct_end_lawful

pub head_lawful : Lawful head
head_lawful = record { count = λ h. refl; back = λ s at t. refl }

-- ---- and faithful
pub lock_faithful : Faithful lock_start
lock_faithful l = λ i.
    record {
      id = l.id;
      coverage = record { w0 = l.coverage.w0; w1 = l.coverage.w1; w2 = l.coverage.w2; w3 = l.coverage.w3; whole = unset_there l.coverage.whole i };
      principal = l.principal;
      metadata = l.metadata;
      subject = l.subject;
      scope = scope_there l.scope i;
      exclusive = flag_there l.exclusive i;
    }

active_end_faithful : Faithful active_end
active_end_faithful e = λ i. (e.0, flag_there e.1 i, e.2)

pub active_faithful : Faithful active
active_faithful = faithful lock_start active_end active_with (λ a. a.lock) active_rest (λ a. refl) lock_lawful lock_faithful active_end_faithful

pub defunct_faithful : Faithful defunct
defunct_faithful = faithful lock_start defunct_end defunct_with (λ d. d.lock) defunct_rest (λ d. refl) lock_lawful lock_faithful (λ e. refl)

pub head_faithful : Faithful head
head_faithful h = refl

-- ---- of a lock's own numbers, only what does not apply can be wrong
scope_fine : (k : ScopeKey) → Yes (scope_right (scope_kind k) (scope_number k))
unfolding scope_right ◌and◌ ◌imp◌
scope_fine Vehicle = refl
scope_fine (Ecu n) = refl
scope_fine (FunctionalGroup n) = refl

flag_fine : (b : Bool) → Yes (leb (flag b) 1)
flag_fine true = refl
flag_fine false = refl

set_neat : (b : Bool) (w0 w1 w2 w3 : ℕ) → set_right (flag (not b)) w0 w1 w2 w3 ≡ (b imp eqb w0 0 and eqb w1 0 and eqb w2 0 and eqb w3 0)
unfolding set_right ◌and◌ ◌imp◌
set_neat true w0 w1 w2 w3 = refl
set_neat false w0 w1 w2 w3 = refl

parent_neat : (b : Bool) (hi lo : ℕ) → parent_right (flag b) hi lo ≡ (b or (eqb hi 0 and eqb lo 0))
unfolding parent_right ◌and◌ ◌imp◌ ◌or◌
parent_neat true hi lo = refl
parent_neat false hi lo = refl

-- the set of a whole vehicle
pub lock_neat : (l : Lock)
    → lock_start.right (lock_start.numbers l) ≡ (l.coverage.whole imp eqb l.coverage.w0 0 and eqb l.coverage.w1 0 and eqb l.coverage.w2 0 and eqb l.coverage.w3 0)
lock_neat l =
    ap (λ (b : Bool). b and set_right (flag (not l.coverage.whole)) l.coverage.w0 l.coverage.w1 l.coverage.w2 l.coverage.w3)
    (and_i _ _ (scope_fine l.scope) (flag_fine l.exclusive))
    ∙ and_t true _ refl ∙ set_neat l.coverage.whole _ _ _ _

-- and the parent of a lock that has none
pub active_neat : (a : ActiveLock)
    → active.right (active.numbers a) ≡ (lock_start.right (lock_start.numbers a.lock) and (a.child or (eqb a.parent.hi 0 and eqb a.parent.lo 0)))
active_neat a = ap (λ (b : Bool). lock_start.right (lock_start.numbers a.lock) and b) (parent_neat a.child a.parent.hi a.parent.lo)

pub defunct_neat : (d : DefunctLock) → defunct.right (defunct.numbers d) ≡ lock_start.right (lock_start.numbers d.lock)
defunct_neat d = and_true _

-- ---- the table's lengths are the layouts'
pub head_long : length_of 1 ≡ total head.layout + 2
unfolding length_of row_of rows
head_long = refl

pub active_long : length_of 2 ≡ total active.layout + 2
unfolding length_of row_of rows
active_long = refl

pub defunct_long : length_of 3 ≡ total defunct.layout + 2
unfolding length_of row_of rows
defunct_long = refl
