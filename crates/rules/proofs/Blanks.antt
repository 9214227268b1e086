-- Unused places, ORed: what is gathered is zero just where every place is blank. Assumes nothing.
use mathlib.Core.Path.{◌≡◌, refl, sym, ap, ◌∙◌}
use mathlib.Core.Bool.{Bool, true, false, ◌||◌}
use mathlib.Core.List.{List}
use mathlib.Core.Logic.{◌⊎◌, inl, inr}
use Prim.Native.Nat.{ℕ, ◌+◌, ◌≤◌, ◌<◌}
use native.Mathlib.Omega.{arith}
use borrow.Author.Tests.{eq-eqb, eqb-true}
use lib.Bits.{bit_or, or_add_and, and_le_l, and_le_r}
use lib.Dec.{eqb}
use lib.ListN.{length, get_or, drop}
use Rattle.lists.specs.Tests.{◌and◌, non}
use Rattle.lists.specs.Lists.{all}
use Rattle.lists.proofs.Tests.{and_l, and_r, and_i, and_t, and_f, by, same_test}
use Rattle.lists.proofs.Places.{rest_yes, rest_no, from_more}
use Rattle.state.specs.declared.Lock.{Lock}
use Rattle.state.specs.declared.ActiveLock.{ActiveLock}
use Rattle.state.specs.declared.DefunctLock.{DefunctLock}
use Rattle.state.specs.Locks.{is_vehicle}
use Rattle.rules.specs.declared.shapes.Dirt.{Dirt}
use Rattle.rules.specs.Rules.{zero_id, zero_set, zero_lock, is_blank_a, is_blank_d}
use Rattle.rules.specs.Code.{clean, spotless}

or_zero : (a b : ℕ) → eqb (bit_or a b) 0 ≡ (eqb a 0 and eqb b 0)
or_zero a b = same_test (eqb (bit_or a b) 0) (eqb a 0 and eqb b 0)
    (λ t. let e = eqb-true (bit_or a b) 0 t in and_i _ _ (eq-eqb a 0 (omega (arith, or_add_and a b, and_le_r a b))) (eq-eqb b 0 (omega (arith, or_add_and a b, and_le_l a b))))
    (λ t. eq-eqb (bit_or a b) 0 (omega (arith, or_add_and a b, eqb-true a 0 (and_l _ _ t), eqb-true b 0 (and_r _ _ t))))

none_of : (a b : Bool) → non (a || b) ≡ (non a and non b)
unfolding non ◌and◌
none_of true b = refl
none_of false b = refl

-- ---- more is gathered
pub gathered : (d : Dirt) (a b c : ℕ) (f : Bool)
    → clean (record { even = bit_or d.even a; odd = bit_or d.odd b; rest = bit_or d.rest c; flag = d.flag || f }) ≡ (clean d and (eqb a 0 and eqb b 0 and eqb c 0 and non f))
unfolding clean
gathered d a b c f =
    simp (or_zero, none_of) (same_test _ _
    (λ t. let t1 = and_l _ _ t in let t2 = and_l _ _ t1 in
    and_i _ _
    (and_i _ _ (and_i _ _ (and_i _ _ (and_l _ _ (and_l _ _ t2)) (and_l _ _ (and_r _ _ t2))) (and_l _ _ (and_r _ _ t1))) (and_l _ _ (and_r _ _ t)))
    (and_i _ _ (and_i _ _ (and_i _ _ (and_r _ _ (and_l _ _ t2)) (and_r _ _ (and_r _ _ t2))) (and_r _ _ (and_r _ _ t1))) (and_r _ _ (and_r _ _ t))))
    (λ t.
    let p = and_l _ _ t in let q = and_r _ _ t in
    let p1 = and_l _ _ p in let q1 = and_l _ _ q in
    let p2 = and_l _ _ p1 in let q2 = and_l _ _ q1 in
    and_i _ _ (and_i _ _ (and_i _ _ (and_i _ _ (and_l _ _ p2) (and_l _ _ q2)) (and_i _ _ (and_r _ _ p2) (and_r _ _ q2))) (and_i _ _ (and_r _ _ p1) (and_r _ _ q1))) (and_i _ _ (and_r _ _ p) (and_r _ _ q))))

-- ---- tests in another order
three_e : (a b c : Bool) → (a and b and c) ≡ true → (a ≡ true) × (b ≡ true) × (c ≡ true)
three_e a b c t = (and_l _ _ (and_l _ _ t), and_r _ _ (and_l _ _ t), and_r _ _ t)

four_e : (a b c d : Bool) → (a and b and c and d) ≡ true → (a ≡ true) × (b ≡ true) × (c ≡ true) × (d ≡ true)
four_e a b c d t = (and_l _ _ (and_l _ _ (and_l _ _ t)), and_r _ _ (and_l _ _ (and_l _ _ t)), and_r _ _ (and_l _ _ t), and_r _ _ t)

four_i : (a b c d : Bool) → a ≡ true → b ≡ true → c ≡ true → d ≡ true → (a and b and c and d) ≡ true
four_i a b c d p q r s = and_i _ _ (and_i _ _ (and_i _ _ p q) r) s

lock_order : (h l w0 w1 w2 w3 p m s v o e : Bool)
    → ((h and w0 and w2) and (l and w1 and w3) and (p and m and s and v) and (o and e)) ≡ ((h and l) and v and o and (w0 and w1 and w2 and w3) and e and s and p and m)
lock_order h l w0 w1 w2 w3 p m s v o e = same_test _ _
    (λ t.
    let f = four_e _ _ _ _ t in
    let a = three_e h w0 w2 f.0 in
    let b = three_e l w1 w3 f.1 in
    let c = four_e p m s v f.2 in
    and_i _ _ (four_i _ _ _ _ (four_i _ _ _ _ (and_i _ _ a.0 b.0) c.3 (and_l _ _ f.3) (four_i _ _ _ _ a.1 b.1 a.2 b.2)) (and_r _ _ f.3) c.2 c.0) c.1)
    (λ t.
    let f = four_e _ _ _ _ (and_l _ _ t) in
    let g = four_e _ _ _ _ f.0 in
    let w = four_e w0 w1 w2 w3 g.3 in
    four_i _ _ _ _
    (and_i _ _ (and_i _ _ (and_l _ _ g.0) w.0) w.2)
    (and_i _ _ (and_i _ _ (and_r _ _ g.0) w.1) w.3)
    (four_i _ _ _ _ f.3 (and_r _ _ t) f.2 g.1)
    (and_i _ _ g.2 f.1))

active_order : (s z h l e c : Bool) → ((s and z) and (h and l and e and c)) ≡ (s and (z and e and c and (h and l)))
active_order s z h l e c = same_test _ _
    (λ t.
    let f = four_e h l e c (and_r _ _ t) in
    and_i _ _ (and_l _ _ (and_l _ _ t)) (four_i _ _ _ _ (and_r _ _ (and_l _ _ t)) f.2 f.3 (and_i _ _ f.0 f.1)))
    (λ t.
    let f = four_e _ _ _ _ (and_r _ _ t) in
    and_i _ _ (and_i _ _ (and_l _ _ t) f.0) (four_i _ _ _ _ (and_l _ _ f.3) (and_r _ _ f.3) f.1 f.2))

defunct_order : (s z h l e b k o : Bool) → ((s and z) and ((h and e) and (l and b) and (k and o) and non false)) ≡ (s and (z and e and b and k and (h and l) and o))
unfolding non
defunct_order s z h l e b k o = same_test _ _
    (λ t.
    let f = four_e _ _ _ _ (and_r _ _ t) in
    and_i _ _ (and_l _ _ (and_l _ _ t))
    (and_i _ _ (and_i _ _ (four_i _ _ _ _ (and_r _ _ (and_l _ _ t)) (and_r _ _ f.0) (and_r _ _ f.1) (and_l _ _ f.2)) (and_i _ _ (and_l _ _ f.0) (and_l _ _ f.1))) (and_r _ _ f.2)))
    (λ t.
    let u = and_r _ _ t in
    let f = four_e _ _ _ _ (and_l _ _ (and_l _ _ u)) in
    let i = and_r _ _ (and_l _ _ u) in
    and_i _ _ (and_i _ _ (and_l _ _ t) f.0) (four_i _ _ _ _ (and_i _ _ (and_l _ _ i) f.1) (and_i _ _ (and_r _ _ i) f.2) (and_i _ _ f.3 (and_r _ _ u)) refl))

-- ---- a place is gathered
module _ (s : Bool) where
  pub lock_gathered : (x : Lock) (v : ℕ) (t : Bool) → eqb v 0 ≡ is_vehicle x.scope
      → t ≡ (s and (eqb (bit_or (bit_or x.id.hi x.coverage.w0) x.coverage.w2) 0 and eqb (bit_or (bit_or x.id.lo x.coverage.w1) x.coverage.w3) 0
      and eqb (bit_or (bit_or (bit_or x.principal x.metadata) x.subject) v) 0 and non (x.coverage.whole || x.exclusive)))
      → t ≡ (s and zero_lock x)
  unfolding zero_lock zero_id zero_set
  lock_gathered x v t e f = f ∙ ap (λ (b : Bool). s and b) (simp (or_zero, none_of, e) (lock_order _ _ _ _ _ _ _ _ _ _ _ _))

  pub active_gathered : (x : ActiveLock) (t u : Bool) → u ≡ (s and zero_lock x.lock)
      → t ≡ (u and (eqb x.parent.hi 0 and eqb x.parent.lo 0 and eqb x.expires 0 and non x.child)) → t ≡ (s and is_blank_a x)
  unfolding is_blank_a zero_id
  active_gathered x t u e f = f ∙ rw e (active_order s (zero_lock x.lock) _ _ _ _)

  pub defunct_gathered : (x : DefunctLock) (t u : Bool) → u ≡ (s and zero_lock x.lock)
      → t ≡ (u and (eqb (bit_or x.target.hi x.expires) 0 and eqb (bit_or x.target.lo x.broken) 0 and eqb (bit_or x.breaker x.holder) 0 and non false)) → t ≡ (s and is_blank_d x)
  unfolding is_blank_d zero_id
  defunct_gathered x t u e f = f ∙ rw e (simp or_zero (defunct_order s (zero_lock x.lock) _ _ _ _ _ _))

-- ---- the places from n to a, as far as they are gathered in d
abbrev pub Swept : (ℕ → Bool) → ℕ → ℕ → Dirt → Type 0
Swept p n a d = ((clean d ≡ true) × ((k : ℕ) → n ≤ k → k < a → p k ≡ true)) ⊎ ((clean d ≡ false) × ((k : ℕ) × (n ≤ k) × (k < a) × (p k ≡ false)))

pub swept_none : (p : ℕ → Bool) (n : ℕ) (d : Dirt) → d ≡ spotless → Swept p n n d
unfolding clean ◌and◌ non
swept_none p n d e = inl (ap clean e, λ k h g. absurd (omega arith))

module _ (p : ℕ → Bool) (n a : ℕ) (d r : Dirt) (h : n ≤ a) (e : clean r ≡ (clean d and p a)) where
  pub swept_more : Swept p n a d → Swept p n (a + 1) r
  swept_more (inl w) = by (p a) (Swept p n (a + 1) r)
      (λ t. inl (e ∙ and_t (clean d) (p a) w.0 ∙ t, from_more (λ k. p k ≡ true) n a w.1 t))
      (λ t. inr (e ∙ and_t (clean d) (p a) w.0 ∙ t, (a, h, omega arith, t)))
  swept_more (inr w) = inr (e ∙ and_f (clean d) (p a) w.0, (w.1.0, w.1.1, omega (arith, w.1.2), w.1.3))

module _ {A : Type 0} (p : A → Bool) (l : List A) (b : A) (n a : ℕ) (d : Dirt) (h : length l ≡ a) where
  pub swept_all : Swept (λ k. p (get_or l k b)) n a d → clean d ≡ all p (drop n l)
  swept_all (inl w) = w.0 ∙ sym (rest_yes p l n b (λ i k g. w.1 i k (omega arith)))
  swept_all (inr w) = w.0 ∙ sym (rest_no p l n b w.1.0 w.1.1 (omega (arith, w.1.2)) w.1.3)
