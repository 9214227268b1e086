-- The laws of specs/Table.antt. Assumes nothing.
use mathlib.Core.Path.{◌≡◌, refl, sym, ap, ◌∙◌, subst}
use mathlib.Core.Bool.{Bool, true, false}
use Rattle.std.specs.Prelude.{None, Some}
use Prim.Native.Nat.{ℕ, ◌+◌, ◌-◌, ◌*◌, ◌/◌, ◌^◌, ◌≤◌, ◌<◌}
use native.Mathlib.Nat.{div-zero, zero-div, le_of_lt, mul-le-mul, mul-le-mul_left, mul-div_right, zero-mul}
use native.Mathlib.Omega.{arith}
use lib.Dec.{eqb, leb, ltb}
use borrow.Author.Tests.{le-leb, lt-leb, eq-eqb, ne_eqb, eqb-true, leb-true, ltb-true, ltb-false}
use Rattle.lists.specs.Tests.{◌and◌}
use Rattle.lists.specs.Lists.{all, ascending, Mem}
use Rattle.lists.proofs.Tests.{and_t, and_f, and_l, and_r, and_i, by}
use Rattle.lists.proofs.Lists.{all→, find→, find_key}
use Rattle.records.specs.declared.kinds.Kind.{Kind}
use Rattle.records.specs.Table.{rows, is_kind, row_of, units_in, possible}

-- ---- a kind that is none of the eleven
pub no_row : (k : ℕ) → (k ≡ 1 → ⊥) → (k ≡ 2 → ⊥) → (k ≡ 3 → ⊥) → (k ≡ 16 → ⊥) → (k ≡ 17 → ⊥) → (k ≡ 18 → ⊥) → (k ≡ 19 → ⊥) → (k ≡ 20 → ⊥) → (k ≡ 21 → ⊥) → (k ≡ 22 → ⊥) → (k ≡ 23 → ⊥)
    → None ≡ row_of k
unfolding row_of rows
no_row k h1 h2 h3 h16 h17 h18 h19 h20 h21 h22 h23 = simp (ne_eqb 1 k (λ e. h1 (sym e)), ne_eqb 2 k (λ e. h2 (sym e)), ne_eqb 3 k (λ e. h3 (sym e)), ne_eqb 16 k (λ e. h16 (sym e)), ne_eqb 17 k (λ e. h17 (sym e)), ne_eqb 18 k (λ e. h18 (sym e)), ne_eqb 19 k (λ e. h19 (sym e)), ne_eqb 20 k (λ e. h20 (sym e)), ne_eqb 21 k (λ e. h21 (sym e)), ne_eqb 22 k (λ e. h22 (sym e)), ne_eqb 23 k (λ e. h23 (sym e)))

-- ---- the table's rule: one test, which antt computes over all rows
sane : Kind → Bool
sane r = leb 2 r.base and ltb (r.base + r.unit * 64) (2 ^ 16) and ltb r.kind (2 ^ 16)

all_sane : all sane rows ≡ true
unfolding rows sane ◌and◌
all_sane = refl

no_kind_twice : ascending (λ r. r.kind) rows ≡ true
unfolding rows ◌and◌
no_kind_twice = refl

-- of a kind that is known: its row is in the table and holds its number; number and lengths are u16, and a length counts the kind
pub record Rule (k : ℕ) (r : Kind) : Type 0 where
  pub listed : Mem r rows
  pub number : r.kind ≡ k
  pub counts : 2 ≤ r.base
  pub short : r.base + r.unit * 64 < 2 ^ 16
  pub small : k < 2 ^ 16

pub rule : (k : ℕ) (r : Kind) → row_of k ≡ Some r → Rule k r
unfolding row_of sane
rule k r e =
    let f = find→ (is_kind k) rows e in
    let t = all→ sane all_sane f.0 in
    let u = and_l (leb 2 r.base and ltb (r.base + r.unit * 64) (2 ^ 16)) _ t in
    let q : r.kind ≡ k = eqb-true _ _ f.1 in
    record {
      listed = f.0;
      number = q;
      counts = leb-true _ _ (and_l (leb 2 r.base) _ u);
      short = ltb-true _ _ (and_r (leb 2 r.base) _ u);
      small = subst (λ (m : ℕ). m < 2 ^ 16) q (ltb-true _ _ (and_r (leb 2 r.base and ltb (r.base + r.unit * 64) (2 ^ 16)) _ t));
    }

-- so a length with up to 64 units fits its width, and one with any number of them twice that
pub length_short : (k : ℕ) (r : Kind) → row_of k ≡ Some r → (m : ℕ) → m ≤ 64 → r.base + r.unit * m < 2 ^ 16
length_short k r e m h = omega (arith, (rule k r e).short, mul-le-mul_left r.unit h)

pub with_units_fits : (k : ℕ) (r : Kind) → row_of k ≡ Some r → (m : ℕ) → m < 2 ^ 16 → r.base + r.unit * m < 2 ^ 32
with_units_fits k r e m h =
    let s = (rule k r e).short in
    let few : r.unit ≤ 1024 = omega (arith, s) in
    let most : m ≤ 65535 = omega (arith, h) in
    omega (arith, s, mul-le-mul few most)

-- each row of the table is the one of its kind
pub row_of_its_kind : {r : Kind} → Mem r rows → row_of r.kind ≡ Some r
unfolding row_of
row_of_its_kind {r} m = find_key (λ x. x.kind) rows no_kind_twice r.kind m refl

-- ---- units and lengths
module _ (r : Kind) (n : ℕ) where
  pub units_none : r.unit ≡ 0 → 0 ≡ units_in r n
  unfolding units_in
  units_none e = sym (ap (λ (u : ℕ). (n - r.base) / u) e ∙ div-zero (n - r.base))

  pub units_short : n < r.base → 0 ≡ units_in r n
  unfolding units_in
  units_short h = sym (ap (λ (m : ℕ). m / r.unit) (let z : n - r.base ≡ 0 = omega arith in z) ∙ zero-div r.unit)

  pub units_many : (m : ℕ) → m ≡ units_in r n → 64 < m → false ≡ possible r n
  unfolding possible
  units_many m e h = sym (and_f _ _ (ap (λ (k : ℕ). leb k 64) (sym e) ∙ lt-leb _ _ h))

  pub units_few : (m : ℕ) → m ≡ units_in r n → m ≤ 64 → eqb (r.base + r.unit * m) n ≡ possible r n
  unfolding possible
  units_few m e h = ap (λ (k : ℕ). eqb (r.base + r.unit * k) n) e ∙ sym (and_t _ _ (ap (λ (k : ℕ). leb k 64) (sym e) ∙ le-leb _ _ h))

  -- so the code's sum fits
  pub sum_fits : (m : ℕ) → r.base < 2 ^ 16 → r.unit < 2 ^ 16 → m ≤ 64 → r.base + r.unit * m < 2 ^ 32
  sum_fits m hb hu hm = omega (arith, mul-le-mul (le_of_lt hu) hm)

  -- a length that the kind can have
  pub record Length : Type 0 where
    pub most : units_in r n ≤ 64
    pub sum : r.base + r.unit * units_in r n ≡ n

  pub length_of_lem : possible r n ≡ true → Length
  unfolding possible
  length_of_lem t = record { most = leb-true _ _ (and_l (leb (units_in r n) 64) _ t); sum = eqb-true _ _ (and_r (leb (units_in r n) 64) _ t) }

-- 01: the base, and the unit "for each of 0..=64": each such sum is a length of the kind, and `Length` says that no other number is
module _ (r : Kind) (m : ℕ) where
  units_back : r.unit * units_in r (r.base + r.unit * m) ≡ r.unit * m
  unfolding units_in
  units_back =
      let e : r.base + r.unit * m - r.base ≡ r.unit * m = omega arith in
      by (ltb 0 r.unit) (r.unit * ((r.base + r.unit * m - r.base) / r.unit) ≡ r.unit * m)
      (λ t. ap (λ (x : ℕ). r.unit * (x / r.unit)) e ∙ ap (λ (x : ℕ). r.unit * x) (mul-div_right m (ltb-true _ _ t)))
      (λ t. let z : r.unit ≡ 0 = omega (arith, ltb-false 0 r.unit t) in rw z (zero-mul _ ∙ sym (zero-mul m)))

  pub units_sum : 0 < r.unit → units_in r (r.base + r.unit * m) ≡ m
  unfolding units_in
  units_sum h = ap (λ (x : ℕ). x / r.unit) (let z : r.base + r.unit * m - r.base ≡ r.unit * m = omega arith in z) ∙ mul-div_right m h

  pub possible_sum : m ≤ 64 → possible r (r.base + r.unit * m) ≡ true
  unfolding possible
  possible_sum h = and_i _ _ (le-leb _ _ few) (eq-eqb _ _ (ap (λ (x : ℕ). r.base + x) units_back))
    where
      few : units_in r (r.base + r.unit * m) ≤ 64
      few = by (ltb 0 r.unit) (units_in r (r.base + r.unit * m) ≤ 64)
          (λ t. omega (arith, units_sum (ltb-true 0 r.unit t)))
          (λ t. omega (arith, units_none r (r.base + r.unit * m) (omega (arith, ltb-false 0 r.unit t))))
