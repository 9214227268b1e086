-- A word's bits: those of an `&`, that a word is its bits, and its lowest set bit. Over any width.
-- Assumes nothing.
use mathlib.Core.Path.{◌≡◌, refl, sym, subst, ap, ap₂, ◌∙◌}
use mathlib.Core.Bool.{true, false, true≢false}
use Prim.Native.Nat.{ℕ, zero, suc, ◌+◌, ◌*◌, ◌/◌, ◌%◌, ◌^◌, ◌<◌, ◌≤◌, suc-le-suc, zero-le}
use native.Mathlib.Nat.{div-one, zero-div, mod-lt, div-add-mod', zero-lt-suc, le_of_suc-le-suc, not-suc-le-zero, lt_of_le_of_lt, pos_of_ne-zero, pow-suc, pow-le-pow_right}
use native.Mathlib.Numerals.{one-add, add-one}
use native.Mathlib.Omega.{arith}
use borrow.Author.Tests.{eqb-true, eqb-false, eq-eqb, ne_eqb}
use lib.Dec.{eqb}
use lib.Arith.{lt-one}
use lib.Pow.{shr-shr, shr_lt}
use lib.Bits.{bit_and, bit_or, and_shr, and_mod, or_shr, or_mod, and_le_l, and_le_r}
use lib.Count.{count_trailing_zeros, under}
use Rattle.bits.specs.Bits.{bit_at}
use Rattle.lists.specs.Tests.{◌and◌, ◌or◌, ◌imp◌, non}
use Rattle.lists.specs.Below.{any_below, all_below}
use Rattle.lists.proofs.Tests.{same_test, and_of_imp, imp_of_and, non_yes, non_f}
use Rattle.lists.proofs.Below.{any_of, any_at, all_of, all_at}

two : zero < 2
two = zero-lt-suc 1

-- ---- bit 0 and the others

pub bit_zero : (w : ℕ) → bit_at w 0 ≡ eqb (w % 2) 1
bit_zero w = ap (λ (x : ℕ). eqb (x % 2) 1) (div-one w)

pub bit_half : (w k : ℕ) → bit_at w (suc k) ≡ bit_at (w / 2) k
bit_half w k = ap (λ (x : ℕ). eqb (x % 2) 1) (ap (λ (j : ℕ). w / 2 ^ j) (sym (one-add k)) ∙ sym (shr-shr w 1 k))

pub bit_of_zero : (k : ℕ) → bit_at 0 k ≡ false
bit_of_zero k = ap (λ (x : ℕ). eqb (x % 2) 1) (zero-div (2 ^ k))

half_lt : (n w : ℕ) → w < 2 ^ suc n → w / 2 < 2 ^ n
half_lt n w h = shr_lt n 1 (subst (λ (x : ℕ). w < 2 ^ x) (sym (add-one n)) h)

-- ---- the bits of an `&`

and_digit : (d e : ℕ) → d < 2 → e < 2 → eqb (bit_and d e) 1 ≡ (eqb d 1 and eqb e 1)
unfolding ◌and◌
and_digit zero e hd he = refl
and_digit (suc zero) zero hd he = refl
and_digit (suc zero) (suc zero) hd he = refl
and_digit (suc zero) (suc (suc e)) hd he = absurd (omega arith)
and_digit (suc (suc d)) e hd he = absurd (omega arith)

pub and_bit : (a b k : ℕ) → bit_at (bit_and a b) k ≡ (bit_at a k and bit_at b k)
and_bit a b k =
    ap (λ (x : ℕ). eqb (x % 2) 1) (and_shr a b k)
    ∙ ap (λ (x : ℕ). eqb x 1) (and_mod (a / 2 ^ k) (b / 2 ^ k) 1)
    ∙ and_digit (a / 2 ^ k % 2) (b / 2 ^ k % 2) (mod-lt (a / 2 ^ k) two) (mod-lt (b / 2 ^ k) two)

-- ---- the bits of an `|`, and of a power of two

or_digit : (d e : ℕ) → d < 2 → e < 2 → eqb (bit_or d e) 1 ≡ (eqb d 1 or eqb e 1)
unfolding ◌or◌
or_digit zero e hd he = refl
or_digit (suc zero) zero hd he = refl
or_digit (suc zero) (suc zero) hd he = refl
or_digit (suc zero) (suc (suc e)) hd he = absurd (omega arith)
or_digit (suc (suc d)) e hd he = absurd (omega arith)

pub or_bit : (a b k : ℕ) → bit_at (bit_or a b) k ≡ (bit_at a k or bit_at b k)
or_bit a b k =
    ap (λ (x : ℕ). eqb (x % 2) 1) (or_shr a b k)
    ∙ ap (λ (x : ℕ). eqb x 1) (or_mod (a / 2 ^ k) (b / 2 ^ k) 1)
    ∙ or_digit (a / 2 ^ k % 2) (b / 2 ^ k % 2) (mod-lt (a / 2 ^ k) two) (mod-lt (b / 2 ^ k) two)

even : (j : ℕ) → 2 ^ suc j % 2 ≡ 0
even j = omega (arith, pow-suc 2 j)

half : (j : ℕ) → 2 ^ suc j / 2 ≡ 2 ^ j
half j = omega (arith, pow-suc 2 j)

pub power_bit : (j k : ℕ) → bit_at (2 ^ j) k ≡ eqb j k
power_bit zero zero = refl
power_bit zero (suc k) = bit_half 1 k ∙ bit_of_zero k ∙ sym (ne_eqb 0 (suc k) (λ e. omega arith))
power_bit (suc j) zero = bit_zero (2 ^ suc j) ∙ ap (λ (x : ℕ). eqb x 1) (even j) ∙ sym (ne_eqb (suc j) 0 (λ e. omega arith))
power_bit (suc j) (suc k) = bit_half (2 ^ suc j) k ∙ ap (λ (x : ℕ). bit_at x k) (half j) ∙ power_bit j k ∙ same_test (eqb j k) (eqb (suc j) (suc k)) (λ p. eq-eqb (suc j) (suc k) (ap suc (eqb-true j k p))) (λ p. eq-eqb j k (omega (arith, eqb-true (suc j) (suc k) p)))

pub below_power : (k n : ℕ) → k < n → 2 ^ k < 2 ^ n
below_power k n h =
    let up : 2 ^ suc k ≤ 2 ^ n = pow-le-pow_right two h in
    let pos : zero < 2 ^ k = pow-le-pow_right two zero-le in
    omega (arith, pow-suc 2 k)

-- ---- a word is its bits

same_digit : (d e : ℕ) → d < 2 → e < 2 → eqb d 1 ≡ eqb e 1 → d ≡ e
same_digit zero zero hd he p = refl
same_digit zero (suc zero) hd he p = absurd (true≢false (sym p))
same_digit zero (suc (suc e)) hd he p = absurd (omega arith)
same_digit (suc zero) zero hd he p = absurd (true≢false p)
same_digit (suc zero) (suc zero) hd he p = refl
same_digit (suc zero) (suc (suc e)) hd he p = absurd (omega arith)
same_digit (suc (suc d)) e hd he p = absurd (omega arith)

pub bits_ext : (n a b : ℕ) → a < 2 ^ n → b < 2 ^ n → ((k : ℕ) → k < n → bit_at a k ≡ bit_at b k) → a ≡ b
bits_ext zero a b ha hb h = lt-one ha ∙ sym (lt-one hb)
bits_ext (suc n) a b ha hb h =
    sym (div-add-mod' a 2)
    ∙ ap₂ (λ (q r : ℕ). q * 2 + r)
    (bits_ext n (a / 2) (b / 2) (half_lt n a ha) (half_lt n b hb) (λ k l. sym (bit_half a k) ∙ h (suc k) (suc-le-suc l) ∙ bit_half b k))
    (same_digit (a % 2) (b % 2) (mod-lt a two) (mod-lt b two) (sym (bit_zero a) ∙ h 0 (zero-lt-suc n) ∙ bit_zero b))
    ∙ div-add-mod' b 2

-- ---- the lowest set bit

-- t is the lowest set bit of w
pub record Lowest (w t : ℕ) : Type 0 where
  pub here : bit_at w t ≡ true
  pub none_below : (k : ℕ) → k < t → bit_at w k ≡ false

lowest_half : (w t : ℕ) → w % 2 ≡ 0 → Lowest (w / 2) t → Lowest w (suc t)
lowest_half w t e l = record { here = bit_half w t ∙ l.here; none_below = below }
  where
    below : (k : ℕ) → k < suc t → bit_at w k ≡ false
    below zero h = bit_zero w ∙ ap (λ (x : ℕ). eqb x 1) e
    below (suc k) h = bit_half w k ∙ l.none_below k (le_of_suc-le-suc h)

pub trailing_lowest : (n w : ℕ) → w < 2 ^ n → 0 < w → (count_trailing_zeros n w < n) × Lowest w (count_trailing_zeros n w)
unfolding count_trailing_zeros
trailing_lowest zero w h p = absurd (omega (arith, lt-one h))
trailing_lowest (suc n) w h p = go (w % 2) refl (λ q. trailing_lowest n (w / 2) (half_lt n w h) q)
  where
    go : (d : ℕ) → w % 2 ≡ d → (0 < w / 2 → (count_trailing_zeros n (w / 2) < n) × Lowest (w / 2) (count_trailing_zeros n (w / 2)))
        → (under d (count_trailing_zeros n (w / 2)) < suc n) × Lowest w (under d (count_trailing_zeros n (w / 2)))
    go zero e rest = let r = rest (omega arith) in (suc-le-suc r.0, lowest_half w (count_trailing_zeros n (w / 2)) e r.1)
    go (suc zero) e rest = (zero-lt-suc n, record { here = bit_zero w ∙ ap (λ (x : ℕ). eqb x 1) e; none_below = λ k l. absurd (not-suc-le-zero l) })
    go (suc (suc d)) e rest = absurd (omega (arith, mod-lt w two))

-- ---- two words against each other

-- some bit is in both, if and only if their `&` is not 0
pub word_any : (n a b : ℕ) → a < 2 ^ n → any_below n (λ k. bit_at a k and bit_at b k) ≡ non (eqb (bit_and a b) 0)
word_any n a b ha =
    same_test (any_below n (λ k. bit_at a k and bit_at b k)) (non (eqb (bit_and a b) 0))
    (λ p. let r = any_at n (λ k. bit_at a k and bit_at b k) p in
    non_f (eqb (bit_and a b) 0) (ne_eqb (bit_and a b) 0 (λ e. true≢false (sym r.2 ∙ sym (and_bit a b r.0) ∙ ap (λ (x : ℕ). bit_at x r.0) e ∙ bit_of_zero r.0))))
    (λ p. let r = trailing_lowest n (bit_and a b) (lt_of_le_of_lt (and_le_l a b) ha) (pos_of_ne-zero (eqb-false (bit_and a b) 0 (non_yes (eqb (bit_and a b) 0) p))) in
    any_of n (λ k. bit_at a k and bit_at b k) (count_trailing_zeros n (bit_and a b)) r.0 (sym (and_bit a b (count_trailing_zeros n (bit_and a b))) ∙ r.1.here))

-- each bit of b is in a, if and only if their `&` is b
pub word_all : (n a b : ℕ) → b < 2 ^ n → all_below n (λ k. bit_at b k imp bit_at a k) ≡ eqb (bit_and a b) b
word_all n a b hb =
    same_test (all_below n (λ k. bit_at b k imp bit_at a k)) (eqb (bit_and a b) b)
    (λ p. eq-eqb (bit_and a b) b (bits_ext n (bit_and a b) b (lt_of_le_of_lt (and_le_r a b) hb) hb (λ k l.
    and_bit a b k ∙ and_of_imp (bit_at a k) (bit_at b k) (all_at n (λ k. bit_at b k imp bit_at a k) p k l))))
    (λ p. all_of n (λ k. bit_at b k imp bit_at a k) (λ k l.
    imp_of_and (bit_at a k) (bit_at b k) (sym (and_bit a b k) ∙ ap (λ (x : ℕ). bit_at x k) (eqb-true (bit_and a b) b p))))
