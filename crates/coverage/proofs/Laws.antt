-- Overlap and containment: word by word, and the laws that callers cite.
-- Assumes nothing.
use mathlib.Core.Path.{◌≡◌, refl, sym, ap, ap₂, ◌∙◌}
use mathlib.Core.Bool.{Bool, true, false, not, ◌&&◌, ◌||◌, false≢true}
use mathlib.Core.List.{List, [], ◌∷◌}
use Prim.Native.Nat.{ℕ, zero, suc, ◌*◌, ◌/◌, ◌%◌, ◌^◌, ◌<◌}
use native.Mathlib.Nat.{zero-lt-suc, div-add-mod', one-mul, mod-eq_of_lt}
use native.Mathlib.Omega.{arith}
use borrow.Author.Tests.{eq-eqb, ne_eqb, eqb-true, eqb-false}
use lib.Dec.{eqb}
use lib.Bits.{bit_and, bit_or}
use Rattle.lists.specs.Tests.{◌and◌, ◌or◌, ◌imp◌, non}
use Rattle.lists.specs.Lists.{any}
use Rattle.lists.specs.Below.{any_below, all_below}
use Rattle.lists.proofs.Tests.{and_comm, or_comm, or_f, imp_refl, imp_trans, or_assoc, same_test, by, cond_true, cond_false, codes}
use Rattle.lists.proofs.Below.{any_split, all_split, any_same, all_same, any_four, all_four, all_of, all_at}
use Rattle.bits.specs.Bits.{bit_at}
use Rattle.bits.proofs.Bits.{word_any, word_all, or_bit, power_bit, below_power}
use Rattle.coverage.specs.Coverage.{word_of, in_set, overlap, within, bit_in, with_ecu, with_ecus}
use Rattle.coverage.specs.declared.LockCoverage.{LockCoverage}

-- each word is one of 64 bits
unfoldable pub Sized : LockCoverage → Type 0
Sized c = (i : ℕ) → word_of c i < 2 ^ 64

pub sized : (c : LockCoverage) → c.w0 < 2 ^ 64 → c.w1 < 2 ^ 64 → c.w2 < 2 ^ 64 → c.w3 < 2 ^ 64 → Sized c
unfolding Sized word_of
sized c h0 h1 h2 h3 zero = h0
sized c h0 h1 h2 h3 (suc zero) = h1
sized c h0 h1 h2 h3 (suc (suc zero)) = h2
sized c h0 h1 h2 h3 (suc (suc (suc i))) = h3

pub any_words : (a b : LockCoverage) → Sized a
    → any_below 256 (λ e. in_set a e and in_set b e)
    ≡ (non (eqb (bit_and a.w0 b.w0) 0) or non (eqb (bit_and a.w1 b.w1) 0) or non (eqb (bit_and a.w2 b.w2) 0) or non (eqb (bit_and a.w3 b.w3) 0))
unfolding in_set word_of Sized
any_words a b h =
    any_split 4 64 (zero-lt-suc 63) (λ i k. bit_at (word_of a i) k and bit_at (word_of b i) k)
    ∙ any_same 4 (λ i. any_below 64 (λ k. bit_at (word_of a i) k and bit_at (word_of b i) k)) (λ i. non (eqb (bit_and (word_of a i) (word_of b i)) 0))
    (λ i l. word_any 64 (word_of a i) (word_of b i) (h i))
    ∙ any_four (λ i. non (eqb (bit_and (word_of a i) (word_of b i)) 0))

pub all_words : (a b : LockCoverage) → Sized b
    → all_below 256 (λ e. in_set b e imp in_set a e)
    ≡ (eqb (bit_and a.w0 b.w0) b.w0 and eqb (bit_and a.w1 b.w1) b.w1 and eqb (bit_and a.w2 b.w2) b.w2 and eqb (bit_and a.w3 b.w3) b.w3)
unfolding in_set word_of Sized
all_words a b h =
    all_split 4 64 (zero-lt-suc 63) (λ i k. bit_at (word_of b i) k imp bit_at (word_of a i) k)
    ∙ all_same 4 (λ i. all_below 64 (λ k. bit_at (word_of b i) k imp bit_at (word_of a i) k)) (λ i. eqb (bit_and (word_of a i) (word_of b i)) (word_of b i))
    (λ i l. word_all 64 (word_of a i) (word_of b i) (h i))
    ∙ all_four (λ i. eqb (bit_and (word_of a i) (word_of b i)) (word_of b i))

-- ---- laws that callers cite

pub overlap_sym : (a b : LockCoverage) → overlap a b ≡ overlap b a
unfolding overlap
overlap_sym a b =
    ap₂ ◌or◌ (or_comm a.whole b.whole)
    (any_same 256 (λ e. in_set a e and in_set b e) (λ e. in_set b e and in_set a e) (λ e l. and_comm (in_set a e) (in_set b e)))

pub within_refl : (a : LockCoverage) → within a a ≡ true
unfolding within ◌or◌ ◌and◌ non
within_refl a = go a.whole
  where
    go : (w : Bool) → (w or (non w and all_below 256 (λ e. in_set a e imp in_set a e))) ≡ true
    go true = refl
    go false = all_of 256 (λ e. in_set a e imp in_set a e) (λ e l. imp_refl (in_set a e))

pub within_trans : (a b c : LockCoverage) → within a b ≡ true → within b c ≡ true → within a c ≡ true
unfolding within ◌or◌ ◌and◌ non
within_trans a b c p q = go a.whole b.whole c.whole p q
  where
    all : LockCoverage → LockCoverage → Bool
    all x y = all_below 256 (λ e. in_set x e imp in_set y e)

    go : (wa wb wc : Bool) → (wb or (non wa and all a b)) ≡ true → (wc or (non wb and all b c)) ≡ true → (wc or (non wa and all a c)) ≡ true
    go wa wb true p q = refl
    go wa true false p q = absurd (false≢true q)
    go true false false p q = p
    go false false false p q =
        all_of 256 (λ e. in_set a e imp in_set c e) (λ e l.
        imp_trans (in_set a e) (in_set b e) (in_set c e) (all_at 256 (λ e. in_set a e imp in_set b e) p e l) (all_at 256 (λ e. in_set b e imp in_set c e) q e l))

-- ---- what the code computes
pub meets_code : (a b : LockCoverage) → Sized a
    → ((a.whole || b.whole) || (((not (eqb (bit_and a.w0 b.w0) 0) || not (eqb (bit_and a.w1 b.w1) 0)) || not (eqb (bit_and a.w2 b.w2) 0)) || not (eqb (bit_and a.w3 b.w3) 0)))
    ≡ overlap a b
unfolding overlap
meets_code a b h = simp codes (ap (λ (x : Bool). a.whole or b.whole or x) (sym (any_words a b h)))

pub contains_code : (a b : LockCoverage) → Sized b
    → (a.whole || (not b.whole && (((eqb (bit_and a.w0 b.w0) b.w0 && eqb (bit_and a.w1 b.w1) b.w1) && eqb (bit_and a.w2 b.w2) b.w2) && eqb (bit_and a.w3 b.w3) b.w3)))
    ≡ within b a
unfolding within
contains_code a b h = simp codes (ap (λ (x : Bool). a.whole or (non b.whole and x)) (sym (all_words a b h)))

-- ---- a set from a list: just the listed ECUs
bit_joins : (w i e f : ℕ) → f / 64 ≡ i → bit_at (bit_in w i e) (f % 64) ≡ (bit_at w (f % 64) or eqb e f)
bit_joins w i e f q = by (eqb (e / 64) i) (bit_at (bit_in w i e) (f % 64) ≡ (bit_at w (f % 64) or eqb e f))
    (λ t. let u = eqb-true (e / 64) i t in
    ap (λ (x : ℕ). bit_at x (f % 64)) (cond_true (eqb (e / 64) i) (bit_or w (2 ^ (e % 64))) w t)
    ∙ or_bit w (2 ^ (e % 64)) (f % 64)
    ∙ ap (λ (x : Bool). bit_at w (f % 64) or x) (power_bit (e % 64) (f % 64) ∙ same_test (eqb (e % 64) (f % 64)) (eqb e f)
    (λ s. eq-eqb e f (omega (arith, eqb-true (e % 64) (f % 64) s, div-add-mod' e 64, div-add-mod' f 64, u, q)))
    (λ s. eq-eqb (e % 64) (f % 64) (ap (λ (x : ℕ). x % 64) (eqb-true e f s)))))
    (λ t. let u = eqb-false (e / 64) i t in
    ap (λ (x : ℕ). bit_at x (f % 64)) (cond_false (eqb (e / 64) i) (bit_or w (2 ^ (e % 64))) w t)
    ∙ sym (or_comm (bit_at w (f % 64)) (eqb e f) ∙ or_f (eqb e f) (bit_at w (f % 64)) (ne_eqb e f (λ s. u (ap (λ (x : ℕ). x / 64) s ∙ q)))))

ecu_joins : (c : LockCoverage) (e f : ℕ) → f < 256 → in_set (with_ecu c e) f ≡ (in_set c f or eqb e f)
unfolding in_set word_of
ecu_joins c e f h = go (f / 64) refl
  where
    go : (i : ℕ) → f / 64 ≡ i → bit_at (word_of (with_ecu c e) (f / 64)) (f % 64) ≡ (bit_at (word_of c (f / 64)) (f % 64) or eqb e f)
    go zero q = rw q (bit_joins c.w0 0 e f q)
    go (suc zero) q = rw q (bit_joins c.w1 1 e f q)
    go (suc (suc zero)) q = rw q (bit_joins c.w2 2 e f q)
    go (suc (suc (suc zero))) q = rw q (bit_joins c.w3 3 e f q)
    go (suc (suc (suc (suc i)))) q = absurd (omega arith)

-- ECU f is in the set if it was, or is listed
pub ecus_join : (c : LockCoverage) (es : List ℕ) (f : ℕ) → f < 256 → in_set (with_ecus c es) f ≡ (in_set c f or any (λ e. eqb e f) es)
ecus_join c [] f h = sym (or_comm (in_set c f) false ∙ or_f false (in_set c f) refl)
ecus_join c (e ∷ es) f h = ecus_join (with_ecu c e) es f h ∙ ap (λ (x : Bool). x or any (λ e. eqb e f) es) (ecu_joins c e f h) ∙ or_assoc (in_set c f) (eqb e f) (any (λ e. eqb e f) es)

-- ---- the bit of an ECU
pub bit_set : (w k : ℕ) → k < 64 → bit_or w (1 * 2 ^ k % 18446744073709551616) ≡ bit_or w (2 ^ k)
bit_set w k h = ap (bit_or w) (ap (λ (x : ℕ). x % 18446744073709551616) (one-mul (2 ^ k)) ∙ mod-eq_of_lt (below_power k 64 h))
