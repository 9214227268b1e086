-- Where two coverages meet: the laws that 02, C-13 asks for and that callers cite, and the lowest ECU found word by word.
-- Assumes nothing.
use mathlib.Core.Path.{◌≡◌, refl, sym, subst, ap, ap₂, ◌∙◌}
use mathlib.Core.Bool.{Bool, true, false, cond, true≢false}
use Rattle.std.specs.Prelude.{Option, None, Some}
use Prim.Native.Nat.{ℕ, zero, suc, ◌+◌, ◌*◌, ◌/◌, ◌%◌, ◌^◌, ◌<◌}
use native.Mathlib.Nat.{pos_of_ne-zero}
use native.Mathlib.Decide.{ℕ_discrete}
use native.Mathlib.Omega.{arith}
use lib.Arith.{digits_div, digits_mod}
use lib.Count.{count_trailing_zeros}
use Rattle.lists.specs.Tests.{◌and◌, ◌or◌, non, Yes, No}
use Rattle.lists.specs.Below.{any_below, lowest_below}
use Rattle.lists.proofs.Tests.{and_comm, and_f, and_i, and_l, and_r, or_comm, or_f, against, →no, non_t, non_f}
use Rattle.lists.proofs.Below.{any_of, any_at, IsLowest, lowest_is, lowest_one, lowest_same}
use Rattle.bits.specs.Bits.{bit_at}
use Rattle.bits.proofs.Bits.{and_bit, bit_of_zero, Lowest, trailing_lowest}
use Rattle.coverage.specs.Coverage.{word_of, in_set, covers, overlap, lowest_in, spot_of, shared, is_met, is_no_ecu, is_met_at_none, is_empty}
use Rattle.coverage.specs.Code.{ecu_of, in_both}
use Rattle.coverage.specs.declared.LockCoverage.{LockCoverage}
use Rattle.coverage.proofs.Laws.{Sized, overlap_sym}

-- ---- what both cover, by what each is

-- the whole vehicle and a set: the set
whole_set : (a b : LockCoverage) (e : ℕ) → Yes a.whole → No b.whole → (covers a e and covers b e) ≡ in_set b e
unfolding covers ◌and◌ ◌or◌
whole_set a b e p q = rw (p, q)

-- two sets: what is in both
two_sets : (a b : LockCoverage) (e : ℕ) → No a.whole → No b.whole → (covers a e and covers b e) ≡ (in_set a e and in_set b e)
unfolding covers ◌or◌
two_sets a b e p q = rw (p, q)

both_sym : (a b : LockCoverage) → lowest_below 256 (λ e. covers a e and covers b e) ≡ lowest_below 256 (λ e. covers b e and covers a e)
both_sym a b = lowest_same 256 (λ e. covers a e and covers b e) (λ e. covers b e and covers a e) (λ e l. and_comm (covers a e) (covers b e))

pub spot_sym : (a b : LockCoverage) → spot_of a b ≡ spot_of b a
unfolding spot_of
spot_sym a b = rw (and_comm a.whole b.whole, both_sym a b)

-- ---- where they meet, case by case, as 02 has it

-- "of two whole vehicles"
pub spot_wholes : (a b : LockCoverage) → Yes a.whole → Yes b.whole → spot_of a b ≡ None
unfolding spot_of ◌and◌
spot_wholes a b p q = rw (p, q)

-- else, where f says which ECUs both cover, the lowest of them
spot_where : (a b : LockCoverage) (f : ℕ → Bool) → No (a.whole and b.whole) → ((e : ℕ) → (covers a e and covers b e) ≡ f e) → spot_of a b ≡ lowest_below 256 f
unfolding spot_of
spot_where a b f n h = rw n (lowest_same 256 (λ e. covers a e and covers b e) f (λ e l. h e))

-- "of the whole vehicle and a set, the set's lowest"
pub spot_set : (a b : LockCoverage) → Yes a.whole → No b.whole → spot_of a b ≡ lowest_in b
unfolding lowest_in
spot_set a b p q = spot_where a b (in_set b) (and_comm a.whole b.whole ∙ and_f b.whole a.whole q) (λ e. whole_set a b e p q)

-- the lowest that is in both sets
spot_sets : (a b : LockCoverage) → No a.whole → No b.whole → spot_of a b ≡ lowest_below 256 (λ e. in_set a e and in_set b e)
spot_sets a b p q = spot_where a b (λ e. in_set a e and in_set b e) (and_f a.whole b.whole p) (λ e. two_sets a b e p q)

-- ---- laws on the answer

-- it is the yes or no of before
pub shared_met : (a b : LockCoverage) → is_met (shared a b) ≡ overlap a b
unfolding shared
shared_met a b = go (overlap a b)
  where
    go : (o : Bool) → is_met (cond o (Some (spot_of a b)) None) ≡ o
    go true = refl
    go false = refl

pub shared_sym : (a b : LockCoverage) → shared a b ≡ shared b a
unfolding shared
shared_sym a b = rw (overlap_sym a b, spot_sym a b)

-- what overlaps meets where `spot_of` says
pub shared_spot : (a b : LockCoverage) → Yes (overlap a b) → shared a b ≡ Some (spot_of a b)
unfolding shared
shared_spot a b t = rw t

pub shared_apart : (a b : LockCoverage) → No (overlap a b) → shared a b ≡ None
unfolding shared
shared_apart a b t = rw t

-- and back: an answer's spot is that one, and the two overlap
spot_in : Option (Option ℕ) → Option ℕ
spot_in None = None
spot_in (Some at) = at

pub spot_shared : (a b : LockCoverage) (at : Option ℕ) → shared a b ≡ Some at → Yes (overlap a b) × (spot_of a b ≡ at)
unfolding spot_in
spot_shared a b at e =
    let t : Yes (overlap a b) = sym (shared_met a b) ∙ ap is_met e in
    (t, ap spot_in (sym (shared_spot a b t) ∙ e))

-- at an ECU: it is the lowest that both cover
spot_lowest : (a b : LockCoverage) (e : ℕ) → spot_of a b ≡ Some e → IsLowest 256 (λ f. covers a f and covers b f) (Some e)
unfolding spot_of
spot_lowest a b e q = go (a.whole and b.whole) q
  where
    both : ℕ → Bool
    both f = covers a f and covers b f

    go : (w : Bool) → cond w None (lowest_below 256 both) ≡ Some e → IsLowest 256 both (Some e)
    go true q = absurd (true≢false (ap is_no_ecu q))
    go false q = subst (IsLowest 256 both) q (lowest_is 256 both)

pub shared_in : (a b : LockCoverage) (e : ℕ) → shared a b ≡ Some (Some e) → (e < 256) × Yes (covers a e) × Yes (covers b e)
shared_in a b e q =
    let r = spot_lowest a b e (spot_shared a b (Some e) q).1 in
    (r.0, and_l (covers a e) (covers b e) r.1, and_r (covers a e) (covers b e) r.1)

pub shared_lowest : (a b : LockCoverage) (e : ℕ) → shared a b ≡ Some (Some e) → (f : ℕ) → f < e → Yes (covers a f) → Yes (covers b f) → ⊥
shared_lowest a b e q f h s t = against ((spot_lowest a b e (spot_shared a b (Some e) q).1).2 f h) (and_i (covers a f) (covers b f) s t)

-- "of two whole vehicles, or the whole vehicle and the empty set, an overlap with no ECU", and of no others
none_in : (f : ℕ → Bool) → is_no_ecu (lowest_below 256 f) ≡ non (any_below 256 f)
none_in f = go (lowest_below 256 f) (lowest_is 256 f)
  where
    go : (o : Option ℕ) → IsLowest 256 f o → is_no_ecu o ≡ non (any_below 256 f)
    go None r = sym (non_f (any_below 256 f) (→no (any_below 256 f) (λ t. let q = any_at 256 f t in against (r q.0 q.1) q.2)))
    go (Some e) r = sym (non_t (any_below 256 f) (any_of 256 f e r.0 r.1))

overlap_whole : (a b : LockCoverage) → Yes a.whole → Yes (overlap a b)
unfolding overlap ◌or◌
overlap_whole a b p = rw p

empty_set : (c : LockCoverage) → No c.whole → is_empty c ≡ non (any_below 256 (in_set c))
unfolding is_empty ◌and◌ non
empty_set c p = rw p

none_set : (a b : LockCoverage) → Yes a.whole → No b.whole → is_met_at_none (shared a b) ≡ is_empty b
unfolding lowest_in
none_set a b p q = ap is_met_at_none (shared_spot a b (overlap_whole a b p) ∙ ap Some (spot_set a b p q)) ∙ none_in (in_set b) ∙ sym (empty_set b q)

overlap_sets : (a b : LockCoverage) → No a.whole → No b.whole → overlap a b ≡ any_below 256 (λ e. in_set a e and in_set b e)
unfolding overlap
overlap_sets a b p q = or_f (a.whole or b.whole) (any_below 256 (λ e. in_set a e and in_set b e)) (or_f a.whole b.whole p ∙ q)

none_sets : (a b : LockCoverage) → No a.whole → No b.whole → is_met_at_none (shared a b) ≡ false
unfolding shared non
none_sets a b p q =
    ap₂ (λ (o : Bool) (at : Option ℕ). is_met_at_none (cond o (Some at) None)) (overlap_sets a b p q) (spot_sets a b p q)
    ∙ go (any_below 256 (λ e. in_set a e and in_set b e)) (none_in (λ e. in_set a e and in_set b e))
  where
    at : Option ℕ
    at = lowest_below 256 (λ e. in_set a e and in_set b e)

    go : (o : Bool) → is_no_ecu at ≡ non o → is_met_at_none (cond o (Some at) None) ≡ false
    go true e = e
    go false e = refl

pub shared_none : (a b : LockCoverage) → is_met_at_none (shared a b) ≡ (a.whole and b.whole or a.whole and is_empty b or is_empty a and b.whole)
unfolding ◌and◌ ◌or◌
shared_none a b = go a.whole b.whole refl refl
  where
    go : (p q : Bool) → a.whole ≡ p → b.whole ≡ q → is_met_at_none (shared a b) ≡ (p and q or p and is_empty b or is_empty a and q)
    go true true e f = ap is_met_at_none (shared_spot a b (overlap_whole a b e) ∙ ap Some (spot_wholes a b e f))
    go true false e f = none_set a b e f ∙ sym (or_comm (is_empty b) (is_empty a and false) ∙ or_f (is_empty a and false) (is_empty b) (and_comm (is_empty a) false))
    go false true e f = ap is_met_at_none (shared_sym a b) ∙ none_set b a f e ∙ and_comm true (is_empty a)
    go false false e f = none_sets a b e f ∙ and_comm false (is_empty a)

-- ---- what the code computes

-- a word's lowest bit is one of 64
pub bit_below : (w : ℕ) → w < 2 ^ 64 → (w ≡ 0 → ⊥) → count_trailing_zeros 64 w < 64
bit_below w h n = (trailing_lowest 64 w h (pos_of_ne-zero n)).0

pub none_yet : (c : LockCoverage) (j : ℕ) → j < 0 → word_of c j ≡ 0
none_yet c j h = absurd (omega arith)

-- the words before the i-th are empty, and this one isn't: its lowest bit is the set's lowest ECU
pub lowest_at : (c : LockCoverage) → Sized c → (i : ℕ) → i < 4 → ((j : ℕ) → j < i → word_of c j ≡ 0) → (word_of c i ≡ 0 → ⊥) → ecu_of (word_of c i) (i * 64) ≡ lowest_in c
unfolding lowest_in in_set Sized
lowest_at c s i l z n = sym (lowest_one 256 (in_set c) (Some (i * 64 + t)) (omega (arith, r.0), here, below))
  where
    t : ℕ
    t = count_trailing_zeros 64 (word_of c i)

    r : (t < 64) × Lowest (word_of c i) t
    r = trailing_lowest 64 (word_of c i) (s i) (pos_of_ne-zero n)

    here : in_set c (i * 64 + t) ≡ true
    here = ap₂ (λ (w k : ℕ). bit_at (word_of c w) k) (digits_div i r.0) (digits_mod i r.0) ∙ r.1.here

    below : (k : ℕ) → k < i * 64 + t → in_set c k ≡ false
    below k h = elim (ℕ_discrete (k / 64) i) [
      | yes e ↦ ap (λ (w : ℕ). bit_at (word_of c w) (k % 64)) e ∙ r.1.none_below (k % 64) (omega (arith, e, h))
      | no e ↦ ap (λ (w : ℕ). bit_at w (k % 64)) (z (k / 64) (omega (arith, e, h, r.0))) ∙ bit_of_zero (k % 64)
    ]

-- one empty word more
pub word_more : (c : LockCoverage) (i : ℕ) → ((j : ℕ) → j < i → word_of c j ≡ 0) → word_of c i ≡ 0 → (j : ℕ) → j < suc i → word_of c j ≡ 0
word_more c i z e j h = elim (ℕ_discrete j i) [ yes q ↦ subst (λ (k : ℕ). word_of c k ≡ 0) (sym q) e | no q ↦ z j (omega arith) ]

pub lowest_nowhere : (c : LockCoverage) → ((j : ℕ) → j < 4 → word_of c j ≡ 0) → None ≡ lowest_in c
unfolding lowest_in in_set
lowest_nowhere c z = sym (lowest_one 256 (in_set c) None (λ k h. ap (λ (w : ℕ). bit_at w (k % 64)) (z (k / 64) (omega arith)) ∙ bit_of_zero (k % 64)))

-- the `&` of two sets, word by word, has what is in both
in_both_lem : (a b : LockCoverage) (e : ℕ) → in_set (in_both a b) e ≡ (in_set a e and in_set b e)
unfolding in_set word_of
in_both_lem a b e = go (e / 64)
  where
    go : (i : ℕ) → bit_at (word_of (in_both a b) i) (e % 64) ≡ (bit_at (word_of a i) (e % 64) and bit_at (word_of b i) (e % 64))
    go zero = and_bit a.w0 b.w0 (e % 64)
    go (suc zero) = and_bit a.w1 b.w1 (e % 64)
    go (suc (suc zero)) = and_bit a.w2 b.w2 (e % 64)
    go (suc (suc (suc i))) = and_bit a.w3 b.w3 (e % 64)

pub spot_both : (a b : LockCoverage) → No a.whole → No b.whole → lowest_in (in_both a b) ≡ spot_of a b
unfolding lowest_in
spot_both a b p q = lowest_same 256 (in_set (in_both a b)) (λ e. in_set a e and in_set b e) (λ e l. in_both_lem a b e) ∙ sym (spot_sets a b p q)
