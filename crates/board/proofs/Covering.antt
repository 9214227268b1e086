-- The ECUs of a coverage: what two share or either has, word by word, and the next one after a number. Assumes nothing.
use Rattle.std.proofs.Common.{◌≡◌, ℕ, zero, suc, ◌+◌, ◌-◌, ◌/◌, ◌%◌, ◌^◌, ◌<◌, ◌≤◌, Bool, true, false, ◌||◌, eqb, ltb, leb, List, [], ◌∷◌, get_or, sym, refl, ap, ◌∙◌, subst, ap₂, lt_of_le_of_lt, zero-lt-suc, pos_of_ne-zero, zero-add, arith, shr-shr, shr_lt, ltb-false, ltb-true, leb-false, leb-true}
use native.Mathlib.Nat.{pow-le-pow_right}
use lib.Arith.{lt-one}
use lib.Bits.{bit_and, bit_or}
use lib.Count.{count_trailing_zeros}
use lib.Pow.{shr_le}
use Rattle.lists.specs.Tests.{◌and◌, ◌or◌, Yes, No}
use Rattle.lists.proofs.Tests.{against, by, codes, and_t, and_comm, or_f, or_l}
use Rattle.bits.specs.Bits.{bit_at}
use Rattle.bits.proofs.Bits.{and_bit, or_bit, bit_of_zero, Lowest, trailing_lowest}
use Rattle.coverage.specs.declared.LockCoverage.{LockCoverage}
use Rattle.coverage.specs.Coverage.{word_of, in_set, covers}
use Rattle.board.specs.Code.{Covers, Next}

-- ---- word by word
abbrev pub anded : LockCoverage → LockCoverage → LockCoverage
anded a b = record { w0 = bit_and a.w0 b.w0; w1 = bit_and a.w1 b.w1; w2 = bit_and a.w2 b.w2; w3 = bit_and a.w3 b.w3; whole = false }

abbrev pub ored : LockCoverage → LockCoverage → LockCoverage
ored a b = record { w0 = bit_or a.w0 b.w0; w1 = bit_or a.w1 b.w1; w2 = bit_or a.w2 b.w2; w3 = bit_or a.w3 b.w3; whole = a.whole || b.whole }

in_anded : (a b : LockCoverage) (e : ℕ) → in_set (anded a b) e ≡ (in_set a e and in_set b e)
unfolding in_set word_of
in_anded a b e = go (e / 64)
  where
    go : (i : ℕ) → bit_at (word_of (anded a b) i) (e % 64) ≡ (bit_at (word_of a i) (e % 64) and bit_at (word_of b i) (e % 64))
    go zero = and_bit a.w0 b.w0 (e % 64)
    go (suc zero) = and_bit a.w1 b.w1 (e % 64)
    go (suc (suc zero)) = and_bit a.w2 b.w2 (e % 64)
    go (suc (suc (suc i))) = and_bit a.w3 b.w3 (e % 64)

in_ored : (a b : LockCoverage) (e : ℕ) → in_set (ored a b) e ≡ (in_set a e or in_set b e)
unfolding in_set word_of
in_ored a b e = go (e / 64)
  where
    go : (i : ℕ) → bit_at (word_of (ored a b) i) (e % 64) ≡ (bit_at (word_of a i) (e % 64) or bit_at (word_of b i) (e % 64))
    go zero = or_bit a.w0 b.w0 (e % 64)
    go (suc zero) = or_bit a.w1 b.w1 (e % 64)
    go (suc (suc zero)) = or_bit a.w2 b.w2 (e % 64)
    go (suc (suc (suc i))) = or_bit a.w3 b.w3 (e % 64)

whole_covers : (c : LockCoverage) (e : ℕ) → Yes c.whole → Yes (covers c e)
unfolding covers
whole_covers c e t = or_l c.whole (in_set c e) t

set_covers : (c : LockCoverage) (e : ℕ) → No c.whole → covers c e ≡ in_set c e
unfolding covers
set_covers c e f = or_f c.whole (in_set c e) f

-- what both cover: the other's, of the whole vehicle; else the `&`
pub common_left : (a b : LockCoverage) → Yes a.whole → Covers b (λ e. covers a e and covers b e)
common_left a b t e = sym (and_t (covers a e) (covers b e) (whole_covers a e t))

pub common_right : (a b : LockCoverage) → Yes b.whole → Covers a (λ e. covers a e and covers b e)
common_right a b t e = common_left b a t e ∙ and_comm (covers b e) (covers a e)

pub common_sets : (a b : LockCoverage) → No a.whole → No b.whole → Covers (anded a b) (λ e. covers a e and covers b e)
common_sets a b f g e = set_covers (anded a b) e refl ∙ in_anded a b e ∙ sym (ap₂ ◌and◌ (set_covers a e f) (set_covers b e g))

-- what either covers
four : (x y p q : Bool) → ((x or y) or (p or q)) ≡ ((x or p) or (y or q))
unfolding ◌or◌
four true y p q = refl
four false true true q = refl
four false true false q = refl
four false false p q = refl

pub joined_sets : (a b : LockCoverage) → Covers (ored a b) (λ e. covers a e or covers b e)
unfolding covers ◌or◌
joined_sets a b e = simp codes (ap (λ (x : Bool). a.whole or b.whole or x) (in_ored a b e) ∙ four a.whole b.whole (in_set a e) (in_set b e))

-- ---- the next one, in four words
abbrev pub set_in : List ℕ → ℕ → Bool
set_in ws e = bit_at (get_or ws (e / 64) 0) (e % 64)

abbrev pub words_of : LockCoverage → List ℕ
words_of c = c.w0 ∷ c.w1 ∷ c.w2 ∷ c.w3 ∷ []

words_set : (c : LockCoverage) → No c.whole → (e : ℕ) → e < 256 → set_in (words_of c) e ≡ covers c e
unfolding in_set word_of
words_set c f e h = go (e / 64) (omega arith) ∙ sym (set_covers c e f)
  where
    go : (i : ℕ) → i < 4 → bit_at (get_or (c.w0 ∷ c.w1 ∷ c.w2 ∷ c.w3 ∷ []) i 0) (e % 64) ≡ bit_at (word_of c i) (e % 64)
    go zero l = refl
    go (suc zero) l = refl
    go (suc (suc zero)) l = refl
    go (suc (suc (suc zero))) l = refl
    go (suc (suc (suc (suc i)))) l = absurd (omega arith)

-- bit i of what is left of a word past its first j bits
later_bit : (w j i : ℕ) → bit_at w (j + i) ≡ bit_at (w / 2 ^ j) i
later_bit w j i = ap (λ (x : ℕ). eqb (x % 2) 1) (sym (shr-shr w j i))

no_high : (w k : ℕ) → w < 2 ^ 64 → 64 ≤ k → No (bit_at w k)
no_high w k h l =
    let up : 2 ^ 64 ≤ 2 ^ k = pow-le-pow_right (zero-lt-suc 1) l in
    let q : w / 2 ^ k ≡ 0 = lt-one (shr_lt 0 k (subst (λ (x : ℕ). w < 2 ^ x) (sym (zero-add k)) (omega arith))) in
    ap (λ (x : ℕ). eqb (x % 2) 1) q

-- from `at` on within its word
module _ (ws : List ℕ) (at : ℕ) where
  abbrev pub rest : ℕ
  rest = get_or ws (at / 64) 0 / 2 ^ (at % 64)

  within_word : (i : ℕ) → at % 64 + i < 64 → set_in ws (at + i) ≡ bit_at rest i
  within_word i h =
      let q : (at + i) / 64 ≡ at / 64 = omega arith in
      let r : (at + i) % 64 ≡ at % 64 + i = omega arith in
      rw (q, r) (later_bit (get_or ws (at / 64) 0) (at % 64) i)

  pub none_left : rest ≡ 0 → (e : ℕ) → at ≤ e → e < at - at % 64 + 64 → No (set_in ws e)
  none_left z e h l =
      let q : at + (e - at) ≡ e = omega arith in
      subst (λ (k : ℕ). No (set_in ws k)) q (within_word (e - at) (omega arith) ∙ ap (λ (x : ℕ). bit_at x (e - at)) z ∙ bit_of_zero (e - at))

  module _ (h : get_or ws (at / 64) 0 < 2 ^ 64) (n : rest ≡ 0 → ⊥) where
    abbrev pub t : ℕ
    t = count_trailing_zeros 64 rest

    low : Lowest rest t
    low = (trailing_lowest 64 rest (lt_of_le_of_lt (shr_le (get_or ws (at / 64) 0) (at % 64)) h) (pos_of_ne-zero n)).1

    pub near : at % 64 + t < 64
    near =
        let b : Yes (bit_at (get_or ws (at / 64) 0) (at % 64 + t)) = later_bit (get_or ws (at / 64) 0) (at % 64) t ∙ low.here in
        by (leb 64 (at % 64 + t)) (at % 64 + t < 64) (λ g. absurd (against (no_high _ (at % 64 + t) h (leb-true 64 (at % 64 + t) g)) b)) (λ g. leb-false 64 (at % 64 + t) g)

    pub hit : Yes (set_in ws (at + t))
    hit = within_word t near ∙ low.here

    pub none_before : (e : ℕ) → at ≤ e → e < at + t → No (set_in ws e)
    none_before e g l =
        let q : at + (e - at) ≡ e = omega arith in
        subst (λ (k : ℕ). No (set_in ws k)) q (within_word (e - at) (omega (arith, near)) ∙ low.none_below (e - at) (omega arith))

-- ---- what the search tells
pub next_whole : (c : LockCoverage) (from : ℕ) → Yes c.whole → from ≤ 256 → Next (covers c) from from
next_whole c from t h = record { after = omega arith; most = h; passed = λ e g l. absurd (omega arith); here = λ l. whole_covers c from t }

module _ (c : LockCoverage) (f : No c.whole) (from at : ℕ) (h : from ≤ at) (none : (e : ℕ) → from ≤ e → e < at → No (set_in (words_of c) e)) where
  pub next_end : at ≤ 256 → 256 ≤ at → Next (covers c) from at
  next_end m l = record { after = h; most = m; passed = λ e g k. sym (words_set c f e (omega arith)) ∙ none e g k; here = λ k. absurd (omega arith) }

  pub next_hit : at < 256 → get_or (words_of c) (at / 64) 0 < 2 ^ 64 → (rest (words_of c) at ≡ 0 → ⊥) → Next (covers c) from (at + count_trailing_zeros 64 (rest (words_of c) at))
  next_hit m s n =
      let k = near (words_of c) at s n in
      record {
        after = omega arith;
        most = omega arith;
        passed = λ e g l.
            sym (words_set c f e (omega arith))
            ∙ by (ltb e at) (No (set_in (words_of c) e)) (λ t. none e g (ltb-true e at t)) (λ t. none_before (words_of c) at s n e (ltb-false e at t) l);
        here = λ l. sym (words_set c f (at + count_trailing_zeros 64 (rest (words_of c) at)) l) ∙ hit (words_of c) at s n;
      }

  pub next_word : rest (words_of c) at ≡ 0 → (e : ℕ) → from ≤ e → e < at - at % 64 + 64 → No (set_in (words_of c) e)
  next_word z e g l = by (ltb e at) (No (set_in (words_of c) e)) (λ t. none e g (ltb-true e at t)) (λ t. none_left (words_of c) at z e (ltb-false e at t) l)

-- each of the words is one of 64 bits
pub word_size : (c : LockCoverage) → c.w0 < 2 ^ 64 → c.w1 < 2 ^ 64 → c.w2 < 2 ^ 64 → c.w3 < 2 ^ 64 → (i : ℕ) → i < 4 → get_or (words_of c) i 0 < 2 ^ 64
word_size c h0 h1 h2 h3 zero l = h0
word_size c h0 h1 h2 h3 (suc zero) l = h1
word_size c h0 h1 h2 h3 (suc (suc zero)) l = h2
word_size c h0 h1 h2 h3 (suc (suc (suc zero))) l = h3
word_size c h0 h1 h2 h3 (suc (suc (suc (suc i)))) l = absurd (omega arith)
