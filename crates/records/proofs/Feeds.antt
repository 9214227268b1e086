-- The laws of specs/Feeds.antt: bodies after a sequence, bodies before a count, words. Assumes nothing.
use mathlib.Core.Path.{◌≡◌, refl, sym, ap, ◌∙◌}
use mathlib.Core.List.{List, [], ◌∷◌, ◌++◌}
use Prim.Native.Nat.{ℕ, zero, suc, ◌+◌, ◌*◌, ◌/◌, ◌≤◌, ◌<◌, min}
use native.Mathlib.Nat.{suc-mul}
use native.Mathlib.Numerals.{add-one}
use native.Mathlib.Omega.{arith}
use lib.ListN.{length, get_or, set, replicate}
use lib.Dec.{leb}
use borrow.Author.Tests.{leb-true, ne_eqb}
use Rattle.lists.specs.Places.{in_places}
use Rattle.lists.proofs.Tests.{and_l}
use Rattle.lists.proofs.Loops.{push_in}
use Rattle.std.specs.Prelude.{None}
use Rattle.records.specs.Numbers.{Field, size, field, big}
use Rattle.records.specs.Layouts.{fields_at}
use Rattle.records.specs.Codecs.{Codec, number, pair, counted_in}
use Rattle.records.specs.Wire.{active}
use Rattle.records.specs.Feeds.{numbered, target, renewal, expiration, breaking, replacement_with, replacement_rest, replacement, metadata_right, request_of, words_in}
use Rattle.records.proofs.Codecs.{Lawful, Faithful, faithful, lawful}
use Rattle.records.proofs.Wire.{flag_there, flag_back, active_lawful, active_faithful}

-- ---- each codec is lawful
pub number_lawful : (n : ℕ) → Lawful (number n)
number_lawful n = record { count = λ x. refl; back = λ s at t. refl }

pub numbered_lawful : {R : Type 0} (c : Codec R) → Lawful c → Lawful (numbered c)
numbered_lawful c w = lawful (number 4) c pair (λ p. p.0) (λ p. p.1) (λ x y. refl) (λ x y. refl) (number_lawful 4) w

pub counted_lawful : {R : Type 0} (width : ℕ) (c : Codec R) → Lawful c → Lawful (counted_in width c)
counted_lawful width c w = lawful c (number width) pair (λ p. p.0) (λ p. p.1) (λ x y. refl) (λ x y. refl) w (number_lawful width)

pub target_lawful : Lawful target
target_lawful = record { count = λ i. refl; back = λ s at t. refl }

pub expiration_lawful : Lawful expiration
expiration_lawful = record { count = λ e. refl; back = λ s at t. refl }

pub renewal_lawful : Lawful renewal
unfolding metadata_right
renewal_lawful =
    record {
      count = λ r. refl;
      back = λ s at t.
          let v = fields_at renewal.layout s at in
          let e = flag_back (get_or v 4 0) (leb-true _ _ (and_l (leb (get_or v 4 0) 1) _ t)) in
          λ i. get_or v 0 0 ∷ get_or v 1 0 ∷ get_or v 2 0 ∷ get_or v 3 0 ∷ e i ∷ get_or v 5 0 ∷ [];
    }

breaking_lawful : Lawful breaking
breaking_lawful = record { count = λ b. refl; back = λ s at t. refl }

pub replacement_lawful : Lawful replacement
replacement_lawful = lawful active breaking replacement_with (λ r. r.lock) replacement_rest (λ a b. refl) (λ a b. refl) active_lawful breaking_lawful

-- ---- and faithful
pub numbered_faithful : {R : Type 0} (c : Codec R) → Faithful c → Faithful (numbered c)
numbered_faithful c f = faithful (number 4) c pair (λ p. p.0) (λ p. p.1) (λ p. refl) (number_lawful 4) (λ x. refl) f

pub counted_faithful : {R : Type 0} (width : ℕ) (c : Codec R) → Lawful c → Faithful c → Faithful (counted_in width c)
counted_faithful width c w f = faithful c (number width) pair (λ p. p.0) (λ p. p.1) (λ p. refl) w f (λ x. refl)

pub renewal_faithful : Faithful renewal
renewal_faithful r = λ i. record { id = r.id; expires = r.expires; now = r.now; metadata = r.metadata; given = flag_there r.given i }

pub replacement_faithful : Faithful replacement
replacement_faithful = faithful active breaking replacement_with (λ r. r.lock) replacement_rest (λ r. refl) active_lawful active_faithful (λ b. refl)

-- ---- words, one more at a time
fields_more : (n : ℕ) (f : Field) (s : List ℕ) (at : ℕ) → fields_at (replicate (suc n) f) s at ≡ fields_at (replicate n f) s at ++ (field f s (at + n * size f) ∷ [])
fields_more zero f s at = ap (λ (k : ℕ). field f s k ∷ []) (let z : at ≡ at + 0 * size f = omega arith in z)
fields_more (suc n) f s at =
    ap (λ (l : List ℕ). field f s at ∷ l)
    (fields_more n f s (at + size f)
    ∙ ap (λ (k : ℕ). fields_at (replicate n f) s (at + size f) ++ (field f s k ∷ []))
    (let z : at + size f + n * size f ≡ at + suc n * size f = omega (arith, suc-mul n (size f)) in z))

pub length_words : (n : ℕ) (f : Field) (s : List ℕ) (at : ℕ) → length (fields_at (replicate n f) s at) ≡ n
length_words zero f s at = refl
length_words (suc n) f s at = ap suc (length_words n f s (at + size f))

abbrev pub first_words : ℕ → List ℕ → List ℕ
first_words i s = in_places 128 0 (fields_at (replicate i (big 8)) s 0)

pub word_more : (i : ℕ) (s words : List ℕ) (x : ℕ) → i < 128 → words ≡ first_words i s → x ≡ field (big 8) s (i * 8) → set words i x ≡ first_words (i + 1) s
word_more i s words x h e f =
    let l : List ℕ = fields_at (replicate i (big 8)) s 0 in
    let more : l ++ (x ∷ []) ≡ fields_at (replicate (i + 1) (big 8)) s 0 =
    ap (λ (y : ℕ). l ++ (y ∷ [])) (f ∙ ap (field (big 8) s) (let z : i * 8 ≡ 0 + i * 8 = omega arith in z))
    ∙ sym (fields_more i (big 8) s 0) ∙ ap (λ (n : ℕ). fields_at (replicate n (big 8)) s 0) (sym (add-one i)) in
    ap (λ (w : List ℕ). set w i x) e ∙ push_in l 128 i x 0 (sym (length_words i (big 8) s 0)) h ∙ ap (in_places 128 0) more

pub words_all : (i n : ℕ) (s words : List ℕ) → words ≡ first_words i s → i ≤ n → n ≤ i → n ≡ min (length s / 8) 128 → words ≡ in_places 128 0 (words_in s)
unfolding words_in
words_all i n s words e h k m = e ∙ ap (λ (j : ℕ). first_words j s) (let z : i ≡ n = omega arith in z ∙ m)

-- ---- a kind that is none of the eight
pub not_asked : (k : ℕ) (s : List ℕ) → (k ≡ 16 → ⊥) → (k ≡ 17 → ⊥) → (k ≡ 18 → ⊥) → (k ≡ 19 → ⊥) → (k ≡ 20 → ⊥) → (k ≡ 21 → ⊥) → (k ≡ 22 → ⊥) → (k ≡ 23 → ⊥)
    → None ≡ request_of k s
unfolding request_of
not_asked k s h16 h17 h18 h19 h20 h21 h22 h23 =
    simp (ne_eqb k 16 h16, ne_eqb k 17 h17, ne_eqb k 18 h18, ne_eqb k 19 h19, ne_eqb k 20 h20, ne_eqb k 21 h21, ne_eqb k 22 h22, ne_eqb k 23 h23)
