-- 01: "ECU e is bit e mod 8 of byte e/8": the four words that a lock start's set is read as say the same. Assumes nothing.
use mathlib.Core.Path.{◌≡◌, refl, sym, ap, ap₂, ◌∙◌}
use mathlib.Core.List.{List, [], ◌∷◌}
use Prim.Native.Nat.{ℕ, zero, suc, ◌+◌, ◌-◌, ◌*◌, ◌/◌, ◌%◌, ◌^◌, ◌≤◌, ◌<◌}
use native.Mathlib.Nat.{div-div-eq-div-mul}
use lib.Pow.{pow-add}
use native.Mathlib.Omega.{arith}
use lib.ListN.{get_or, drop}
use lib.Seq.{get_or-take, get_or-drop}
use lib.Dec.{eqb, ltb}
use borrow.Author.Tests.{ltb-true, ltb-false}
use Rattle.bits.specs.Bits.{bit_at}
use Rattle.bits.proofs.Bits.{bit_of_zero}
use Rattle.lists.proofs.Tests.{by}
use Rattle.coverage.specs.Coverage.{word_of, in_set}
use Rattle.records.specs.Numbers.{num, part, little, field, value_of}
use Rattle.records.specs.Codecs.{in_body}
use Rattle.records.specs.Wire.{lock_start}
use Rattle.records.proofs.Numbers.{Bytes, bytes_part}

-- a bit of the first byte
first_bit : (x y k : ℕ) → x < 256 → k < 8 → (x + y * 256) / 2 ^ k % 2 ≡ x / 2 ^ k % 2
first_bit x y zero h l = omega arith
first_bit x y (suc zero) h l = omega arith
first_bit x y (suc (suc zero)) h l = omega arith
first_bit x y (suc (suc (suc zero))) h l = omega arith
first_bit x y (suc (suc (suc (suc zero)))) h l = omega arith
first_bit x y (suc (suc (suc (suc (suc zero))))) h l = omega arith
first_bit x y (suc (suc (suc (suc (suc (suc zero)))))) h l = omega arith
first_bit x y (suc (suc (suc (suc (suc (suc (suc zero))))))) h l = omega arith
first_bit x y (suc (suc (suc (suc (suc (suc (suc (suc k)))))))) h l = absurd (omega arith)

-- a bit of the others
later_bit : (x y j : ℕ) → x < 256 → (x + y * 256) / 2 ^ (8 + j) ≡ y / 2 ^ j
later_bit x y j h =
    ap (λ (n : ℕ). (x + y * 256) / n) (pow-add 2 8 j) ∙ sym (div-div-eq-div-mul (x + y * 256) 256 (2 ^ j))
    ∙ ap (λ (n : ℕ). n / 2 ^ j) (let z : (x + y * 256) / 256 ≡ y = omega arith in z)

-- bit k of the number that bytes make, least first, is bit k mod 8 of byte k / 8
num_bit : (b : List ℕ) (k : ℕ) → Bytes b → bit_at (num b) k ≡ bit_at (get_or b (k / 8) 0) (k % 8)
unfolding num Bytes
num_bit [] k t = bit_of_zero k ∙ sym (bit_of_zero (k % 8))
num_bit (x ∷ xs) k t =
    by (ltb k 8) (bit_at (x + num xs * 256) k ≡ bit_at (get_or (x ∷ xs) (k / 8) 0) (k % 8))
    (λ l.
    let h : k < 8 = ltb-true k 8 l in
    let q : k / 8 ≡ 0 = omega arith in
    let r : k % 8 ≡ k = omega arith in
    ap (λ (n : ℕ). eqb n 1) (first_bit x (num xs) k t.0 h) ∙ ap₂ (λ (i j : ℕ). bit_at (get_or (x ∷ xs) i 0) j) (sym q) (sym r))
    (λ l.
    let h : 8 ≤ k = ltb-false k 8 l in
    let e : 8 + (k - 8) ≡ k = omega arith in
    let q : suc ((k - 8) / 8) ≡ k / 8 = omega arith in
    let r : (k - 8) % 8 ≡ k % 8 = omega arith in
    ap (λ (n : ℕ). bit_at (x + num xs * 256) n) (sym e)
    ∙ ap (λ (n : ℕ). eqb (n % 2) 1) (later_bit x (num xs) (k - 8) t.0)
    ∙ num_bit xs (k - 8) t.1
    ∙ ap₂ (λ (i j : ℕ). bit_at (get_or (x ∷ xs) i 0) j) q r)

-- the words of a lock start's set
word_at : (s : List ℕ) (w : ℕ) → w < 4 → word_of (lock_start.made (in_body lock_start s)).coverage w ≡ field (little 8) s (20 + w * 8)
unfolding word_of
word_at s zero h = refl
word_at s (suc zero) h = refl
word_at s (suc (suc zero)) h = refl
word_at s (suc (suc (suc zero))) h = refl
word_at s (suc (suc (suc (suc w)))) h = absurd (omega arith)

-- the set stands from byte 20 of the lock start on
pub set_bits : (s : List ℕ) (e : ℕ) → Bytes s → e < 256 → in_set (lock_start.made (in_body lock_start s)).coverage e ≡ bit_at (get_or s (20 + e / 8) 0) (e % 8)
unfolding in_set value_of
set_bits s e k h =
    let w : ℕ = e / 64 in
    let j : ℕ = e % 64 in
    let i : j / 8 < 8 = omega arith in
    let q : 20 + w * 8 + j / 8 ≡ 20 + e / 8 = omega arith in
    let r : j % 8 ≡ e % 8 = omega arith in
    ap (λ (n : ℕ). bit_at n j) (word_at s w (omega arith))
    ∙ num_bit (part s (20 + w * 8) 8) j (bytes_part s (20 + w * 8) 8 k)
    ∙ ap (λ (x : ℕ). bit_at x (j % 8)) (get_or-take 8 (drop (20 + w * 8) s) (j / 8) 0 i ∙ get_or-drop (20 + w * 8) s (j / 8) 0)
    ∙ ap₂ (λ (n m : ℕ). bit_at (get_or s n 0) m) q r
