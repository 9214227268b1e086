-- The laws of numbers as bytes, each once over the width. Assumes nothing.
use mathlib.Core.Path.{◌≡◌, refl, sym, ap, ap₂, ◌∙◌, subst}
use mathlib.Core.List.{List, [], ◌∷◌, ◌++◌, append_assoc, reverse, reverse_aux, reverse-reverse, reverse-append}
use Prim.Native.Nat.{ℕ, zero, suc, ◌+◌, ◌*◌, ◌^◌, ◌/◌, ◌%◌, ◌-◌, ◌≤◌, ◌<◌}
use native.Mathlib.Nat.{add-zero, mod-eq_of_lt, zero-add, suc-add, add_comm, mul_assoc, pow-suc, pow-succ', div-one, div-div-eq-div-mul}
use native.Mathlib.Numerals.{add-one}
use native.Mathlib.Omega.{arith}
use lib.Arith.{mod-mul}
use lib.Dec.{lit<}
use lib.ListN.{length, set, get_or, take, drop, length-append, length-take, length-drop, length-reverse, take-append-drop}
use lib.Seq.{set_split, append_snoc, take_all, take-add, drop-drop, take_at, drop-cons, drop-append-add}
pub use Rattle.lists.proofs.Places.{length_splice}
use Rattle.std.specs.Int.{byte_at, byte_worth, bytes_low_first, bytes_high_first, sum_through}
use Rattle.records.specs.Numbers.{num, digits, part, splice, Field, little, big, size, value_of, bytes_of, field}

-- every element is a byte
unfoldable pub Bytes : List ℕ → Type 0
Bytes [] = Unit {0}
Bytes (x ∷ xs) = (x < 256) × Bytes xs

pub bytes_of_lem : (s : List ℕ) → ((i : ℕ) → get_or s i 0 < 256) → Bytes s
unfolding Bytes
bytes_of_lem [] f = tt
bytes_of_lem (x ∷ xs) f = (f 0, bytes_of_lem xs (λ i. f (suc i)))

pub bytes_drop : (n : ℕ) (s : List ℕ) → Bytes s → Bytes (drop n s)
unfolding Bytes
bytes_drop zero s k = k
bytes_drop (suc n) [] k = tt
bytes_drop (suc n) (x ∷ xs) k = bytes_drop n xs k.1

pub bytes_take : (n : ℕ) (s : List ℕ) → Bytes s → Bytes (take n s)
unfolding Bytes
bytes_take zero s k = tt
bytes_take (suc n) [] k = tt
bytes_take (suc n) (x ∷ xs) k = (k.0, bytes_take n xs k.1)

bytes_reverse_aux : (s t : List ℕ) → Bytes s → Bytes t → Bytes (reverse_aux s t)
unfolding Bytes
bytes_reverse_aux [] t k m = m
bytes_reverse_aux (x ∷ xs) t k m = bytes_reverse_aux xs (x ∷ t) k.1 (k.0, m)

pub bytes_reverse : (s : List ℕ) → Bytes s → Bytes (reverse s)
unfolding Bytes
bytes_reverse s k = bytes_reverse_aux s [] k tt

pub bytes_part : (s : List ℕ) (at n : ℕ) → Bytes s → Bytes (part s at n)
bytes_part s at n k = bytes_take n (drop at s) (bytes_drop at s k)

-- lists
pub part_add : (s : List ℕ) (at m n : ℕ) → part s at (m + n) ≡ part s at m ++ part s (at + m) n
part_add s at m n = take-add m n (drop at s) ∙ ap (λ (l : List ℕ). take m (drop at s) ++ take n l) (drop-drop m at s)

pub length_part : (s : List ℕ) (at n : ℕ) → at + n ≤ length s → length (part s at n) ≡ n
length_part s at n h = simp (length-take, length-drop) (omega arith)

pub part_one : (s : List ℕ) (at : ℕ) → at < length s → part s at 1 ≡ get_or s at 0 ∷ []
part_one s at h = ap (take 1) (drop-cons s at 0 h)

drop_past : (p q : List ℕ) (n m : ℕ) → length p ≡ n → drop (n + m) (p ++ q) ≡ drop m q
drop_past p q n m e = subst (λ (k : ℕ). drop (k + m) (p ++ q) ≡ drop m q) e (drop-append-add p q m)

pub splice_splice : (s : List ℕ) (at k : ℕ) (a b : List ℕ) → length a ≡ k → at + k + length b ≤ length s
    → splice (splice s at a) (at + k) b ≡ splice s at (a ++ b)
unfolding splice
splice_splice s at k a b e h =
    let lp : length (take at s ++ a) ≡ at + k = simp (length-append, length-take) (omega arith) in
    let es : at + length a + length b ≡ at + length (a ++ b) = simp length-append (omega arith) in
    ap (λ (l : List ℕ). l ++ b ++ drop (at + k + length b) (take at s ++ a ++ drop (at + length a) s)) (take_at (take at s ++ a) (drop (at + length a) s) (at + k) lp)
    ∙ ap (λ (l : List ℕ). take at s ++ a ++ b ++ l)
    (drop_past (take at s ++ a) (drop (at + length a) s) (at + k) (length b) lp ∙ drop-drop (length b) (at + length a) s ∙ ap (λ (n : ℕ). drop n s) es)
    ∙ ap (λ (l : List ℕ). l ++ drop (at + length (a ++ b)) s) (append_assoc (take at s) a b)

pub splice_part : (s : List ℕ) (at k : ℕ) → at + k ≤ length s → splice s at (part s at k) ≡ s
unfolding splice
splice_part s at k h =
    ap (λ (n : ℕ). take at s ++ part s at k ++ drop (at + n) s) (length_part s at k h)
    ∙ append_assoc (take at s) (part s at k) (drop (at + k) s)
    ∙ ap (λ (l : List ℕ). take at s ++ (part s at k ++ l)) (sym (drop-drop k at s))
    ∙ ap (λ (l : List ℕ). take at s ++ l) (take-append-drop k (drop at s))
    ∙ take-append-drop at s

-- what is stored over the part at `at`
pub splice_over : (s : List ℕ) (at : ℕ) (b : List ℕ) → take at s ++ (b ++ drop (at + length b - at) (drop at s)) ≡ splice s at b
unfolding splice
splice_over s at b =
    sym (append_assoc (take at s) b (drop (at + length b - at) (drop at s)))
    ∙ ap (λ (l : List ℕ). take at s ++ b ++ l) (drop-drop (at + length b - at) at s ∙ ap (λ (n : ℕ). drop n s) (omega arith))

-- numbers
num_append' : (a b : List ℕ) → num (a ++ b) ≡ num a + num b * 256 ^ length a
unfolding num
num_append' [] b = omega arith
num_append' (x ∷ xs) b = omega (arith, num_append' xs b, ap (λ (k : ℕ). num b * k) (pow-suc 256 (length xs)), mul_assoc (num b) (256 ^ length xs) 256)

pub num_append : (a b : List ℕ) (m : ℕ) → length a ≡ m → num (a ++ b) ≡ num a + num b * 256 ^ m
num_append a b m e = num_append' a b ∙ ap (λ (k : ℕ). num a + num b * 256 ^ k) e

pub length_digits : (n v : ℕ) → length (digits n v) ≡ n
unfolding digits
length_digits zero v = refl
length_digits (suc n) v = ap suc (length_digits n (v / 256))

pub digits_add : (m n v : ℕ) → digits (m + n) v ≡ digits m v ++ digits n (v / 256 ^ m)
unfolding digits
digits_add zero n v = ap (λ (k : ℕ). digits k v) (zero-add n) ∙ ap (digits n) (sym (div-one v))
digits_add (suc m) n v =
    ap (λ (k : ℕ). digits k v) (suc-add m n)
    ∙ ap (λ (l : List ℕ). v % 256 ∷ l)
    (digits_add m n (v / 256) ∙ ap (λ (k : ℕ). digits m (v / 256) ++ digits n k) (div-div-eq-div-mul v 256 (256 ^ m) ∙ ap (λ (k : ℕ). v / k) (sym (pow-succ' 256 m))))

bytes_digits : (n v : ℕ) → Bytes (digits n v)
unfolding digits Bytes
bytes_digits zero v = tt
bytes_digits (suc n) v = (omega arith, bytes_digits n (v / 256))

pow_pos : (n : ℕ) → 0 < 256 ^ n
pow_pos zero = lit< tt
pow_pos (suc n) = omega (arith, pow_pos n, pow-suc 256 n)

pub digits_mod : (n v : ℕ) → digits n (v % 256 ^ n) ≡ digits n v
unfolding digits
digits_mod zero v = refl
digits_mod (suc n) v =
    let e : v % 256 ^ suc n ≡ (v / 256 % 256 ^ n) * 256 + v % 256 = ap (λ (k : ℕ). v % k) (pow-suc 256 n) ∙ mod-mul v (pow_pos n) (lit< tt) in
    let r : v % 256 ^ suc n % 256 ≡ v % 256 = omega (arith, e) in
    let q : v % 256 ^ suc n / 256 ≡ v / 256 % 256 ^ n = omega (arith, e) in
    ap (λ (x : ℕ). x ∷ digits n (v % 256 ^ suc n / 256)) r
    ∙ ap (λ (l : List ℕ). v % 256 ∷ l) (ap (digits n) q ∙ digits_mod n (v / 256))

pub num_digits : (n v : ℕ) → v < 256 ^ n → num (digits n v) ≡ v
unfolding num digits
num_digits zero v h = omega arith
num_digits (suc n) v h =
    let h' : v / 256 < 256 ^ n = omega (arith, pow-suc 256 n) in
    omega (arith, num_digits n (v / 256) h')

digits_num' : (b : List ℕ) → Bytes b → digits (length b) (num b) ≡ b
unfolding num digits Bytes
digits_num' [] k = refl
digits_num' (x ∷ xs) k =
    let r : (x + num xs * 256) % 256 ≡ x = omega (arith, k.0) in
    let q : (x + num xs * 256) / 256 ≡ num xs = omega (arith, k.0) in
    ap (λ (y : ℕ). y ∷ digits (length xs) ((x + num xs * 256) / 256)) r
    ∙ ap (λ (l : List ℕ). x ∷ l) (ap (digits (length xs)) q ∙ digits_num' xs k.1)

pub digits_num : (n : ℕ) (b : List ℕ) → Bytes b → length b ≡ n → digits n (num b) ≡ b
digits_num n b k e = ap (λ (m : ℕ). digits m (num b)) (sym e) ∙ digits_num' b k

num_lt' : (b : List ℕ) → Bytes b → num b < 256 ^ length b
unfolding num Bytes
num_lt' [] k = lit< tt
num_lt' (x ∷ xs) k = omega (arith, k.0, num_lt' xs k.1, pow-suc 256 (length xs))

pub num_lt : (n : ℕ) (b : List ℕ) → Bytes b → length b ≡ n → num b < 256 ^ n
num_lt n b k e = subst (λ (m : ℕ). num b < 256 ^ m) e (num_lt' b k)

-- fields
pub length_bytes_of : (f : Field) (v : ℕ) → length (bytes_of f v) ≡ size f
unfolding bytes_of
length_bytes_of (little n) v = length_digits n v
length_bytes_of (big n) v = length-reverse (digits n v) ∙ length_digits n v

-- number to bytes to number
pub value_bytes : (f : Field) (v : ℕ) → v < 256 ^ size f → value_of f (bytes_of f v) ≡ v
unfolding bytes_of value_of
value_bytes (little n) v h = num_digits n v h
value_bytes (big n) v h = ap num (reverse-reverse (digits n v)) ∙ num_digits n v h

-- bytes to number to bytes
pub bytes_value : (f : Field) (b : List ℕ) → Bytes b → length b ≡ size f → bytes_of f (value_of f b) ≡ b
unfolding bytes_of value_of
bytes_value (little n) b k e = digits_num n b k e
bytes_value (big n) b k e = ap reverse (digits_num n (reverse b) (bytes_reverse b k) (length-reverse b ∙ e)) ∙ reverse-reverse b

pub value_lt : (f : Field) (b : List ℕ) → Bytes b → length b ≡ size f → value_of f b < 256 ^ size f
unfolding value_of
value_lt (little n) b k e = num_lt n b k e
value_lt (big n) b k e = num_lt n (reverse b) (bytes_reverse b k) (length-reverse b ∙ e)

-- ---- std's words for bytes: `from_le_bytes` and its fellows, of any width
-- the bytes before the n-th, and one more
take_more : (n : ℕ) (b : List ℕ) → n < length b → take (suc n) b ≡ take n b ++ (get_or b n 0 ∷ [])
take_more n b h = ap (λ (k : ℕ). take k b) (sym (add-one n)) ∙ take-add n 1 b ∙ ap (λ (l : List ℕ). take n b ++ take 1 l) (drop-cons b n 0 h)

worth : (i x : ℕ) → byte_worth i x ≡ x * 256 ^ i
worth zero x = omega arith
worth (suc i) x = refl

low_sum : (b : List ℕ) (n : ℕ) → n < length b → sum_through (λ i. byte_worth i (get_or b i 0)) n ≡ num (take (suc n) b)
unfolding num
low_sum b zero h = sym (ap (λ (l : List ℕ). num (take 1 l)) (drop-cons b 0 0 h) ∙ add-zero (get_or b 0 0))
low_sum b (suc n) h =
    let h' : suc n ≤ length b = omega arith in
    omega (
      arith,
      low_sum b n (omega arith),
      ap num (take_more (suc n) b h),
      num_append (take (suc n) b) (get_or b (suc n) 0 ∷ []) (suc n) (length-take (suc n) b ∙ omega arith),
    )

pub low_num : (b : List ℕ) (n : ℕ) → length b ≡ suc n → sum_through (λ i. byte_worth i (get_or b i 0)) n ≡ num b
low_num b n e = low_sum b n (omega arith) ∙ ap num (take_all (suc n) b (omega arith))

sum_first : (f : ℕ → ℕ) (n : ℕ) → sum_through f (suc n) ≡ f 0 + sum_through (λ i. f (suc i)) n
sum_first f zero = refl
sum_first f (suc n) = omega (arith, sum_first f n)

byte_lem : (i v : ℕ) → byte_at i v ≡ v / 256 ^ i % 256
byte_lem zero v = ap (λ (k : ℕ). k % 256) (sym (div-one v))
byte_lem (suc i) v = refl

num_last : (x : ℕ) (xs : List ℕ) → num (reverse (x ∷ xs)) ≡ num (reverse xs) + x * 256 ^ length xs
unfolding num
num_last x xs = ap num (reverse-append (x ∷ []) xs) ∙ num_append (reverse xs) (x ∷ []) (length xs) (length-reverse xs) ∙ omega arith

pub high_num : (b : List ℕ) (n : ℕ) → length b ≡ suc n → sum_through (λ i. byte_worth (n - i) (get_or b i 0)) n ≡ num (reverse b)
unfolding num
high_num [] n e = absurd (omega (arith, e))
high_num (x ∷ []) zero e = omega arith
high_num (x ∷ y ∷ xs) zero e = absurd (omega (arith, e))
high_num (x ∷ []) (suc n) e = absurd (omega (arith, e))
high_num (x ∷ y ∷ xs) (suc n) e =
    let l : length (y ∷ xs) ≡ suc n = omega (arith, e) in
    let rest : (i : ℕ) → suc n - suc i ≡ n - i = λ i. omega arith in
    let top : byte_worth (suc n - 0) x ≡ x * 256 ^ length (y ∷ xs) = ap (λ (k : ℕ). byte_worth k x) (let z : suc n - 0 ≡ suc n = omega arith in z) ∙ ap (λ (k : ℕ). x * 256 ^ k) (sym l) in
    sum_first (λ i. byte_worth (suc n - i) (get_or (x ∷ y ∷ xs) i 0)) n
    ∙ ap₂ ◌+◌ top ((λ j. sum_through (λ i. byte_worth (rest i j) (get_or (y ∷ xs) i 0)) n) ∙ high_num (y ∷ xs) n l)
    ∙ add_comm _ _ ∙ sym (num_last x (y ∷ xs))

low_digits : (i k v : ℕ) → bytes_low_first i k v ≡ digits k (v / 256 ^ i)
unfolding digits
low_digits i zero v = refl
low_digits i (suc k) v =
    ap₂ (λ (x : ℕ) (l : List ℕ). x ∷ l) (byte_lem i v)
    (low_digits (suc i) k v ∙ ap (digits k) (ap (λ (m : ℕ). v / m) (pow-suc 256 i) ∙ sym (div-div-eq-div-mul v (256 ^ i) 256)))

pub low_bytes : (k v : ℕ) → bytes_low_first 0 k v ≡ digits k v
low_bytes k v = low_digits 0 k v ∙ ap (digits k) (div-one v)

pub high_bytes : (k v : ℕ) → bytes_high_first k v ≡ reverse (digits k v)
unfolding digits
high_bytes zero v = refl
high_bytes (suc k) v =
    ap₂ (λ (x : ℕ) (l : List ℕ). x ∷ l) (byte_lem k v) (high_bytes k v)
    ∙ sym (ap reverse (ap (λ (m : ℕ). digits m v) (sym (add-one k)) ∙ digits_add k 1 v) ∙ reverse-append (digits k v) (digits 1 (v / 256 ^ k)))

-- so what is read or stored by them is a field
module _ (n : ℕ) (s : List ℕ) (at : ℕ) (b : List ℕ) (e : b ≡ part s at (suc n)) (h : at + suc n ≤ length s) where
  pub low_read : sum_through (λ i. byte_worth i (get_or b i 0)) n ≡ field (little (suc n)) s at
  unfolding value_of
  low_read = low_num b n (ap length e ∙ length_part s at (suc n) h) ∙ ap num e

  pub high_read : sum_through (λ i. byte_worth (n - i) (get_or b i 0)) n ≡ field (big (suc n)) s at
  unfolding value_of
  high_read = high_num b n (ap length e ∙ length_part s at (suc n) h) ∙ ap (λ (l : List ℕ). num (reverse l)) e

pub one_at : (s : List ℕ) (at : ℕ) → at < length s → get_or s at 0 ≡ field (little 1) s at
unfolding value_of num
one_at s at h = sym (ap num (part_one s at h) ∙ add-zero (get_or s at 0))

pub put_one : (s : List ℕ) (at v : ℕ) → at < length s → v < 256 → set s at v ≡ splice s at (bytes_of (little 1) v)
unfolding splice bytes_of digits
put_one s at v h k =
    set_split s at v h ∙ sym (append_snoc (take at s) v (drop (suc at) s))
    ∙ ap (λ (x : ℕ). take at s ++ (x ∷ []) ++ drop (suc at) s) (sym (mod-eq_of_lt k))
    ∙ ap (λ (n : ℕ). take at s ++ (v % 256 ∷ []) ++ drop n s) (sym (add-one at))
