-- An id list's words as bytes and back: order and repeats are kept. Assumes nothing.
use mathlib.Core.Path.{◌≡◌, refl, sym, ap, ap₂, ◌∙◌, subst}
use mathlib.Core.List.Memᴰ
use mathlib.Core.List.{List, [], ◌∷◌, ◌++◌}
use Prim.Native.Nat.{ℕ, zero, suc, ◌+◌, ◌*◌, ◌/◌, ◌%◌, ◌^◌, ◌≤◌, ◌<◌, min}
use native.Mathlib.Nat.{min-eq_left}
use native.Mathlib.Omega.{arith}
use lib.ListN.{length, replicate}
use lib.Seq.{take_all}
use lib.Dec.{eqb}
use borrow.Author.Tests.{eq-eqb, eqb-true}
use Rattle.lists.specs.Tests.{No}
use Rattle.lists.specs.Lists.{Mem}
use Rattle.lists.proofs.Tests.{against, yes_non, non_t, by}
use Rattle.ids.specs.Words.{odd_words}
use Rattle.records.specs.Numbers.{Field, size, big, bytes_of, bytes_of_all}
use Rattle.records.specs.Layouts.{total, fields_at, pack, Fit}
use Rattle.records.specs.Feeds.{words_in}
use Rattle.records.specs.Sending.{ids_in, word_bytes}
use Rattle.records.specs.Ranges.{IdList}
use Rattle.records.proofs.Numbers.{Bytes, length_bytes_of}
use Rattle.records.proofs.Layouts.{pack_fields, fields_pack, fields_fit}
use Rattle.records.proofs.Feeds.{length_words}
use Rattle.records.proofs.Runs.{length_all}

total_same : (n : ℕ) (f : Field) → total (replicate n f) ≡ n * size f
total_same zero f = omega arith
total_same (suc n) f = omega (arith, total_same n f)

pack_same : (f : Field) (ws : List ℕ) → pack (replicate (length ws) f) ws ≡ bytes_of_all (bytes_of f) ws
unfolding pack bytes_of_all
pack_same f [] = refl
pack_same f (w ∷ ws) = ap (λ (l : List ℕ). bytes_of f w ++ l) (pack_same f ws)

fit_each : (f : Field) (ws : List ℕ) → ((w : ℕ) → Mem w ws → w < 256 ^ size f) → Fit (replicate (length ws) f) ws
fit_each f [] h = tt
fit_each f (w ∷ ws) h = (h w (Memᴰ.head refl), fit_each f ws (λ x m. h x (Memᴰ.tail m)))

each_fit : (f : Field) (n : ℕ) (ws : List ℕ) → Fit (replicate n f) ws → (w : ℕ) → Mem w ws → w < 256 ^ size f
each_fit f (suc n) [] k w m = elim k [ ]
each_fit f zero [] k w m = elim m [ ]
each_fit f zero (x ∷ ws) k w m = absurd k
each_fit f (suc n) (x ∷ ws) k w (Memᴰ.head e) = subst (λ (y : ℕ). y < 256 ^ size f) (sym e) k.0
each_fit f (suc n) (x ∷ ws) k w (Memᴰ.tail m) = each_fit f n ws k.1 w m

pub length_word_bytes : (ws : List ℕ) → length (word_bytes ws) ≡ length ws * 8
length_word_bytes ws = length_all (bytes_of (big 8)) 8 (length_bytes_of (big 8)) ws

-- an even number of words, two an id
pub even_words : (ws : List ℕ) → No (odd_words ws) → length ws ≡ ids_in ws * 2
unfolding odd_words
even_words ws h = by (eqb (length ws % 2) 0) (length ws ≡ ids_in ws * 2)
    (λ t. let z = eqb-true (length ws % 2) 0 t in omega arith)
    (λ t. absurd (against h (yes_non _ t)))

words_are : (n : ℕ) (s : List ℕ) → length s ≡ n * 8 → n ≤ 128 → words_in s ≡ fields_at (replicate n (big 8)) s 0
unfolding words_in
words_are n s e h =
    let m : length s / 8 ≡ n = omega arith in
    ap (λ (k : ℕ). fields_at (replicate k (big 8)) s 0) (ap (λ (k : ℕ). min k 128) m ∙ min-eq_left h)

-- words to bytes to words
pub words_there : (ws : List ℕ) → IdList ws → words_in (word_bytes ws) ≡ ws
words_there ws k =
    let e = even_words ws k.even in
    words_are (length ws) (word_bytes ws) (length_word_bytes ws) (omega (arith, e, k.few))
    ∙ ap (λ (s : List ℕ). fields_at (replicate (length ws) (big 8)) s 0) (sym (pack_same (big 8) ws))
    ∙ fields_pack (replicate (length ws) (big 8)) ws (fit_each (big 8) ws k.words)

-- bytes to words to bytes
pub record WordsOf (n : ℕ) (s : List ℕ) : Type 0 where
  pub list : IdList (words_in s)
  pub ids : ids_in (words_in s) ≡ n
  pub bytes : word_bytes (words_in s) ≡ s

pub words_back : (n : ℕ) (s : List ℕ) → Bytes s → length s ≡ n * 16 → n ≤ 64 → WordsOf n s
unfolding odd_words
words_back n s y e h =
    let fs = replicate (n * 2) (big 8) in
    let v = words_are (n * 2) s (omega arith) (omega arith) in
    let l : length (words_in s) ≡ n * 2 = ap length v ∙ length_words (n * 2) (big 8) s 0 in
    let room : 0 + total fs ≤ length s = omega (arith, total_same (n * 2) (big 8)) in
    record {
      list = record {
        even = non_t _ (eq-eqb _ _ (let z : length (words_in s) % 2 ≡ 0 = omega arith in z));
        few = omega arith;
        words = subst (λ (ws : List ℕ). (w : ℕ) → Mem w ws → w < 2 ^ 64) (sym v) (each_fit (big 8) (n * 2) (fields_at fs s 0) (fields_fit fs s 0 y room));
      };
      ids = omega arith;
      bytes =
          sym (pack_same (big 8) (words_in s))
          ∙ ap₂ (λ (k : ℕ) (ws : List ℕ). pack (replicate k (big 8)) ws) l v
          ∙ pack_fields fs s 0 y room ∙ take_all (total fs) s (omega (arith, total_same (n * 2) (big 8)));
    }
