-- The laws of layouts, each once for every layout. Assumes nothing.
use mathlib.Core.Path.{◌≡◌, refl, sym, ap, ◌∙◌}
use mathlib.Core.List.{List, [], ◌∷◌, ◌++◌, append_assoc, append-nil}
use Prim.Native.Nat.{ℕ, zero, suc, ◌+◌, ◌≤◌}
use native.Mathlib.Nat.{add-zero, zero-add, add_assoc}
use native.Mathlib.Omega.{arith}
use lib.ListN.{length, take, drop, length-append, drop_of_length-le}
use lib.Seq.{take_at, drop_at, take-take, drop-drop}
use Rattle.records.specs.Numbers.{part, splice, Field, size, value_of, bytes_of, field}
use Rattle.records.specs.Layouts.{total, fields_at, pack, emit, Fit}
use Rattle.records.proofs.Numbers.{Bytes, bytes_part, length_part, part_add, splice_splice, length_splice, splice_part, length_bytes_of, value_bytes, bytes_value, value_lt}

pub length_pack : (fs : List Field) (vs : List ℕ) → length vs ≡ length fs → length (pack fs vs) ≡ total fs
unfolding pack
length_pack [] vs k = refl
length_pack (f ∷ fs) [] k = absurd (omega arith)
length_pack (f ∷ fs) (v ∷ vs) k =
    length-append (bytes_of f v) (pack fs vs)
    ∙ ap (λ (n : ℕ). n + length (pack fs vs)) (length_bytes_of f v)
    ∙ ap (λ (n : ℕ). size f + n) (length_pack fs vs (omega arith))

-- numbers to bytes to numbers
pub fields_in : (fs : List Field) (vs p q : List ℕ) (at : ℕ) → Fit fs vs → length p ≡ at → fields_at fs (p ++ (pack fs vs ++ q)) at ≡ vs
unfolding pack
fields_in [] [] p q at k e = refl
fields_in [] (v ∷ vs) p q at k e = absurd k
fields_in (f ∷ fs) [] p q at k e = absurd k
fields_in (f ∷ fs) (v ∷ vs) p q at k e =
    let b : List ℕ = bytes_of f v in
    let rest : List ℕ = pack fs vs ++ q in
    let here : p ++ ((b ++ pack fs vs) ++ q) ≡ p ++ (b ++ rest) = ap (λ (l : List ℕ). p ++ l) (append_assoc b (pack fs vs) q) in
    let there : p ++ ((b ++ pack fs vs) ++ q) ≡ (p ++ b) ++ rest = here ∙ sym (append_assoc p b rest) in
    let first : field f (p ++ ((b ++ pack fs vs) ++ q)) at ≡ v =
    ap (λ (l : List ℕ). field f l at) here
    ∙ ap (λ (l : List ℕ). value_of f (take (size f) l)) (drop_at p (b ++ rest) at e)
    ∙ ap (value_of f) (take_at b rest (size f) (length_bytes_of f v)) ∙ value_bytes f v k.0 in
    let lp : length (p ++ b) ≡ at + size f = length-append p b ∙ ap (λ (n : ℕ). n + length b) e ∙ ap (λ (n : ℕ). at + n) (length_bytes_of f v) in
    ap (λ (x : ℕ). x ∷ fields_at fs (p ++ ((b ++ pack fs vs) ++ q)) (at + size f)) first
    ∙ ap (λ (l : List ℕ). v ∷ l) (ap (λ (l : List ℕ). fields_at fs l (at + size f)) there ∙ fields_in fs vs (p ++ b) q (at + size f) k.1 lp)

-- of bytes that stand alone
pub fields_pack : (fs : List Field) (vs : List ℕ) → Fit fs vs → fields_at fs (pack fs vs) 0 ≡ vs
fields_pack fs vs k = ap (λ (l : List ℕ). fields_at fs l 0) (sym (append-nil (pack fs vs))) ∙ fields_in fs vs [] [] 0 k refl

-- bytes to numbers to bytes
pub pack_fields : (fs : List Field) (s : List ℕ) (at : ℕ) → Bytes s → at + total fs ≤ length s → pack fs (fields_at fs s at) ≡ part s at (total fs)
unfolding pack
pack_fields [] s at k h = refl
pack_fields (f ∷ fs) s at k h =
    ap (λ (l : List ℕ). l ++ pack fs (fields_at fs s (at + size f))) (bytes_value f (part s at (size f)) (bytes_part s at (size f) k) (length_part s at (size f) (omega arith)))
    ∙ ap (λ (l : List ℕ). part s at (size f) ++ l) (pack_fields fs s (at + size f) k (omega arith))
    ∙ sym (part_add s at (size f) (total fs))

pub fields_fit : (fs : List Field) (s : List ℕ) (at : ℕ) → Bytes s → at + total fs ≤ length s → Fit fs (fields_at fs s at)
fields_fit [] s at k h = tt
fields_fit (f ∷ fs) s at k h =
    (value_lt f (part s at (size f)) (bytes_part s at (size f) k) (length_part s at (size f) (omega arith)), fields_fit fs s (at + size f) k (omega arith))

-- stores one after the other are one splice
pub emit_pack : (fs : List Field) (vs d : List ℕ) (at : ℕ) → length vs ≡ length fs → at + total fs ≤ length d → emit fs vs d at ≡ splice d at (pack fs vs)
unfolding pack
emit_pack [] vs d at k h = sym (splice_part d at 0 h)
emit_pack (f ∷ fs) [] d at k h = absurd (omega arith)
emit_pack (f ∷ fs) (v ∷ vs) d at k h =
    let lb : length (bytes_of f v) ≡ size f = length_bytes_of f v in
    let lp : length (pack fs vs) ≡ total fs = length_pack fs vs (omega arith) in
    let ls : length (splice d at (bytes_of f v)) ≡ length d = length_splice d at (bytes_of f v) (omega arith) in
    emit_pack fs vs (splice d at (bytes_of f v)) (at + size f) (omega arith) (omega arith)
    ∙ splice_splice d at (size f) (bytes_of f v) (pack fs vs) lb (omega arith)

-- a part of a part
part_take : (at n k : ℕ) (l : List ℕ) → at + k ≤ n → take k (drop at (take n l)) ≡ take k (drop at l)
part_take zero n k l h = take-take k n l (omega arith)
part_take (suc at) zero k l h = absurd (omega arith)
part_take (suc at) (suc n) k [] h = refl
part_take (suc at) (suc n) k (x ∷ xs) h = part_take at n k xs (omega arith)

pub part_part : (s : List ℕ) (a n at k : ℕ) → at + k ≤ n → part (part s a n) at k ≡ part s (a + at) k
part_part s a n at k h = part_take at n k (drop a s) h ∙ ap (take k) (drop-drop at a s)

pub fields_part : (fs : List Field) (s : List ℕ) (a n at : ℕ) → at + total fs ≤ n → fields_at fs (part s a n) at ≡ fields_at fs s (a + at)
fields_part [] s a n at h = refl
fields_part (f ∷ fs) s a n at h =
    ap (λ (l : List ℕ). value_of f l ∷ fields_at fs (part s a n) (at + size f)) (part_part s a n at (size f) (omega arith))
    ∙ ap (λ (l : List ℕ). field f s (a + at) ∷ l)
    (fields_part fs s a n (at + size f) (omega arith) ∙ ap (fields_at fs s) (sym (add_assoc a at (size f))))

-- a splice within a part is a splice of the whole
pub splice_in_part : (s : List ℕ) (b k : ℕ) (x : List ℕ) → length x ≡ k → b + k ≤ length s
    → take b s ++ (splice (part s b k) 0 x ++ drop k (drop b s)) ≡ splice s b x
unfolding splice
splice_in_part s b k x e h =
    let lp : length (part s b k) ≡ k = length_part s b k h in
    ap (λ (n : ℕ). take b s ++ (([] ++ x ++ drop n (part s b k)) ++ drop k (drop b s))) (zero-add (length x) ∙ e)
    ∙ ap (λ (l : List ℕ). take b s ++ ((x ++ l) ++ drop k (drop b s))) (drop_of_length-le (part s b k) {i = k} (omega arith))
    ∙ ap (λ (l : List ℕ). take b s ++ (l ++ drop k (drop b s))) (append-nil x)
    ∙ ap (λ (l : List ℕ). take b s ++ (x ++ l)) (drop-drop k b s)
    ∙ sym (append_assoc (take b s) x (drop (b + k) s))
    ∙ ap (λ (n : ℕ). take b s ++ x ++ drop (b + n) s) (sym e)

-- no bytes
pub splice_none : (s : List ℕ) (at : ℕ) → at ≤ length s → s ≡ splice s at []
splice_none s at h = sym (splice_part s at 0 (omega arith))

-- of bytes that stand within others
pub part_in : (p x q : List ℕ) (at k : ℕ) → length p ≡ at → length x ≡ k → part (p ++ (x ++ q)) at k ≡ x
part_in p x q at k e f = ap (take k) (drop_at p (x ++ q) at e) ∙ take_at x q k f

-- two layouts, one after the other
pub fields_append : (fs gs : List Field) (s : List ℕ) (at : ℕ) → fields_at (fs ++ gs) s at ≡ fields_at fs s at ++ fields_at gs s (at + total fs)
fields_append [] gs s at = ap (fields_at gs s) (sym (add-zero at))
fields_append (f ∷ fs) gs s at =
    ap (λ (l : List ℕ). field f s at ∷ l)
    (fields_append fs gs s (at + size f) ∙ ap (λ (n : ℕ). fields_at fs s (at + size f) ++ fields_at gs s n) (add_assoc at (size f) (total fs)))

pub length_fields : (fs : List Field) (s : List ℕ) (at : ℕ) → length (fields_at fs s at) ≡ length fs
length_fields [] s at = refl
length_fields (f ∷ fs) s at = ap suc (length_fields fs s (at + size f))

pub fit_append : (fs gs : List Field) (vs ws : List ℕ) → Fit fs vs → Fit gs ws → Fit (fs ++ gs) (vs ++ ws)
fit_append [] gs [] ws k m = m
fit_append [] gs (v ∷ vs) ws k m = absurd k
fit_append (f ∷ fs) gs [] ws k m = absurd k
fit_append (f ∷ fs) gs (v ∷ vs) ws k m = (k.0, fit_append fs gs vs ws k.1 m)
