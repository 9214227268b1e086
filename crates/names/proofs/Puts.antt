-- Bytes put into a table: what the code's stores come to, and which parts keep their bytes.
-- Assumes nothing.
use mathlib.Core.Path.{◌≡◌, refl, sym, ap, ◌∙◌, subst}
use mathlib.Core.Bool.{Bool}
use mathlib.Core.List.{List, [], ◌∷◌, ◌++◌, append_assoc}
use Prim.Native.Nat.{ℕ, suc, ◌+◌, ◌-◌, ◌≤◌, ◌<◌}
use native.Mathlib.Numerals.{add-one}
use native.Mathlib.Omega.{arith}
use lib.ListN.{length, get_or, set, take, drop, take-append-drop, length-append, length-drop}
use lib.Seq.{append_snoc, take-length, take-suc-set, take-append-le, drop-append-le, drop-set-lt, drop-drop, drop_at, paste, paste-suc, length-take-le}
use Rattle.lists.specs.Places.{splice}
use Rattle.names.specs.Bytes.{keep1, kept}
use Rattle.names.specs.Table.{longest, most, table_size, entry_start}
use Rattle.names.proofs.Bytes.{kept_length, kept_at}

-- ---- the code's stores
-- one byte more of the name
pub one_more : (d table name : List ℕ) (f : Bool) (at i r : ℕ) → at + i < length d → i < length name → table ≡ paste d at (kept f name) i → r ≡ keep1 f (get_or name i 0) → set table (at + i) r ≡ paste d at (kept f name) (i + 1)
one_more d table name f at i r h k e q =
    rw (e, q, ← (kept_at f name i), add-one i) (paste-suc d at (kept f name) i 0 h (omega (arith, kept_length f name)))

-- the length byte, and the name after it
put_entry : (t b : List ℕ) (a v : ℕ) → a < length t → paste (set t a v) (a + 1) b (length b) ≡ splice t a (v ∷ b)
unfolding splice
put_entry t b a v h =
    let e : a + 1 + length b ≡ a + suc (length b) = omega arith in
    rw (e, drop-set-lt (a + suc (length b)) t a v (omega arith), take-length b, add-one a, take-suc-set t a v h)
    (ap (λ (l : List ℕ). l ++ drop (a + suc (length b)) t) (append_snoc (take a t) v b))

-- the two bytes of the count
put_two : (t : List ℕ) (x y : ℕ) → 2 ≤ length t → set (set t 0 x) 1 y ≡ splice t 0 (x ∷ y ∷ [])
unfolding splice
put_two [] x y h = absurd (omega arith)
put_two (a ∷ []) x y h = absurd (omega arith)
put_two (a ∷ b ∷ t) x y h = refl

pub all_stored : (t table name : List ℕ) (f : Bool) (n i x y : ℕ) → length t ≡ table_size → n < most → length name ≤ longest → length table ≡ length t → i ≤ length name → length name ≤ i
    → table ≡ paste (set t (entry_start n) (length name)) (entry_start n + 1) (kept f name) i
    → set (set table 0 x) 1 y ≡ splice (splice t (entry_start n) (length name ∷ kept f name)) 0 (x ∷ y ∷ [])
all_stored t table name f n i x y l h k s p q e =
    let m : i ≡ length (kept f name) = omega (arith, kept_length f name) in
    put_two table x y (omega arith)
    ∙ ap (λ (u : List ℕ). splice u 0 (x ∷ y ∷ [])) (e ∙ ap (paste (set t (entry_start n) (length name)) (entry_start n + 1) (kept f name)) m ∙ put_entry t (kept f name) (entry_start n) (length name) (omega arith))

-- ---- which parts keep their bytes
module _ (t b : List ℕ) (s : ℕ) (h : s ≤ length t) where
  -- of a list that begins as t does up to s
  before_it : (r : List ℕ) (a k : ℕ) → a + k ≤ s → take k (drop a (take s t ++ r)) ≡ take k (drop a (take s t))
  before_it r a k g =
      let l : length (take s t) ≡ s = length-take-le s t h in
      let e : k ≤ length (drop a (take s t)) = simp length-drop (omega arith) in
      rw (drop-append-le a (take s t) r (omega arith), take-append-le k (drop a (take s t)) r e)

  -- a part that ends before the bytes put in
  pub part_before : (a k : ℕ) → a + k ≤ s → take k (drop a (splice t s b)) ≡ take k (drop a t)
  unfolding splice
  part_before a k g =
      rw (append_assoc (take s t) b (drop (s + length b) t))
      (before_it (b ++ drop (s + length b) t) a k g ∙ sym (ap (λ (l : List ℕ). take k (drop a l)) (sym (take-append-drop s t)) ∙ before_it (drop s t) a k g))

  -- the bytes put in, and what is after them
  pub drop_there : drop s (splice t s b) ≡ b ++ drop (s + length b) t
  unfolding splice
  drop_there = rw (append_assoc (take s t) b (drop (s + length b) t)) (drop_at (take s t) (b ++ drop (s + length b) t) s (length-take-le s t h))

  pub drop_after : (a : ℕ) → s + length b ≤ a → drop a (splice t s b) ≡ drop a t
  unfolding splice
  drop_after a g =
      let l : length (take s t ++ b) ≡ s + length b = length-append (take s t) b ∙ ap (λ (n : ℕ). n + length b) (length-take-le s t h) in
      let q : s + length b + (a - (s + length b)) ≡ a = omega arith in
      subst (λ (k : ℕ). drop k (take s t ++ b ++ drop (s + length b) t) ≡ drop k t) q
      (sym (drop-drop (a - (s + length b)) (s + length b) (take s t ++ b ++ drop (s + length b) t))
      ∙ ap (drop (a - (s + length b))) (drop_at (take s t ++ b) (drop (s + length b) t) (s + length b) l)
      ∙ drop-drop (a - (s + length b)) (s + length b) t)
