-- The laws of codecs, each once for every kind of record: both round trips, what a decoder's code shows, two bodies joined.
-- Assumes nothing.
use mathlib.Core.Path.{◌≡◌, refl, sym, ap, ap₂, ◌∙◌, subst}
use mathlib.Core.Bool.{Bool, cond}
use mathlib.Core.List.{List, [], ◌++◌}
use Prim.Native.Nat.{ℕ, ◌+◌, ◌*◌, ◌≤◌}
use native.Mathlib.Omega.{arith}
use lib.ListN.{length, take, drop, length-append, take-append-drop}
use lib.Seq.{take_all, take_at, drop_at}
use lib.Dec.{eqb}
use borrow.Author.Tests.{eq-eqb, ne_eqb, eqb-true}
use Rattle.lists.specs.Tests.{◌and◌, Yes, No}
use Rattle.lists.proofs.Tests.{and_i, and_l, and_r, and_t, and_f, and_comm, by, cond_true, cond_false}
use Rattle.records.specs.Layouts.{total, fields_at, pack, Fit}
use Rattle.records.specs.Codecs.{Codec, in_body, decode_by, encode_by, joined, counted_in, decode_counted_in}
use Rattle.records.proofs.Numbers.{Bytes}
use Rattle.records.proofs.Layouts.{length_pack, fields_in, fields_pack, pack_fields, fields_fit, fields_append, length_fields}

-- two tests that were passed: of a number, and of the numbers
pub passed : {A : Type 0} (m n : ℕ) (y : Bool) (g b a : A) → (b ≡ a → ⊥) → cond (eqb m n and y) g b ≡ a → (m ≡ n) × Yes y × (g ≡ a)
passed m n y g b a h e =
    by (eqb m n and y) ((m ≡ n) × Yes y × (g ≡ a))
    (λ t. (eqb-true _ _ (and_l _ y t), and_r _ y t, sym (cond_true (eqb m n and y) g b t) ∙ e))
    (λ t. absurd (h (sym (cond_false (eqb m n and y) g b t) ∙ e)))

-- what a kind shows of its codec
pub record Lawful {R : Type 0} (c : Codec R) : Type 0 where
  pub count : (r : R) → length (c.numbers r) ≡ length c.layout
  pub back : (s : List ℕ) (at : ℕ) → Yes (c.right (fields_at c.layout s at)) → c.numbers (c.made (fields_at c.layout s at)) ≡ fields_at c.layout s at

-- every record is made again of its numbers
abbrev pub Faithful : {R : Type 0} → Codec R → Type 0
Faithful {R} c = (r : R) → c.made (c.numbers r) ≡ r

module _ {R A : Type 0} (c : Codec R) (good : R → A) (bad : A) where
  -- what a decoder's code shows at each of its answers
  pub is_short : (s : List ℕ) → (length s ≡ total c.layout → ⊥) → bad ≡ decode_by c good bad s
  is_short s h = sym (cond_false _ _ _ (and_f _ (c.right (in_body c s)) (ne_eqb _ _ h)))

  pub is_good : (s : List ℕ) (r : R) → length s ≡ total c.layout → Yes (c.right (in_body c s)) → r ≡ c.made (in_body c s) → good r ≡ decode_by c good bad s
  is_good s r h t e = ap good e ∙ sym (cond_true _ _ _ (and_i _ _ (eq-eqb _ _ h) t))

  pub is_wrong : (s : List ℕ) → length s ≡ total c.layout → No (c.right (in_body c s)) → bad ≡ decode_by c good bad s
  is_wrong s h t = sym (cond_false _ _ _ (and_t _ (c.right (in_body c s)) (eq-eqb _ _ h) ∙ t))

-- a record whose numbers fit their fields, are right, and make it again
pub record Well {R : Type 0} (c : Codec R) (r : R) : Type 0 where
  pub fit : Fit c.layout (c.numbers r)
  pub right : Yes (c.right (c.numbers r))
  pub same : c.made (c.numbers r) ≡ r

-- so is the record of right numbers that stand in bytes, and these are its numbers
pub well_read : {R : Type 0} (c : Codec R) → Lawful c → (s : List ℕ) (r : R) → Bytes s → total c.layout ≤ length s → Yes (c.right (in_body c s)) → c.made (in_body c s) ≡ r
    → (c.numbers r ≡ in_body c s) × Well c r
well_read c w s r k h t q =
    let v : c.numbers r ≡ in_body c s = ap c.numbers (sym q) ∙ w.back s 0 t in
    (v, record { fit = subst (Fit c.layout) (sym v) (fields_fit c.layout s 0 k (omega (arith, h))); right = ap c.right v ∙ t; same = ap c.made v ∙ q })

-- answers that tell records apart, and a record from a refusal
pub record Apart {R A : Type 0} (good : R → A) (bad : A) : Type 0 where
  pub one : (x y : R) → good x ≡ good y → x ≡ y
  pub never : (x : R) → bad ≡ good x → ⊥

-- Both round trips: what is encoded decodes to itself; what was decoded encodes to the bytes it was read from, and is well.
pub record RoundTrips {R A : Type 0} (c : Codec R) (good : R → A) (bad : A) : Type 0 where
  pub there : (r : R) → Well c r → decode_by c good bad (encode_by c r) ≡ good r
  pub back : (s : List ℕ) (r : R) → Bytes s → decode_by c good bad s ≡ good r → (encode_by c r ≡ s) × Well c r

pub round_trips : {R A : Type 0} (c : Codec R) (good : R → A) (bad : A) → Lawful c → Apart good bad → RoundTrips c good bad
round_trips {R} {A} c good bad w p = record { there = there; back = back }
  where
    there : (r : R) → Well c r → decode_by c good bad (encode_by c r) ≡ good r
    there r k =
        let e : in_body c (encode_by c r) ≡ c.numbers r = fields_pack c.layout (c.numbers r) k.fit in
        sym (is_good c good bad (encode_by c r) r (length_pack c.layout (c.numbers r) (w.count r)) (ap c.right e ∙ k.right) (sym (ap c.made e ∙ k.same)))

    back : (s : List ℕ) (r : R) → Bytes s → decode_by c good bad s ≡ good r → (encode_by c r ≡ s) × Well c r
    back s r k e =
        let a = passed _ _ _ _ bad (good r) (p.never r) e in
        let n : length s ≡ total c.layout = a.0 in
        let v = well_read c w s r k (omega (arith, n)) a.1 (p.one _ r a.2) in
        (ap (pack c.layout) v.0 ∙ pack_fields c.layout s 0 k (omega arith) ∙ take_all (total c.layout) s (omega arith), v.1)

-- ---- two bodies, one after the other
module _ {A B R : Type 0} (a : Codec A) (b : Codec B) (make : A → B → R) (first : R → A) (second : R → B) where
  -- the numbers of each
  pub take_first : (s : List ℕ) (at : ℕ) → take (length a.layout) (fields_at (a.layout ++ b.layout) s at) ≡ fields_at a.layout s at
  take_first s at =
      ap (take (length a.layout)) (fields_append a.layout b.layout s at)
      ∙ take_at (fields_at a.layout s at) (fields_at b.layout s (at + total a.layout)) (length a.layout) (length_fields a.layout s at)

  pub drop_first : (s : List ℕ) (at : ℕ) → drop (length a.layout) (fields_at (a.layout ++ b.layout) s at) ≡ fields_at b.layout s (at + total a.layout)
  drop_first s at =
      ap (drop (length a.layout)) (fields_append a.layout b.layout s at)
      ∙ drop_at (fields_at a.layout s at) (fields_at b.layout s (at + total a.layout)) (length a.layout) (length_fields a.layout s at)

  pub faithful : ((r : R) → make (first r) (second r) ≡ r) → Lawful a → Faithful a → Faithful b → Faithful (joined a b make first second)
  faithful whole w f g r =
      ap₂ (λ (x y : List ℕ). make (a.made x) (b.made y))
      (take_at (a.numbers (first r)) (b.numbers (second r)) (length a.layout) (w.count (first r)))
      (drop_at (a.numbers (first r)) (b.numbers (second r)) (length a.layout) (w.count (first r)))
      ∙ ap₂ make (f (first r)) (g (second r)) ∙ whole r

  module _ (left : (x : A) (y : B) → first (make x y) ≡ x) (after : (x : A) (y : B) → second (make x y) ≡ y) where
    pub lawful : Lawful a → Lawful b → Lawful (joined a b make first second)
    lawful w v =
        record {
          count = λ r. length-append (a.numbers (first r)) (b.numbers (second r)) ∙ ap₂ ◌+◌ (w.count (first r)) (v.count (second r)) ∙ sym (length-append a.layout b.layout);
          back = λ s at t.
              let na : List ℕ = take (length a.layout) (fields_at (a.layout ++ b.layout) s at) in
              let nb : List ℕ = drop (length a.layout) (fields_at (a.layout ++ b.layout) s at) in
              let ea : na ≡ fields_at a.layout s at = take_first s at in
              let eb : nb ≡ fields_at b.layout s (at + total a.layout) = drop_first s at in
              let ta : Yes (a.right (fields_at a.layout s at)) = ap a.right (sym ea) ∙ and_l (a.right na) (b.right nb) t in
              let tb : Yes (b.right (fields_at b.layout s (at + total a.layout))) = ap b.right (sym eb) ∙ and_r (a.right na) (b.right nb) t in
              ap₂ (λ (x : A) (y : B). a.numbers x ++ b.numbers y) (left (a.made na) (b.made nb)) (after (a.made na) (b.made nb))
              ∙ ap₂ (λ (x y : List ℕ). a.numbers (a.made x) ++ b.numbers (b.made y)) ea eb
              ∙ ap₂ (λ (x y : List ℕ). x ++ y) (w.back s at ta) (v.back s (at + total a.layout) tb)
              ∙ sym (fields_append a.layout b.layout s at);
        }

-- ---- a body that ends in a count, with `unit` bytes for each part counted after it
module _ {R A : Type 0} (width unit : ℕ) (c : Codec R) (good : R → A) (bad : A) (s : List ℕ) where
  pub is_miscounted : (length s ≡ total (counted_in width c).layout + ((counted_in width c).made (in_body (counted_in width c) s)).1 * unit → ⊥) → bad ≡ decode_counted_in width unit c good bad s
  is_miscounted h = sym (cond_false _ _ _ (and_f _ ((counted_in width c).right (in_body (counted_in width c) s)) (ne_eqb _ _ h)))

  pub is_counted : (r : R) → length s ≡ total (counted_in width c).layout + ((counted_in width c).made (in_body (counted_in width c) s)).1 * unit
      → Yes ((counted_in width c).right (in_body (counted_in width c) s)) → r ≡ ((counted_in width c).made (in_body (counted_in width c) s)).0 → good r ≡ decode_counted_in width unit c good bad s
  is_counted r h t e = ap good e ∙ sym (cond_true _ _ _ (and_i _ _ (eq-eqb _ _ h) t))

  pub is_wrong_counted : No ((counted_in width c).right (in_body (counted_in width c) s)) → bad ≡ decode_counted_in width unit c good bad s
  is_wrong_counted t = sym (cond_false _ _ _ (and_comm _ _ ∙ and_f ((counted_in width c).right (in_body (counted_in width c) s)) _ t))

-- Both round trips of such a body: the record with its count, then the bytes of what is counted.
pub record CountedTrips {R A : Type 0} (width unit : ℕ) (c : Codec R) (good : R → A) (bad : A) : Type 0 where
  pub there : (r : R) (n : ℕ) (parts : List ℕ) → Well (counted_in width c) (r, n) → length parts ≡ n * unit → decode_counted_in width unit c good bad (encode_by (counted_in width c) (r, n) ++ parts) ≡ good r
  pub back : (s : List ℕ) (r : R) → Bytes s → decode_counted_in width unit c good bad s ≡ good r
      → (n : ℕ) × (encode_by (counted_in width c) (r, n) ++ drop (total (counted_in width c).layout) s ≡ s) × (length s ≡ total (counted_in width c).layout + n * unit) × Well (counted_in width c) (r, n)

pub counted_trips : {R A : Type 0} (width unit : ℕ) (c : Codec R) (good : R → A) (bad : A) → Lawful (counted_in width c) → Apart good bad → CountedTrips width unit c good bad
counted_trips {R} {A} width unit c good bad w p = record { there = there; back = back }
  where
    there : (r : R) (n : ℕ) (parts : List ℕ) → Well (counted_in width c) (r, n) → length parts ≡ n * unit → decode_counted_in width unit c good bad (encode_by (counted_in width c) (r, n) ++ parts) ≡ good r
    there r n parts k m =
        let b : List ℕ = encode_by (counted_in width c) (r, n) in
        let e : in_body (counted_in width c) (b ++ parts) ≡ (counted_in width c).numbers (r, n) = fields_in (counted_in width c).layout ((counted_in width c).numbers (r, n)) [] parts 0 k.fit refl in
        let q : (counted_in width c).made (in_body (counted_in width c) (b ++ parts)) ≡ (r, n) = ap (counted_in width c).made e ∙ k.same in
        let l : length (b ++ parts) ≡ total (counted_in width c).layout + n * unit =
        length-append b parts ∙ ap₂ ◌+◌ (length_pack (counted_in width c).layout ((counted_in width c).numbers (r, n)) (w.count (r, n))) m in
        sym (is_counted width unit c good bad (b ++ parts) r (l ∙ ap (λ (x : R × ℕ). total (counted_in width c).layout + x.1 * unit) (sym q)) (ap (counted_in width c).right e ∙ k.right) (ap (λ (x : R × ℕ). x.0) (sym q)))

    back : (s : List ℕ) (r : R) → Bytes s → decode_counted_in width unit c good bad s ≡ good r
        → (n : ℕ) × (encode_by (counted_in width c) (r, n) ++ drop (total (counted_in width c).layout) s ≡ s) × (length s ≡ total (counted_in width c).layout + n * unit) × Well (counted_in width c) (r, n)
    back s r k e =
        let a = passed _ _ _ _ bad (good r) (p.never r) e in
        let q = (counted_in width c).made (in_body (counted_in width c) s) in
        let n : length s ≡ total (counted_in width c).layout + q.1 * unit = a.0 in
        let h : 0 + total (counted_in width c).layout ≤ length s = omega (arith, n) in
        let v = well_read (counted_in width c) w s (r, q.1) k (omega (arith, h)) a.1 (ap (λ (x : R). (x, q.1)) (p.one _ r a.2)) in (
          q.1,
          ap (λ (l : List ℕ). l ++ drop (total (counted_in width c).layout) s) (ap (pack (counted_in width c).layout) v.0 ∙ pack_fields (counted_in width c).layout s 0 k h)
              ∙ take-append-drop (total (counted_in width c).layout) s,
          n,
          v.1,
        )
