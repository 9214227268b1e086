-- A record's body as bytes. Assumes nothing.
use Rattle.std.specs.Prelude.{ℕ, ◌≡◌, ◌+◌, ◌*◌, Bool, true, cond, List, [], ◌∷◌, ◌++◌, length, get_or, take, drop, eqb}
use Rattle.lists.specs.Tests.{◌and◌}
use Rattle.records.specs.Numbers.{Field, little}
use Rattle.records.specs.Layouts.{total, fields_at, pack, emit}

-- the fields of a body; the record that their numbers make; a record's numbers; which numbers are right
pub record Codec (R : Type 0) : Type 0 where
  pub layout : List Field
  pub made : List ℕ → R
  pub numbers : R → List ℕ
  pub right : List ℕ → Bool

-- a number for each field
abbrev pub Counts : {R : Type 0} → Codec R → Type 0
Counts {R} c = (r : R) → length (c.numbers r) ≡ length c.layout

-- the numbers in the body s
abbrev pub in_body : {R : Type 0} → Codec R → List ℕ → List ℕ
in_body c s = fields_at c.layout s 0

-- the answer to the body s: good of its record where its length and its numbers are right, else bad
abbrev pub decode_by : {R A : Type 0} → Codec R → (R → A) → A → List ℕ → A
decode_by c good bad s = cond (eqb (length s) (total c.layout) and c.right (in_body c s)) (good (c.made (in_body c s))) bad

abbrev pub encode_by : {R : Type 0} → Codec R → R → List ℕ
encode_by c r = pack c.layout (c.numbers r)

-- d after n of the fields, from the k-th on, were stored one after the other from at
abbrev pub put_fields : {R : Type 0} → Codec R → ℕ → ℕ → R → List ℕ → ℕ → List ℕ
put_fields c k n r d at = emit (take n (drop k c.layout)) (take n (drop k (c.numbers r))) d at

-- a body that is one of a, then one of b
abbrev pub joined : {A B R : Type 0} → Codec A → Codec B → (A → B → R) → (R → A) → (R → B) → Codec R
joined a b make first second =
    record {
      layout = a.layout ++ b.layout;
      made = λ v. make (a.made (take (length a.layout) v)) (b.made (drop (length a.layout) v));
      numbers = λ r. a.numbers (first r) ++ b.numbers (second r);
      right = λ v. a.right (take (length a.layout) v) and b.right (drop (length a.layout) v);
    }

-- one number of n bytes, whatever it is
abbrev pub number : ℕ → Codec ℕ
number n = record { layout = little n ∷ []; made = λ v. get_or v 0 0; numbers = λ x. x ∷ []; right = λ v. true }

abbrev pub pair : {A B : Type 0} → A → B → A × B
pair a b = (a, b)

-- c, then a count of `width` bytes
abbrev pub counted_in : {R : Type 0} → ℕ → Codec R → Codec (R × ℕ)
counted_in width c = joined c (number width) pair (λ p. p.0) (λ p. p.1)

-- the answer to a body that is one of c, a count of `width` bytes, and `unit` bytes for each part counted
abbrev pub decode_counted_in : {R A : Type 0} → ℕ → ℕ → Codec R → (R → A) → A → List ℕ → A
decode_counted_in width unit c good bad s =
    let v = in_body (counted_in width c) s in
    cond (eqb (length s) (total (counted_in width c).layout + ((counted_in width c).made v).1 * unit) and (counted_in width c).right v) (good ((counted_in width c).made v).0) bad

-- "count 2, ids": an id has 16 bytes
abbrev pub counted : {R : Type 0} → Codec R → Codec (R × ℕ)
counted c = counted_in 2 c

abbrev pub decode_counted : {R A : Type 0} → Codec R → (R → A) → A → List ℕ → A
decode_counted c good bad s = decode_counted_in 2 16 c good bad s
