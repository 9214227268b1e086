-- Bodies after a sequence and before a count, each law once for every codec: what the generic readers show. Assumes nothing.
use mathlib.Core.Path.{◌≡◌, refl, sym, ap, ◌∙◌}
use mathlib.Core.Bool.{Bool, true, false, cond}
use mathlib.Core.List.{List, [], ◌∷◌, ◌++◌}
use Prim.Native.Nat.{ℕ, ◌+◌, ◌-◌, ◌*◌, ◌≤◌, ◌<◌}
use native.Mathlib.Nat.{zero-add}
use native.Mathlib.Omega.{arith}
use lib.ListN.{length, get_or, take}
use lib.Dec.{eqb}
use borrow.Author.Tests.{eq-eqb, ne_eqb, eqb-true, eqb-false}
use Rattle.lists.proofs.Tests.{and_t, and_f, by, cond_false}
use Rattle.std.specs.Prelude.{Option, Some, None}
use Rattle.std.specs.Option.{MatchOption, IsSomeAnd, option_map}
use Rattle.records.specs.declared.requests.Request.{Request}
use Rattle.records.specs.Numbers.{Field, little, field, part}
use Rattle.records.specs.Layouts.{total, fields_at}
use Rattle.records.specs.Codecs.{Codec, in_body, decode_by, number, pair, counted, decode_counted}
use Rattle.records.specs.Feeds.{numbered, asked}
use Rattle.records.proofs.Numbers.{length_part}
use Rattle.records.proofs.Layouts.{fields_part}
use Rattle.records.proofs.Codecs.{is_short, is_good, is_wrong, is_miscounted, is_counted, is_wrong_counted, take_first, drop_first}
use Rattle.records.proofs.Wire.{and_true}

pub map_cond : {A B : Type 0} (f : A → B) (b : Bool) (x : A) → option_map f (cond b (Some x) None) ≡ cond b (Some (f x)) None
map_cond f true x = refl
map_cond f false x = refl

pub total_append : (fs gs : List Field) → total (fs ++ gs) ≡ total fs + total gs
total_append [] gs = sym (zero-add (total gs))
total_append (f ∷ fs) gs = omega (arith, total_append fs gs)

-- ---- what is asked, of what was read: by what `Option::map` ensures
map_by : {A B : Type 0} (f : A → B) (o : Option A) (r : Option B) {P : A → B → Type 0} → MatchOption o (r ≡ None) (λ x. IsSomeAnd r (P x)) → ((x : A) (y : B) → P x y → y ≡ f x) → r ≡ option_map f o
map_by f None r h k = h
map_by f (Some x) None h k = absurd h
map_by f (Some x) (Some y) h k = ap Some (k x y h)

module _ {R : Type 0} (c : Codec R) (ask : R → Request) (s : List ℕ) (o : Option (ℕ × R)) (r : Option (ℕ × Request)) {P : ℕ × R → ℕ × Request → Type 0}
    (h : MatchOption o (r ≡ None) (λ x. IsSomeAnd r (P x))) (k : (x : ℕ × R) (y : ℕ × Request) → P x y → y ≡ (x.0, ask x.1)) where
  abbrev asking : ℕ × R → ℕ × Request
  asking x = (x.0, ask x.1)

  pub asked_numbered : o ≡ decode_by (numbered c) Some None s → r ≡ decode_by (numbered c) (asked ask) None s
  asked_numbered e = map_by asking o r h k ∙ ap (option_map asking) e ∙ map_cond asking _ _

  pub asked_listed : o ≡ decode_counted (numbered c) Some None s → r ≡ decode_counted (numbered c) (asked ask) None s
  asked_listed e = map_by asking o r h k ∙ ap (option_map asking) e ∙ map_cond asking _ _

module _ {R : Type 0} (c : Codec R) (s : List ℕ) where
  -- ---- after a sequence
  abbrev pub after : List ℕ
  after = part s 4 (length s - 4)

  abbrev pub with_sequence : R → ℕ × R
  with_sequence r = (field (little 4) s 0, r)

  pub too_short : length s < 4 → None ≡ decode_by (numbered c) Some None s
  too_short h = is_short (numbered c) Some None s (λ e. let z : length s ≡ 4 + total c.layout = e in omega (arith, z))

  module _ (h : 4 ≤ length s) where
    length_after : length after ≡ length s - 4
    length_after = length_part s 4 (length s - 4) (omega arith)

    fields_after : length s ≡ 4 + total c.layout → fields_at c.layout after 0 ≡ fields_at c.layout s 4
    fields_after e = fields_part c.layout s 4 (length s - 4) 0 (omega (arith, e))

    pub numbered_by : option_map with_sequence (decode_by c Some None after) ≡ decode_by (numbered c) Some None s
    numbered_by =
        by (eqb (length s) (4 + total c.layout)) _
        (λ t.
        let e : length s ≡ 4 + total c.layout = eqb-true _ _ t in
        let l : length after ≡ total c.layout = omega (arith, e, length_after) in
        map_cond with_sequence _ _
        ∙ ap (λ (b : Bool). cond b (Some (with_sequence (c.made (in_body c after)))) None) (and_t _ (c.right (in_body c after)) (eq-eqb _ _ l))
        ∙ ap (λ (v : List ℕ). cond (c.right v) (Some (with_sequence (c.made v))) None) (fields_after e)
        ∙ sym (ap (λ (b : Bool). cond b (Some (with_sequence (c.made (fields_at c.layout s 4)))) None) (and_t _ _ t ∙ and_t true (c.right (fields_at c.layout s 4)) refl)))
        (λ t.
        let n : length after ≡ total c.layout → ⊥ = λ e. eqb-false _ _ t (omega (arith, e, length_after)) in
        ap (option_map with_sequence) (cond_false _ (Some (c.made (in_body c after))) None (and_f _ (c.right (in_body c after)) (ne_eqb _ _ n)))
        ∙ sym (cond_false _ _ None (and_f _ _ t)))

  -- ---- before a count
  counted_total : total (counted c).layout ≡ total c.layout + 2
  counted_total = total_append c.layout (little 2 ∷ [])

  counted_word : ((counted c).made (in_body (counted c) s)).1 ≡ field (little 2) s (total c.layout)
  counted_word = ap (λ (l : List ℕ). get_or l 0 0) (drop_first c (number 2) pair (λ p. p.0) (λ p. p.1) s 0) ∙ ap (field (little 2) s) (zero-add (total c.layout))

  module _ (m : ℕ) (em : m ≡ total c.layout) where
    pub list_short : length s < m + 2 → None ≡ decode_counted c Some None s
    list_short h = is_miscounted 2 16 c Some None s (λ e. omega (arith, e, counted_total, em))

    module _ (n : ℕ) (en : n ≡ field (little 2) s m) (h : m + 2 ≤ length s) where
      word : ((counted c).made (in_body (counted c) s)).1 ≡ n
      word = counted_word ∙ ap (field (little 2) s) (sym em) ∙ sym en

      pub list_wrong : (length s - (m + 2) ≡ n * 16 → ⊥) → None ≡ decode_counted c Some None s
      list_wrong f = is_miscounted 2 16 c Some None s (λ e. f (omega (arith, e, counted_total, word, em)))

      pub list_by : length s - (m + 2) ≡ n * 16 → decode_by c Some None (take m s) ≡ decode_counted c Some None s
      list_by e =
          let p : List ℕ = take m s in
          let lp : length p ≡ total c.layout = length_part s 0 m (omega arith) ∙ em in
          let v : List ℕ = in_body c s in
          let ep : in_body c p ≡ v = fields_part c.layout s 0 m 0 (omega (arith, em)) in
          let ev : take (length c.layout) (in_body (counted c) s) ≡ v = take_first c (number 2) pair (λ p. p.0) (λ p. p.1) s 0 in
          let right : (counted c).right (in_body (counted c) s) ≡ c.right v = and_true _ ∙ ap c.right ev in
          by (c.right v) _
          (λ t.
          sym (is_good c Some None p (c.made v) lp (ap c.right ep ∙ t) (ap c.made (sym ep)))
          ∙ is_counted 2 16 c Some None s (c.made v) (omega (arith, e, counted_total, word, em)) (right ∙ t) (ap c.made (sym ev)))
          (λ t. sym (is_wrong c Some None p lp (ap c.right ep ∙ t)) ∙ is_wrong_counted 2 16 c Some None s (right ∙ t))
