-- The laws of specs/Framing.antt. Assumes nothing.
use mathlib.Core.Path.{◌≡◌, refl, sym, ap, ap₂, ◌∙◌, subst}
use mathlib.Core.Bool.{Bool, true, false, cond}
use mathlib.Core.List.{List, [], ◌∷◌, ◌++◌, append_assoc}
use Prim.Native.Nat.{ℕ, ◌+◌, ◌-◌, ◌*◌, ◌^◌, ◌≤◌, ◌<◌}
use native.Mathlib.Nat.{mul-le-mul_left}
use native.Mathlib.Omega.{arith}
use lib.ListN.{length, get_or, length-append}
use lib.Dec.{eqb, ltb}
use borrow.Author.Tests.{eq-eqb, ne_eqb, lt-ltb, le-ltb, eqb-true, ltb-false}
use Rattle.lists.specs.Papers.{Paper}
use Rattle.lists.specs.Tests.{non, Yes, No}
use Rattle.lists.proofs.Papers.{pick, one_to_one, value_at}
use Rattle.lists.proofs.Tests.{non_t, non_f, cond_true, cond_false}
use Rattle.records.specs.declared.kinds.Kind.{Kind}
use Rattle.std.specs.Prelude.{Result, Option, Ok, Err, Some, None}
use Rattle.records.specs.declared.frame.Frame.{Frame}
use Rattle.records.specs.declared.frame.Unread.{Unread}
use Rattle.records.specs.declared.frame.Unread.TheVariants.{Torn, BadKind, BadField}
use Rattle.records.specs.Numbers.{little, field, part, bytes_of}
use Rattle.records.specs.Layouts.{fields_at, pack}
use Rattle.records.specs.Table.{row_of, possible}
use Rattle.records.specs.Framing.{span_of, frame_of, frame_by, frame_at, record_of, framed_paper}
use Rattle.records.proofs.Numbers.{Bytes, length_bytes_of, length_part, part_add}
use Rattle.records.proofs.Layouts.{fields_in, part_in, pack_fields}
use Rattle.records.proofs.Table.{rule, length_of_lem}

-- ---- what the code shows at each of its answers: each check adds one equation
module _ (r : Kind) (n at left due : ℕ) where
  pub not_due : (r.place ≡ due → ⊥) → Err (BadKind at) ≡ frame_of r n at left due
  unfolding frame_of
  not_due h = sym (cond_true _ _ _ (non_f _ (ne_eqb _ _ h)))

  module _ (d : r.place ≡ due) where
    is_due : frame_of r n at left due ≡ cond (non (possible r n)) (Err (BadField at)) (cond (ltb left (n + 2)) (Err (Torn at)) (Ok (span_of r n at)))
    unfolding frame_of
    is_due = cond_false _ _ _ (non_t _ (eq-eqb _ _ d))

    pub impossible : No (possible r n) → Err (BadField at) ≡ frame_of r n at left due
    impossible t = sym (is_due ∙ cond_true _ _ _ (non_f _ t))

    module _ (t : Yes (possible r n)) where
      is_possible : frame_of r n at left due ≡ cond (ltb left (n + 2)) (Err (Torn at)) (Ok (span_of r n at))
      is_possible = is_due ∙ cond_false _ _ _ (non_t _ t)

      pub missing : left < n + 2 → Err (Torn at) ≡ frame_of r n at left due
      missing h = sym (is_possible ∙ cond_true _ _ _ (lt-ltb _ _ h))

      pub is_whole : n + 2 ≤ left → Ok (span_of r n at) ≡ frame_of r n at left due
      is_whole h = sym (is_possible ∙ cond_false _ _ _ (le-ltb _ _ h))

module _ (s : List ℕ) (at due : ℕ) where
  pub under_four : length s - at < 4 → Err (Torn at) ≡ frame_at s at due
  unfolding frame_at
  under_four h = sym (cond_true _ _ _ (lt-ltb _ _ h))

  module _ (h : 4 ≤ length s - at) where
    pub by_row : frame_at s at due ≡ frame_by (row_of (field (little 2) s (at + 2))) (field (little 2) s at) at (length s - at) due
    unfolding frame_at
    by_row = cond_false _ _ _ (le-ltb _ _ h)

non_no : (b : Bool) → No (non b) → Yes b
unfolding non
non_no true e = refl
non_no false e = sym e

-- ---- what a frame says
pub record Whole (s : List ℕ) (at due : ℕ) (f : Frame) : Type 0 where
  pub row : Kind
  pub known : row_of f.kind ≡ Some row
  pub place : row.place ≡ due
  pub kind : field (little 2) s (at + 2) ≡ f.kind
  pub counted : field (little 2) s at ≡ f.size + 2
  pub sum : f.size + 2 ≡ row.base + row.unit * f.units
  pub few : f.units ≤ 64
  pub counts : 2 ≤ row.base
  pub starts : f.start ≡ at + 4
  pub ends : f.next ≡ at + 4 + f.size
  pub within : at + 4 + f.size ≤ length s

-- a check that was passed
passed : {A : Type 0} (b : Bool) (x y a : A) → (x ≡ a → ⊥) → cond b x y ≡ a → No b × (y ≡ a)
passed true x y a h e = absurd (h e)
passed false x y a h e = (refl, e)

torn_not : (at : ℕ) (f : Frame) → Err (Torn at) ≡ Ok f → ⊥
torn_not at f e = let z : ◌≡◌ {A = ℕ} 0 1 = cc in omega arith

bad_kind_not : (at : ℕ) (f : Frame) → Err (BadKind at) ≡ Ok f → ⊥
bad_kind_not at f e = let z : ◌≡◌ {A = ℕ} 0 1 = cc in omega arith

bad_field_not : (at : ℕ) (f : Frame) → Err (BadField at) ≡ Ok f → ⊥
bad_field_not at f e = let z : ◌≡◌ {A = ℕ} 0 1 = cc in omega arith

same_frame : (f g : Frame) → ◌≡◌ {A = Result Frame Unread} (Ok f) (Ok g) → f ≡ g
same_frame f g e = cc

module _ (s : List ℕ) (at due : ℕ) (f : Frame) where
  whole_of : (k n : ℕ) → field (little 2) s (at + 2) ≡ k → field (little 2) s at ≡ n → 4 ≤ length s - at → (w : Option Kind) → row_of k ≡ w → frame_by w n at (length s - at) due ≡ Ok f → Whole s at due f
  unfolding frame_of
  whole_of k n ek en h None q e = absurd (bad_kind_not at f e)
  whole_of k n ek en h (Some r) q e =
      let p1 = passed (non (eqb r.place due)) _ _ _ (bad_kind_not at f) e in
      let p2 = passed (non (possible r n)) _ _ _ (bad_field_not at f) p1.1 in
      let p3 = passed (ltb (length s - at) (n + 2)) _ _ _ (torn_not at f) p2.1 in
      let g : span_of r n at ≡ f = same_frame _ f p3.1 in
      let room : n + 2 ≤ length s - at = ltb-false _ _ p3.0 in
      let l = length_of_lem r n (non_no _ p2.0) in
      let u = rule k r q in
      let two : 2 ≤ n = omega (arith, u.counts, l.sum) in
      subst (Whole s at due) g
      record {
        row = r;
        known = ap row_of u.number ∙ q;
        place = eqb-true _ _ (non_no _ p1.0);
        kind = ek ∙ sym u.number;
        counted = omega arith;
        sum = omega (arith, l.sum);
        few = l.most;
        counts = u.counts;
        starts = refl;
        ends = omega arith;
        within = omega arith;
      }

  pub whole : frame_at s at due ≡ Ok f → Whole s at due f
  unfolding frame_at
  whole e =
      let p = passed (ltb (length s - at) 4) _ _ _ (torn_not at f) e in
      whole_of _ _ refl refl (ltb-false _ _ p.0) (row_of (field (little 2) s (at + 2))) refl p.1

pub length_record : (k : ℕ) (b : List ℕ) → length (record_of k b) ≡ length b + 4
unfolding record_of
length_record k b = simp (length-append, length_bytes_of) (omega arith)

-- ---- a record that stands there whole is framed
module _ (r : Kind) (k : ℕ) (q : row_of k ≡ Some r) where
  pub frame_is : (s : List ℕ) (at n : ℕ) → field (little 2) s at ≡ n → field (little 2) s (at + 2) ≡ k → Yes (possible r n) → at + 2 + n ≤ length s
      → frame_at s at r.place ≡ Ok (span_of r n at)
  frame_is s at n en ek t h =
      let u = rule k r q in
      let l = length_of_lem r n t in
      let four : 4 ≤ length s - at = omega (arith, u.counts, l.sum) in
      by_row s at r.place four
      ∙ ap (λ (w : Option Kind). frame_by w (field (little 2) s at) at (length s - at) r.place) (ap row_of ek ∙ q)
      ∙ ap (λ (m : ℕ). frame_of r m at (length s - at) r.place) en
      ∙ sym (is_whole r n at (length s - at) r.place refl t (omega arith))

  module _ (p b t : List ℕ) (at : ℕ) (e : length p ≡ at) where
    numbers_there : Yes (possible r (length b + 2)) → fields_at (little 2 ∷ little 2 ∷ []) (p ++ (record_of k b ++ t)) at ≡ (length b + 2) ∷ (k ∷ [])
    unfolding record_of pack
    numbers_there w =
        let u = rule k r q in
        let l = length_of_lem r (length b + 2) w in
        let small : length b + 2 < 2 ^ 16 = omega (arith, u.short, l.sum, mul-le-mul_left r.unit l.most) in
        ap (λ (x : List ℕ). fields_at (little 2 ∷ little 2 ∷ []) (p ++ x) at) (simp append_assoc)
        ∙ fields_in (little 2 ∷ little 2 ∷ []) ((length b + 2) ∷ (k ∷ [])) p (b ++ t) at (small, (u.small, tt)) e

    pub frame_record : Yes (possible r (length b + 2)) → frame_at (p ++ (record_of k b ++ t)) at r.place ≡ Ok (span_of r (length b + 2) at)
    frame_record w =
        let v = numbers_there w in
        frame_is (p ++ (record_of k b ++ t)) at (length b + 2) (ap (λ (x : List ℕ). get_or x 0 0) v) (ap (λ (x : List ℕ). get_or x 1 0) v) w
        (omega (arith, length-append p (record_of k b ++ t), length-append (record_of k b) t, length_record k b))

-- and its body is the part that the frame names
pub body_in_lem : (k : ℕ) (p b t : List ℕ) (at : ℕ) → length p ≡ at → part (p ++ (record_of k b ++ t)) (at + 4) (length b) ≡ b
unfolding record_of
body_in_lem k p b t at e =
    let x : List ℕ = bytes_of (little 2) (length b + 2) in
    let y : List ℕ = bytes_of (little 2) k in
    let front : length (p ++ (x ++ y)) ≡ at + 4 = simp (length-append, length_bytes_of) (omega arith) in
    ap (λ (l : List ℕ). part l (at + 4) (length b)) (let z : p ++ ((x ++ (y ++ b)) ++ t) ≡ (p ++ (x ++ y)) ++ (b ++ t) = simp append_assoc in z)
    ∙ part_in (p ++ (x ++ y)) b t (at + 4) (length b) front refl

-- the bytes of a framed record are its length, its kind and its body
pub record_part : (s : List ℕ) (at due : ℕ) (f : Frame) → Bytes s → frame_at s at due ≡ Ok f → part s at (f.size + 4) ≡ record_of f.kind (part s f.start f.size)
unfolding record_of pack
record_part s at due f k e =
    let w = whole s at due f e in
    let b : List ℕ = part s (at + 4) f.size in
    let size : length b ≡ f.size = length_part s (at + 4) f.size w.within in
    let four : 4 + f.size ≡ f.size + 4 = omega arith in
    let h : at + 4 ≤ length s = omega (arith, w.within) in
    ap (part s at) (sym four) ∙ part_add s at 4 f.size
    ∙ ap (λ (l : List ℕ). l ++ b) (sym (pack_fields (little 2 ∷ little 2 ∷ []) s at k h))
    ∙ simp append_assoc
    (ap₂ (λ (m j : ℕ). bytes_of (little 2) m ++ (bytes_of (little 2) j ++ b)) (w.counted ∙ ap (λ (m : ℕ). m + 2) (sym size)) w.kind
    ∙ ap (λ (a : ℕ). bytes_of (little 2) (length (part s a f.size) + 2) ++ (bytes_of (little 2) f.kind ++ part s a f.size)) (sym w.starts))

-- ---- on paper
framed_of : Paper → Result Frame Unread
framed_of p =
    pick p.number ((17, (Err (Torn (value_at p 0)))) ∷ (18, (Err (BadKind (value_at p 0)))) ∷ (19, (Err (BadField (value_at p 0)))) ∷ [])
    (Ok (record { kind = value_at p 0; start = value_at p 1; size = value_at p 2; units = value_at p 3; next = value_at p 4 }))

framed_back : (a : Result Frame Unread) → framed_of (framed_paper a) ≡ a
unfolding framed_of framed_paper
framed_back (Err (Torn at)) = refl
framed_back (Err (BadKind at)) = refl
framed_back (Err (BadField at)) = refl
framed_back (Ok f) = refl

pub framed_one : (a b : Result Frame Unread) → framed_paper a ≡ framed_paper b → a ≡ b
framed_one = one_to_one framed_paper framed_of framed_back
