-- What was read writes back: a record, a run of records, the lists of a whole image.
-- Assumes nothing.
use mathlib.Core.Path.{◌≡◌, refl, sym, ap, ap₂, ◌∙◌}
use mathlib.Core.Bool.{Bool}
use mathlib.Core.List.{List, ◌++◌}
use Prim.Native.Nat.{ℕ, zero, suc, ◌+◌, ◌*◌, ◌≤◌}
use native.Mathlib.Nat.{zero-mul}
use native.Mathlib.Omega.{arith}
use lib.ListN.{length}
use lib.Seq.{take_all}
use lib.Dec.{eqb, ltb}
use borrow.Author.Tests.{eqb-true, eq-eqb, ltb-false}
use Rattle.lists.specs.Tests.{◌and◌, ◌imp◌, Yes}
use Rattle.lists.specs.Lists.{all}
use Rattle.lists.proofs.Tests.{imp_e}
use Rattle.lists.proofs.Lists.{all→}
use Rattle.records.specs.declared.kinds.Kind.{Kind}
use Rattle.records.specs.declared.bodies.Head.{Head}
use Rattle.records.specs.Numbers.{part, bytes_of_all}
use Rattle.records.specs.Layouts.{total}
use Rattle.records.specs.Codecs.{Codec, decode_by, encode_by}
use Rattle.records.specs.Table.{rows, at_head, at_active, at_defunct}
use Rattle.records.specs.Framing.{record_of}
use Rattle.records.specs.Wire as wire
use Rattle.records.proofs.Numbers.{Bytes, bytes_part, length_part, part_add}
use Rattle.records.proofs.Codecs.{is_good, round_trips}
use Rattle.records.proofs.Table.{rule}
use Rattle.records.proofs.Framing.{whole, record_part}
use Rattle.std.specs.Prelude.{Ok, Err}
use Rattle.image.specs.declared.ImageRefusal.TheVariants.{BadField, BadOrder}
use Rattle.image.specs.Image.{Got, record_at, Listed, active_list, defunct_list, low_after, run_at, Held, held_of, lists_at, held_by, bytes_of_run, head_of, image_of}
use Rattle.image.proofs.Stepping.{got_one}
use Rattle.image.proofs.Halves.{taken, first, none, run_length, then_got, cond_got}
use Rattle.image.proofs.Writes.{Plain, head_plain, active_plain, defunct_plain}

-- one kind is due at a place of an image: a test over the table
abbrev one_kind : ℕ → ℕ → Bool
one_kind k due = all (λ (r : Kind). eqb r.place due imp eqb r.kind k) rows

head_alone : Yes (one_kind 1 at_head)
unfolding rows ◌imp◌ ◌and◌
head_alone = refl

-- ---- a record
module _ {R : Type 0} {k due : ℕ} (c : Codec R) (p : Plain k due c) (alone : Yes (one_kind k due)) (s : List ℕ) (y : Bytes s) where
  pub record Stood (at next : ℕ) (r : R) : Type 0 where
    pub bytes : part s at (total c.layout + 4) ≡ record_of k (encode_by c r)
    pub after : next ≡ at + (total c.layout + 4)
    pub within : next ≤ length s

  pub record_back : (at next : ℕ) (r : R) → record_at c due s at ≡ Ok (r, next) → Stood at next r
  record_back at next r e =
      let t = taken c due s at r next e in
      let f = t.frame in
      let b : List ℕ = part s f.start f.size in
      let w = whole s at due f t.framed in
      let u = rule f.kind w.row w.known in
      let kind : f.kind ≡ k = sym u.number ∙ eqb-true w.row.kind k (imp_e (eqb w.row.place due) (eqb w.row.kind k) (all→ _ alone u.listed) (eq-eqb _ _ w.place)) in
      let size : f.size ≡ total c.layout = sym (length_part s f.start f.size (omega (arith, w.starts, w.within))) ∙ t.size in
      let good : ◌≡◌ {A = Got R} (decode_by c (λ (x : R). Ok (x, next)) (Err (BadField at)) b) (Ok (r, next)) = sym (is_good c (λ (x : R). Ok (x, next)) (Err (BadField at)) b r t.size t.right (sym t.made)) in
      let body : encode_by c r ≡ b =
      ((round_trips c (λ (x : R). Ok (x, next)) (Err (BadField at)) p.lawful record { one = λ x y q. (got_one q).0; never = λ x q. cc }).back b r (bytes_part s f.start f.size y) good).0 in
      record {
        bytes = ap (λ (n : ℕ). part s at (n + 4)) (sym size) ∙ record_part s at due f y t.framed ∙ ap₂ record_of kind (sym body);
        after = omega (arith, t.after, w.ends, size);
        within = omega (arith, t.after, w.ends, w.within);
      }

-- ---- a run
module _ {R : Type 0} (e : Listed R) (strict : Bool) (p : Plain e.kind e.place e.codec) (alone : Yes (one_kind e.kind e.place)) (s : List ℕ) (y : Bytes s) where
  pub record Run (n at : ℕ) (l : List R) (m : ℕ) : Type 0 where
    pub bytes : part s at (n * (total e.codec.layout + 4)) ≡ bytes_of_run e l
    pub after : m ≡ at + n * (total e.codec.layout + 4)
    pub within : m ≤ length s

  pub run_back : (n low at : ℕ) (l : List R) (m : ℕ) → at ≤ length s → run_at e strict s n low at ≡ Ok (l, m) → Run n at l m
  unfolding bytes_of_all
  run_back zero low at l m h q =
      let z = none e strict s low at l m q in
      record {
        bytes = ap (part s at) (zero-mul (total e.codec.layout + 4)) ∙ ap (bytes_of_run e) (sym z.0);
        after = z.1 ∙ (let x : at ≡ at + 0 * (total e.codec.layout + 4) = omega arith in x);
        within = omega (arith, z.1);
      }
  run_back (suc n) low at l m h q =
      let size : ℕ = total e.codec.layout + 4 in
      let f = first e strict s n low at l m q in
      let o = record_back e.codec p alone s y at f.next f.one f.read in
      let r = run_back n (low_after strict (e.id f.one)) f.next f.rest m o.within f.others in
      record {
        bytes =
            ap (part s at) (let z : suc n * size ≡ size + n * size = omega arith in z)
            ∙ part_add s at size (n * size)
            ∙ ap₂ (λ (x y : List ℕ). x ++ y) o.bytes (ap (λ (x : ℕ). part s x (n * size)) (sym o.after) ∙ r.bytes)
            ∙ ap (bytes_of_run e) (sym f.all);
        after = r.after ∙ omega (arith, o.after);
        within = r.within;
      }

-- ---- the lists of a whole image
active_alone : Yes (one_kind 2 at_active)
unfolding rows ◌imp◌ ◌and◌
active_alone = refl

defunct_alone : Yes (one_kind 3 at_defunct)
unfolding rows ◌imp◌ ◌and◌
defunct_alone = refl

pub held_back : (strict : Bool) (s : List ℕ) → Bytes s → (x : Held) (end : ℕ) → held_by strict s ≡ Ok (x, end) → (image_of x.model x.expected ≡ s) × (end ≡ length s)
unfolding held_by lists_at image_of
held_back strict s y x end e =
    let w = then_got (record_at wire.head at_head s 0) (lists_at strict s) x end e in
    let h : Head = w.0 in
    let v = then_got (run_at active_list strict s h.actives 0 w.1) _ x end w.3 in
    let u = then_got (run_at defunct_list strict s h.defuncts 0 v.1) _ x end v.3 in
    let c = cond_got (ltb u.1 (length s)) (BadOrder u.1) (Ok (held_of h v.0 u.0, u.1)) x end u.3 in
    let ho = record_back wire.head head_plain head_alone s y 0 w.1 h w.2 in
    let ao = run_back active_list strict active_plain active_alone s y h.actives 0 w.1 v.0 v.1 ho.within v.2 in
    let dd = run_back defunct_list strict defunct_plain defunct_alone s y h.defuncts 0 v.1 u.0 u.1 ao.within u.2 in
    let na = run_length active_list strict s h.actives 0 w.1 v.0 v.1 v.2 in
    let nd = run_length defunct_list strict s h.defuncts 0 v.1 u.0 u.1 u.2 in
    let same : head_of (held_of h v.0 u.0).model h.expected ≡ h = λ i. record { revision = h.revision; expected = h.expected; actives = na i; defuncts = nd i } in
    let told = got_one c.1 in
    let full : u.1 ≡ length s = omega (arith, dd.within, ltb-false u.1 (length s) c.0) in (
      ap (λ (z : Held). image_of z.model z.expected) (sym told.0)
          ∙ ap (λ (z : Head). record_of 1 (encode_by wire.head z) ++ (bytes_of_run active_list v.0 ++ bytes_of_run defunct_list u.0)) same
          ∙ whole_of s (h.actives * 91) (h.defuncts * 104) _ _ _ ho.bytes (ap (λ (z : ℕ). part s z (h.actives * 91)) (sym ho.after) ∙ ao.bytes)
          (ap (λ (z : ℕ). part s z (h.defuncts * 104)) (let z : 20 + h.actives * 91 ≡ v.1 = omega (arith, ao.after, ho.after) in z) ∙ dd.bytes)
          (omega (arith, ho.after, ao.after, dd.after, full)),
      sym told.1 ∙ full,
    )
  where
    -- three pieces that stand one after the other are the whole
    whole_of : (s : List ℕ) (m n : ℕ) (h a d : List ℕ) → part s 0 20 ≡ h → part s 20 m ≡ a → part s (20 + m) n ≡ d → 20 + m + n ≡ length s → h ++ (a ++ d) ≡ s
    whole_of s m n h a d eh ea ed q =
        sym (ap₂ (λ (x : List ℕ) (z : List ℕ). x ++ z) eh (ap₂ (λ (x : List ℕ) (z : List ℕ). x ++ z) ea ed))
        ∙ ap (λ (x : List ℕ). part s 0 20 ++ x) (sym (part_add s 20 m n))
        ∙ sym (part_add s 0 20 (m + n))
        ∙ take_all (20 + (m + n)) s (omega arith)
