-- What the code shows of one record, each law once for every kind.
-- Assumes nothing.
use mathlib.Core.Path.{◌≡◌, refl, sym, ap, ◌∙◌}
use mathlib.Core.Bool.{Bool, true, false, cond}
use mathlib.Core.List.{List}
use Prim.Native.Nat.{ℕ, ◌+◌, ◌-◌, ◌≤◌}
use native.Mathlib.Omega.{arith}
use lib.ListN.{length}
use lib.Dec.{eqb}
use Rattle.lists.specs.Tests.{◌and◌}
use Rattle.std.specs.Prelude.{Result, Option, Ok, Err, Some, None}
use Rattle.records.specs.declared.frame.Unread.{Unread}
use Rattle.records.specs.declared.frame.Frame.{Frame}
use Rattle.records.specs.Numbers.{part}
use Rattle.records.specs.Layouts.{total}
use Rattle.records.specs.Codecs.{Codec, in_body, decode_by}
use Rattle.records.specs.Framing.{frame_at}
use Rattle.records.proofs.Framing.{whole}
use Rattle.image.specs.declared.ImageRefusal.{ImageRefusal}
use Rattle.image.specs.declared.ImageRefusal.TheVariants.{BadField}
use Rattle.image.specs.declared.reader.Due.{Due}
use Rattle.image.specs.declared.reader.Stepped.{Stepped}
use Rattle.image.specs.Image.{Got, of_frame, record_at}
use Rattle.image.specs.Steps.{place_of, step_by, step_of}

choose_map : {A B : Type 0} (f : A → B) (b : Bool) (x y : A) → cond b (f x) (f y) ≡ f (cond b x y)
choose_map f true x y = refl
choose_map f false x y = refl

-- the answer of a decoder, turned into another
pub map_decode : {R A B : Type 0} (f : A → B) (c : Codec R) (good : R → A) (bad : A) (s : List ℕ) → decode_by c (λ r. f (good r)) (f bad) s ≡ f (decode_by c good bad s)
map_decode f c good bad s = choose_map f (eqb (length s) (total c.layout) and c.right (in_body c s)) (good (c.made (in_body c s))) bad

-- ---- from a frame to the step
-- the part that a frame names is within
pub record Spans (s : List ℕ) (f : Frame) : Type 0 where
  pub least : 4 ≤ f.start
  pub within : f.start + f.size ≤ length s

pub spans : (s : List ℕ) (at due : ℕ) (f : Frame) → frame_at s at due ≡ Ok f → Spans s f
spans s at due f e = let w = whole s at due f e in record { least = omega (arith, w.starts); within = omega (arith, w.starts, w.within) }

-- the code's end of a part
pub part_of : (s : List ℕ) (a n m : ℕ) → m ≡ a + n → part s a (m - a) ≡ part s a n
part_of s a n m e = ap (part s a) (let z : m - a ≡ n = omega arith in z)

module _ (s : List ℕ) (at : ℕ) (due : Due) (p : ℕ) (f : Result Frame Unread) (ep : p ≡ place_of due) (ef : f ≡ frame_at s at p) where
  -- what the code shows at each of its answers
  pub step_framed : step_by at f ≡ step_of s at due
  unfolding step_of
  step_framed = ap (step_by at) (ef ∙ ap (frame_at s at) ep)

-- ---- from the step to the record
pub got_one : {A : Type 0} {x y : A} {m n : ℕ} → ◌≡◌ {A = Got A} (Ok (x, m)) (Ok (y, n)) → (x ≡ y) × (m ≡ n)
got_one {A} {x} {y} {m} {n} q = let p : (x, m) ≡ (y, n) = cc in (ap (λ (z : A × ℕ). z.0) p, ap (λ (z : A × ℕ). z.1) p)

module _ {R : Type 0} (c : Codec R) (s : List ℕ) (at : ℕ) (due : Due) (g : Stepped) (e : g ≡ step_of s at due) where
  -- a refusal is the record's
  pub step_refused : (x : ImageRefusal) → g.step ≡ Err x → Err x ≡ record_at c (place_of due) s at
  unfolding step_of record_at
  step_refused x t = go (frame_at s at (place_of due)) (sym (ap (λ (y : Stepped). y.step) e) ∙ t)
    where
      go : (f : Result Frame Unread) → (step_by at f).step ≡ Err x → Err x ≡ of_frame c s at f
      go (Err u) q = cc
      go (Ok f) q = cc

  -- a body is within, and what it decodes to is the record
  pub record Stands (from end : ℕ) : Type 0 where
    pub rises : from ≤ end
    pub within : end ≤ length s
    pub says : record_at c (place_of due) s at ≡ decode_by c (λ r. Ok (r, g.at)) (Err (BadField at)) (part s from (end - from))

  pub step_body : (from end : ℕ) → g.step ≡ Ok (from, end) → Stands from end
  unfolding step_of record_at
  step_body from end t = go (frame_at s at (place_of due)) refl (sym (ap (λ (y : Stepped). y.step) e) ∙ t) (ap (λ (y : Stepped). y.at) e)
    where
      go : (f : Result Frame Unread) → frame_at s at (place_of due) ≡ f → (step_by at f).step ≡ Ok (from, end) → g.at ≡ (step_by at f).at → Stands from end
      go (Err u) h q n = cc
      go (Ok f) h q n =
          let b = got_one q in
          let w = spans s at (place_of due) f h in
          record {
            rises = omega (arith, b.0, b.1);
            within = omega (arith, b.1, w.within);
            says =
                ap (of_frame c s at) h
                ∙ ap (λ (m : ℕ). decode_by c (λ r. Ok (r, m)) (Err (BadField at)) (part s f.start f.size)) (sym n)
                ∙ ap (λ (m : ℕ). decode_by c (λ r. Ok (r, g.at)) (Err (BadField at)) (part s f.start m)) (let z : f.size ≡ end - from = omega (arith, b.0, b.1) in z)
                ∙ ap (λ (m : ℕ). decode_by c (λ r. Ok (r, g.at)) (Err (BadField at)) (part s m (end - from))) b.0;
          }

  -- what the code makes of a decoder's answer
  abbrev pub told : Option R → Got R
  told (Some r) = Ok (r, g.at)
  told None = Err (BadField at)

  pub step_told : (from end : ℕ) → g.step ≡ Ok (from, end) → (o : Option R) → o ≡ decode_by c (λ r. Some r) None (part s from (end - from)) → told o ≡ record_at c (place_of due) s at
  step_told from end t o q =
      ap told q ∙ sym (map_decode told c (λ r. Some r) None (part s from (end - from))) ∙ sym (step_body from end t).says
