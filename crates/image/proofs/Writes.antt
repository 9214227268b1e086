-- Images written: the bytes of records and of runs, the turns of the loop that writes a run, what each answer shows.
-- Assumes nothing.
use mathlib.Core.Path.{◌≡◌, refl, sym, ap, ap₂, ◌∙◌}
use mathlib.Core.List.{List, ◌++◌, append_assoc}
use Prim.Native.Nat.{ℕ, ◌+◌, ◌*◌, ◌≤◌, ◌<◌}
use native.Mathlib.Nat.{zero-add}
use native.Mathlib.Omega.{arith}
use lib.ListN.{length, drop, length-append}
use borrow.Author.Tests.{le-leb, lt-ltb, le-ltb}
use Rattle.lists.proofs.Tests.{cond_true, cond_false}
use Rattle.records.specs.declared.kinds.Kind.{Kind}
use Rattle.std.specs.Prelude.{Result, Ok, Err, Some, ⊤}
use Rattle.records.specs.Numbers.{splice}
use Rattle.records.specs.Numbers as N
use Rattle.records.specs.Layouts.{total}
use Rattle.records.specs.Codecs.{Codec, encode_by}
use Rattle.records.specs.Table.{rows, row, row_of, at_head, at_active, at_defunct}
use Rattle.records.specs.Framing.{record_of}
use Rattle.records.specs.Wire as wire
use Rattle.records.proofs.Numbers.{splice_splice}
use Rattle.records.proofs.Runs.{length_all}
use Rattle.records.proofs.Codecs.{Lawful}
use Rattle.records.proofs.Framing.{length_record}
use Rattle.records.proofs.Storing.{length_body}
use Rattle.records.proofs.Wire.{head_lawful, active_lawful, defunct_lawful}
use Rattle.state.specs.Model.{Model, model_of, Tidy}
use Rattle.state.proofs.Laws.{active_count, defunct_count}
use Rattle.rules.specs.declared.Unsound.{Unsound}
use Rattle.rules.specs.Rules.{broken_rule}
use Rattle.image.specs.declared.Spare.{Spare}
use Rattle.image.specs.declared.WriteRefusal.TheVariants.{ShortOutput}
use Rattle.image.specs.Refusals.{not_written}
use Rattle.image.specs.Image.{Listed, active_list, defunct_list, bytes_of_one, bytes_of_run, head_of, image_of, done, fitted, written_by, write_on}

-- what is known of a kind without units
pub record Plain {R : Type 0} (k due : ℕ) (c : Codec R) : Type 0 where
  pub row : Kind
  pub known : row_of k ≡ Some row
  pub place : row.place ≡ due
  pub unit : row.unit ≡ 0
  pub base : row.base ≡ total c.layout + 2
  pub lawful : Lawful c

pub head_plain : Plain 1 at_head wire.head
unfolding row_of rows
head_plain = record { row = row 1 18 0 at_head; known = refl; place = refl; unit = refl; base = refl; lawful = head_lawful }

pub active_plain : Plain 2 at_active wire.active
unfolding row_of rows
active_plain = record { row = row 2 89 0 at_active; known = refl; place = refl; unit = refl; base = refl; lawful = active_lawful }

pub defunct_plain : Plain 3 at_defunct wire.defunct
unfolding row_of rows
defunct_plain = record { row = row 3 102 0 at_defunct; known = refl; place = refl; unit = refl; base = refl; lawful = defunct_lawful }

-- ---- lengths
pub length_whole : {R : Type 0} {k due : ℕ} (c : Codec R) → Plain k due c → (r : R) → length (record_of k (encode_by c r)) ≡ total c.layout + 4
length_whole {k} c p r = length_record k (encode_by c r) ∙ ap (λ (n : ℕ). n + 4) (length_body c p.lawful r)

module _ {R : Type 0} (e : Listed R) (p : Plain e.kind e.place e.codec) where
  pub length_one : (r : R) → length (bytes_of_one e r) ≡ total e.codec.layout + 4
  length_one r = length_whole e.codec p r

  pub length_run : (l : List R) → length (bytes_of_run e l) ≡ length l * (total e.codec.layout + 4)
  length_run l = length_all (bytes_of_one e) (total e.codec.layout + 4) length_one l

-- ---- the whole image
-- 01: the length is 20 + 91 a + 104 d
pub length_image : (m : Model) (n : ℕ) → length (image_of m n) ≡ 20 + 91 * length m.active + 104 * length m.defunct
unfolding image_of
length_image m n =
    let a : List ℕ = bytes_of_run active_list m.active in
    let d : List ℕ = bytes_of_run defunct_list m.defunct in
    let h : List ℕ = record_of 1 (encode_by wire.head (head_of m n)) in
    omega (arith, length-append h (a ++ d), length-append a d, length_whole wire.head head_plain (head_of m n), length_run active_list active_plain m.active, length_run defunct_list defunct_plain m.defunct)

pub splice_front : (s b : List ℕ) → splice s 0 b ≡ b ++ drop (length b) s
unfolding splice
splice_front s b = ap (λ (n : ℕ). b ++ drop n s) (zero-add (length b))

-- three pieces, each stored after the one before it
pub pieces : (s a b c : List ℕ) (k m : ℕ) → length a ≡ k → k + length b ≡ m → m + length c ≤ length s → splice (splice (splice s 0 a) k b) m c ≡ splice s 0 (a ++ (b ++ c))
pieces s a b c k m ea eb h =
    let ab : length (a ++ b) ≡ m = length-append a b ∙ omega arith in
    ap (λ (n : ℕ). splice (splice (splice s 0 a) n b) m c) (sym (zero-add k))
    ∙ ap (λ (x : List ℕ). splice x m c) (splice_splice s 0 k a b ea (omega arith))
    ∙ ap (λ (n : ℕ). splice (splice s 0 (a ++ b)) n c) (sym (zero-add m))
    ∙ splice_splice s 0 m (a ++ b) c ab (omega arith)
    ∙ ap (splice s 0) (append_assoc a b c)

-- ---- a writer that doesn't test writes what one that tests does
pub stored_fits : (b out : List ℕ) → length b ≤ length out → done (Ok (length b)) (N.stored out 0 b) ≡ fitted b out
unfolding N.stored
stored_fits b out h =
    ap (done (Ok (length b))) (cond_true _ _ _ (le-leb (0 + length b) (length out) (omega arith)) ∙ splice_front out b)
    ∙ sym (cond_false _ _ _ (le-ltb (length out) (length b) h))

-- the bytes that are stored without a test are those of a sound state's image
pub sound_stored : (sp : Spare) (out : List ℕ) → broken_rule sp.state ≡ Ok tt → length (image_of (model_of sp.state) sp.expected) ≤ length out
    → write_on sp out ≡ done (Ok (length (image_of (model_of sp.state) sp.expected))) (N.stored out 0 (image_of (model_of sp.state) sp.expected))
unfolding write_on
sound_stored sp out q h =
    let b : List ℕ = image_of (model_of sp.state) sp.expected in
    ap (λ (v : Result ⊤ Unsound). written_by v b out) q ∙ sym (stored_fits b out h)

-- ---- what the code shows at each of its answers
module _ (sp : Spare) (out : List ℕ) (v : Result ⊤ Unsound) (ev : v ≡ broken_rule sp.state) where
  abbrev image : List ℕ
  image = image_of (model_of sp.state) sp.expected

  told : written_by v image out ≡ write_on sp out
  unfolding write_on
  told = ap (λ (x : Result ⊤ Unsound). written_by x image out) ev

  pub unsound : (u : Unsound) → v ≡ Err u → done (Err (not_written u)) out ≡ write_on sp out
  unsound u q = ap (λ (x : Result ⊤ Unsound). written_by x image out) (sym q) ∙ told

  module _ (q : v ≡ Ok tt) (t : Tidy sp.state) where
    fits : fitted image out ≡ write_on sp out
    fits = ap (λ (x : Result ⊤ Unsound). written_by x image out) (sym q) ∙ told

    abbrev needed : ℕ
    needed = 20 + sp.state.actives * 91 + sp.state.defuncts * 104

    image_size : length image ≡ needed
    image_size = length_image (model_of sp.state) sp.expected ∙ omega (arith, active_count sp.state t, defunct_count sp.state t)

    pub short : length out < needed → done (Err (ShortOutput needed)) out ≡ write_on sp out
    short h = ap (λ (n : ℕ). done (Err (ShortOutput n)) out) (sym image_size) ∙ sym (cond_true _ _ _ (lt-ltb (length out) (length image) (omega (arith, image_size)))) ∙ fits

    pub whole : needed ≤ length out → (s : List ℕ) → s ≡ N.stored out 0 image → done (Ok needed) s ≡ write_on sp out
    whole h s e = ap₂ (λ (n : ℕ) (x : List ℕ). done (Ok n) x) (sym image_size) e ∙ stored_fits image out (omega (arith, image_size)) ∙ fits
