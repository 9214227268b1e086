-- What is written reads back: a record that stands anywhere, a run of records, the lists of a whole image.
-- Assumes nothing.
use mathlib.Core.Path.{◌≡◌, refl, sym, ap, ◌∙◌}
use mathlib.Core.Bool.{true, cond}
use mathlib.Core.List.Memᴰ
use mathlib.Core.List.{List, [], ◌∷◌, ◌++◌, append_assoc, append-nil}
use Prim.Native.Nat.{ℕ, suc, ◌+◌, ◌*◌, ◌-◌}
use native.Mathlib.Nat.{mul-zero}
use native.Mathlib.Omega.{arith}
use lib.ListN.{length, length-append}
use lib.Dec.{ltb}
use borrow.Author.Tests.{le-ltb}
use Rattle.lists.specs.Tests.{Yes}
use Rattle.lists.specs.Lists.{Mem, from, ascending}
use Rattle.lists.proofs.Tests.{cond_false}
use Rattle.lists.proofs.Lists.{from→, rest}
use Rattle.state.specs.declared.ActiveLock.{ActiveLock}
use Rattle.state.specs.declared.DefunctLock.{DefunctLock}
use Rattle.state.specs.Locks.{akey, dkey}
use Rattle.state.specs.Model.{Model}
use Rattle.std.specs.Prelude.{Ok, Err}
use Rattle.records.specs.declared.bodies.Head.{Head}
use Rattle.records.specs.Numbers.{part, bytes_of_all}
use Rattle.records.specs.Layouts.{total}
use Rattle.records.specs.Codecs.{Codec, decode_by, encode_by}
use Rattle.records.specs.Table.{possible, at_head}
use Rattle.records.specs.Framing.{span_of, frame_at, record_of}
use Rattle.records.specs.Wire as wire
use Rattle.records.proofs.Codecs.{Well, round_trips}
use Rattle.records.proofs.Table.{possible_sum}
use Rattle.records.proofs.Framing.{frame_record, body_in_lem}
use Rattle.records.proofs.Storing.{length_body}
use Rattle.image.specs.declared.ImageRefusal.TheVariants.{BadField, BadOrder}
use Rattle.image.specs.Image.{Got, and_then, of_frame, record_at, Listed, active_list, defunct_list, ahead, run_at, Held, held_of, lists_at, held_by, held_in, bytes_of_one, bytes_of_run, head_of, image_of}
use Rattle.image.proofs.Stepping.{got_one}
use Rattle.image.proofs.Writes.{Plain, head_plain, active_plain, defunct_plain, length_whole, length_run}

-- ---- a record
module _ {R : Type 0} {k due : ℕ} (c : Codec R) (p : Plain k due c) where
  can_be : (r : R) → Yes (possible p.row (length (encode_by c r) + 2))
  can_be r =
      let z : length (encode_by c r) + 2 ≡ p.row.base + p.row.unit * 0 = omega (arith, length_body c p.lawful r, p.base, mul-zero p.row.unit) in
      ap (possible p.row) z ∙ possible_sum p.row 0 (omega arith)

  pub record_there : (r : R) → Well c r → (pre post : List ℕ) (at : ℕ) → length pre ≡ at → record_at c due (pre ++ (record_of k (encode_by c r) ++ post)) at ≡ Ok (r, at + (total c.layout + 4))
  unfolding record_at
  record_there r w pre post at e =
      let b : List ℕ = encode_by c r in
      let s : List ℕ = pre ++ (record_of k b ++ post) in
      let next : ℕ = at + 2 + (length b + 2) in
      let f : frame_at s at due ≡ (Ok (span_of p.row (length b + 2) at)) = ap (frame_at s at) (sym p.place) ∙ frame_record p.row k p.known pre b post at e (can_be r) in
      ap (of_frame c s at) f
      ∙ ap (decode_by c (λ (x : R). Ok (x, next)) (Err (BadField at))) (ap (part s (at + 4)) (let z : length b + 2 - 2 ≡ length b = omega arith in z) ∙ body_in_lem k pre b post at e)
      ∙ (round_trips c (λ (x : R). Ok (x, next)) (Err (BadField at)) p.lawful record { one = λ x y q. (got_one q).0; never = λ x q. cc }).there r w
      ∙ ap ((λ n. Ok (r, n))) (let z : next ≡ at + (total c.layout + 4) = omega (arith, length_body c p.lawful r) in z)

-- ---- a run
module _ {R : Type 0} (e : Listed R) (p : Plain e.kind e.place e.codec) where
  abbrev following : List ℕ → ℕ → ℕ → ℕ → R → ℕ → Got (List R)
  following s n low at r next = cond (ltb (e.id r) low) (Err (BadOrder at)) (ahead e r (run_at e true s n (suc (e.id r)) next))

  pub run_there : (l : List R) (low : ℕ) → ((r : R) → Mem r l → Well e.codec r) → Yes (from e.id low l) → (pre post : List ℕ) (at : ℕ) → length pre ≡ at
      → run_at e true (pre ++ (bytes_of_run e l ++ post)) (length l) low at ≡ Ok (l, at + length l * (total e.codec.layout + 4))
  unfolding run_at bytes_of_all and_then
  run_there [] low w t pre post at q = ap ((λ n. Ok ([], n))) (let z : at ≡ at + 0 * (total e.codec.layout + 4) = omega arith in z)
  run_there (r ∷ rs) low w t pre post at q =
      let one : List ℕ = bytes_of_one e r in
      let size : ℕ = total e.codec.layout + 4 in
      let s : List ℕ = pre ++ ((one ++ bytes_of_run e rs) ++ post) in
      let here : s ≡ pre ++ (one ++ (bytes_of_run e rs ++ post)) = ap (λ (x : List ℕ). pre ++ x) (append_assoc one (bytes_of_run e rs) post) in
      let moved : s ≡ (pre ++ one) ++ (bytes_of_run e rs ++ post) = here ∙ sym (append_assoc pre one (bytes_of_run e rs ++ post)) in
      let front : length (pre ++ one) ≡ at + size = length-append pre one ∙ omega (arith, length_whole e.codec p r) in
      let head : record_at e.codec e.place s at ≡ Ok (r, at + size) =
      ap (λ (x : List ℕ). record_at e.codec e.place x at) here ∙ record_there e.codec p r (w r (Memᴰ.head refl)) pre (bytes_of_run e rs ++ post) at q in
      let others : run_at e true s (length rs) (suc (e.id r)) (at + size) ≡ Ok (rs, at + size + length rs * size) =
      ap (λ (x : List ℕ). run_at e true x (length rs) (suc (e.id r)) (at + size)) moved
      ∙ run_there rs (suc (e.id r)) (λ x m. w x (Memᴰ.tail m)) (rest e.id low r rs t) (pre ++ one) post (at + size) front in
      ap (λ (g : Got R). and_then g (following s (length rs) low at)) head
      ∙ cond_false _ _ _ (le-ltb (e.id r) low (from→ e.id low {l = r ∷ rs} t (Memᴰ.head refl)))
      ∙ ap (ahead e r) others
      ∙ ap ((λ n. Ok ((r ∷ rs), n))) (let z : at + size + length rs * size ≡ at + suc (length rs) * size = omega arith in z)

-- ---- the lists of a whole image
pub record WellHeld (m : Model) (n : ℕ) : Type 0 where
  pub head : Well wire.head (head_of m n)
  pub active : (a : ActiveLock) → Mem a m.active → Well wire.active a
  pub defunct : (d : DefunctLock) → Mem d m.defunct → Well wire.defunct d
  pub rises : Yes (ascending akey m.active)
  pub climbs : Yes (ascending dkey m.defunct)

module _ (m : Model) (n : ℕ) (w : WellHeld m n) where
  abbrev h : List ℕ
  h = record_of 1 (encode_by wire.head (head_of m n))

  abbrev a : List ℕ
  a = bytes_of_run active_list m.active

  abbrev d : List ℕ
  d = bytes_of_run defunct_list m.defunct

  abbrev s : List ℕ
  s = h ++ (a ++ d)

  abbrev second : ℕ
  second = 20 + length m.active * 91

  abbrev end : ℕ
  end = second + length m.defunct * 104

  head_there : record_at wire.head at_head s 0 ≡ Ok (head_of m n, 20)
  head_there = record_there wire.head head_plain (head_of m n) w.head [] (a ++ d) 0 refl

  active_there : run_at active_list true s (length m.active) 0 20 ≡ Ok (m.active, second)
  active_there = run_there active_list active_plain m.active 0 w.active w.rises h d 20 (length_whole wire.head head_plain (head_of m n))

  defunct_there : run_at defunct_list true s (length m.defunct) 0 second ≡ Ok (m.defunct, end)
  defunct_there =
      ap (λ (x : List ℕ). run_at defunct_list true x (length m.defunct) 0 second) (let z : s ≡ (h ++ a) ++ (d ++ []) = sym (append_assoc h a d) ∙ ap (λ (x : List ℕ). (h ++ a) ++ x) (sym (append-nil d)) in z)
      ∙ run_there defunct_list defunct_plain m.defunct 0 w.defunct w.climbs (h ++ a) [] second
      (length-append h a ∙ omega (arith, length_whole wire.head head_plain (head_of m n), length_run active_list active_plain m.active))

  ends : length s ≡ end
  ends = omega (arith, length-append h (a ++ d), length-append a d, length_whole wire.head head_plain (head_of m n), length_run active_list active_plain m.active, length_run defunct_list defunct_plain m.defunct)

  abbrev last : List ActiveLock → List DefunctLock → ℕ → Got Held
  last xs ys e = cond (ltb e (length s)) (Err (BadOrder e)) (Ok (held_of (head_of m n) xs ys, e))

  pub held_there : held_in (image_of m n) ≡ Ok (record { model = m; expected = n }, end)
  unfolding held_by lists_at image_of and_then
  held_there =
      ap (λ (g : Got Head). and_then g (lists_at true s)) head_there
      ∙ ap (λ (g : Got (List ActiveLock)). and_then g (λ xs next. and_then (run_at defunct_list true s (length m.defunct) 0 next) (last xs))) active_there
      ∙ ap (λ (g : Got (List DefunctLock)). and_then g (last m.active)) defunct_there
      ∙ cond_false _ _ _ (le-ltb end (length s) (omega (arith, ends)))
