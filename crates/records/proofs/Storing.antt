-- Whole records stored in a slice, each law once for every kind. Assumes nothing.
use mathlib.Core.Path.{◌≡◌, sym, ap, ◌∙◌}
use mathlib.Core.Bool.{Bool, true, false, not}
use mathlib.Core.List.{List, ◌++◌, append_assoc}
use Prim.Native.Nat.{ℕ, ◌+◌, ◌≤◌, ◌<◌}
use native.Mathlib.Omega.{arith}
use lib.ListN.{length, take, drop, length-append}
use lib.Dec.{leb}
use borrow.Author.Tests.{le-leb, lt-leb, leb-true, leb-false, not-true, not-false}
use Rattle.lists.proofs.Tests.{cond_true, cond_false}
use Rattle.records.specs.Numbers.{part, splice, stored, little, bytes_of}
use Rattle.records.specs.Layouts.{total, emit}
use Rattle.records.specs.Table.{length_of}
use Rattle.records.specs.Framing.{record_of}
use Rattle.records.specs.Codecs.{Codec, Counts, encode_by}
use Rattle.records.proofs.Numbers.{length_bytes_of, length_splice, splice_splice}
use Rattle.records.proofs.Layouts.{length_pack, emit_pack, splice_in_part}
use Rattle.records.proofs.Codecs.{Lawful}
use Rattle.records.proofs.Framing.{length_record}

-- a test for room, negated in the code
pub room : (b : Bool) (m n : ℕ) → b ≡ leb m n → not b ≡ false → m ≤ n
room b m n e t = leb-true m n (sym e ∙ not-false b t)

pub no_room : (b : Bool) (m n : ℕ) → b ≡ leb m n → not b ≡ true → n < m
no_room b m n e t = leb-false m n (sym e ∙ not-true b t)

-- length and kind
pub frame_stored : (s : List ℕ) (at n k : ℕ) → at + 4 ≤ length s
    → splice (splice s at (bytes_of (little 2) n)) (at + 2) (bytes_of (little 2) k) ≡ splice s at (bytes_of (little 2) n ++ bytes_of (little 2) k)
frame_stored s at n k h = splice_splice s at 2 (bytes_of (little 2) n) (bytes_of (little 2) k) (length_bytes_of (little 2) n) (omega (arith, length_bytes_of (little 2) k))

module _ {R : Type 0} (c : Codec R) (w : Counts c) where
  pub length_counted : (r : R) → length (encode_by c r) ≡ total c.layout
  length_counted r = length_pack c.layout (c.numbers r) (w r)

  -- the fields stored one after the other are the body
  pub body_stored : (r : R) (d : List ℕ) → total c.layout ≤ length d → emit c.layout (c.numbers r) d 0 ≡ splice d 0 (encode_by c r)
  body_stored r d h = emit_pack c.layout (c.numbers r) d 0 (w r) (omega arith)

  module _ (k : ℕ) (e : length_of k ≡ total c.layout + 2) where
    length_whole : (r : R) → length (record_of k (encode_by c r)) ≡ total c.layout + 4
    length_whole r = length_record k (encode_by c r) ∙ ap (λ (n : ℕ). n + 4) (length_counted r)

    not_stored : (s : List ℕ) (at : ℕ) (r : R) → length s < at + (total c.layout + 4) → s ≡ stored s at (record_of k (encode_by c r))
    unfolding stored
    not_stored s at r h = sym (cond_false _ _ _ (lt-leb (at + length (record_of k (encode_by c r))) (length s) (omega (arith, length_whole r))))

    -- length, kind and body, each stored where it belongs, are the record
    record_stored : (s s1 y : List ℕ) (at m : ℕ) (r : R) → at + (total c.layout + 4) ≤ length s
        → s1 ≡ splice s at (bytes_of (little 2) (length_of k) ++ bytes_of (little 2) k) → m ≡ total c.layout → y ≡ splice (part s1 (at + 4) m) 0 (encode_by c r)
        → take (at + 4) s1 ++ (y ++ drop m (drop (at + 4) s1)) ≡ stored s at (record_of k (encode_by c r))
    unfolding stored record_of
    record_stored s s1 y at m r h e1 em ey =
        let a : List ℕ = bytes_of (little 2) (length_of k) in
        let b : List ℕ = bytes_of (little 2) k in
        let body : List ℕ = encode_by c r in
        let ab : length (a ++ b) ≡ 4 = simp (length-append, length_bytes_of) in
        let lb : length body ≡ total c.layout = length_counted r in
        let ls : length s1 ≡ length s = ap length e1 ∙ length_splice s at (a ++ b) (omega arith) in
        let n : length_of k ≡ length body + 2 = e ∙ ap (λ (x : ℕ). x + 2) (sym lb) in
        ap (λ (x : List ℕ). take (at + 4) s1 ++ (x ++ drop m (drop (at + 4) s1))) ey
        ∙ splice_in_part s1 (at + 4) m body (lb ∙ sym em) (omega arith)
        ∙ ap (λ (x : List ℕ). splice x (at + 4) body) e1
        ∙ splice_splice s at 4 (a ++ b) body ab (omega arith)
        ∙ ap (splice s at) (append_assoc a b body ∙ ap (λ (x : ℕ). bytes_of (little 2) x ++ (b ++ body)) n)
        ∙ sym (cond_true _ _ _ (le-leb (at + length (record_of k body)) (length s) (omega (arith, length_whole r))))

    -- a writer, by its test for room
    module _ (s : List ℕ) (at : ℕ) (r : R) (b : Bool) (q : b ≡ leb (at + (total c.layout + 4)) (length s)) where
      pub left_alone : not b ≡ true → s ≡ stored s at (record_of k (encode_by c r))
      left_alone t = not_stored s at r (no_room b _ _ q t)

      -- the body's part has so many bytes
      pub put_whole : not b ≡ false → (m : ℕ) → m ≡ total c.layout → (s1 y : List ℕ) → s1 ≡ splice s at (bytes_of (little 2) (length_of k) ++ bytes_of (little 2) k) → y ≡ splice (part s1 (at + 4) m) 0 (encode_by c r)
          → take (at + 4) s1 ++ (y ++ drop m (drop (at + 4) s1)) ≡ stored s at (record_of k (encode_by c r))
      put_whole t m em s1 y e1 ey = record_stored s s1 y at m r (room b _ _ q t) e1 em ey

pub length_body : {R : Type 0} (c : Codec R) → Lawful c → (r : R) → length (encode_by c r) ≡ total c.layout
length_body c w = length_counted c w.count
