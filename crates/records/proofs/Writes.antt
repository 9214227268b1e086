-- What the writer's code shows of specs/Sending.antt. Assumes nothing.
use mathlib.Core.Path.{◌≡◌, refl, sym, ap, ap₂, ◌∙◌, subst}
use mathlib.Core.Bool.{Bool, true, false, not}
use mathlib.Core.List.{List, [], ◌∷◌, ◌++◌, append_assoc, append-nil}
use Prim.Native.Nat.{ℕ, suc, ◌+◌, ◌-◌, ◌*◌, ◌^◌, ◌≤◌, ◌<◌}
use native.Mathlib.Nat.{zero-add}
use native.Mathlib.Omega.{arith}
use lib.ListN.{length, take, drop, length-append}
use lib.Seq.{drop-length, length-take-le}
use borrow.Author.Tests.{lt-ltb, le-ltb, le-leb, not-true, not-false}
use Rattle.lists.proofs.Tests.{cond_true, cond_false, cond_both, against}
use Rattle.ids.specs.Words.{odd_words}
use Rattle.records.specs.declared.requests.ReplaceRequest.{ReplaceRequest}
use Rattle.records.specs.declared.requests.Request.{Request}
use Rattle.std.specs.Prelude.{Result, Ok, Err}
use Rattle.records.specs.declared.sending.Unsent.{Unsent}
use Rattle.records.specs.declared.sending.Unsent.TheVariants.{BadList, ListTooLong, ShortOutput}
use Rattle.records.specs.Numbers.{part, splice, stored, Field, little, big, bytes_of}
use Rattle.records.specs.Layouts.{total, pack}
use Rattle.records.specs.Table.{with_units, length_with}
use Rattle.records.specs.Framing.{record_of}
use Rattle.records.specs.Codecs.{Codec, Counts, encode_by, counted}
use Rattle.records.specs.Wire.{active}
use Rattle.records.specs.Feeds.{numbered, breaking, replacement, replacement_rest}
use Rattle.records.specs.Sending.{normal_request, kind_of, has_list, ids_in, word_bytes, encode_counted, body_of, request_bytes, units_of, size_of, needed_on, leaves, written_by, send_on}
use Rattle.records.specs.Code.{Held}
use Rattle.records.proofs.Numbers.{length_bytes_of, length_splice, splice_splice}
use Rattle.records.proofs.Layouts.{splice_in_part}
use Rattle.records.proofs.Storing.{length_counted}
use Rattle.records.proofs.Words.{length_word_bytes, even_words}
use Rattle.records.proofs.Sends.{body_size, length_of_body, same_kind, normal_size, sent_size, is_odd, is_long, needed_list, Room, room_of, due}
use Rattle.records.proofs.Table.{length_short}

-- ---- the four answers of `needed`
module _ (r : Request) (ws : List ℕ) (b : Bool) (e : b ≡ has_list r) where
  -- the size, worked out with the units that go with it
  sized : (k n m : ℕ) → k ≡ kind_of r → n ≡ length_with k m → m ≡ units_of r ws → 2 + n ≡ size_of r ws
  unfolding size_of
  sized k n m ek en em = ap (λ (x : ℕ). 2 + x) (en ∙ ap₂ length_with ek em)

  pub needed_plain : not b ≡ true → (k n : ℕ) → k ≡ kind_of r → n ≡ length_with k 0 → (Ok (2 + n)) ≡ needed_on r ws
  needed_plain t k n ek en =
      let f : has_list r ≡ false = sym e ∙ not-true b t in
      ap Ok (sized k n 0 ek en (sym (cond_false (has_list r) (ids_in ws) 0 f))) ∙ sym (needed_list r ws (λ u. absurd (against f u)))

  module _ (t : not b ≡ false) where
    has : has_list r ≡ true
    has = sym e ∙ not-false b t

    module _ (o : Bool) (eo : o ≡ odd_words ws) where
      pub needed_odd : o ≡ true → (Err BadList) ≡ needed_on r ws
      needed_odd u = sym (is_odd r ws has (sym eo ∙ u))

      module _ (u : o ≡ false) where
        pub needed_long : 64 < ids_in ws → (Err ListTooLong) ≡ needed_on r ws
        needed_long h = sym (is_long r ws has (sym eo ∙ u) h)

        pub needed_fits : ids_in ws ≤ 64 → (k n : ℕ) → k ≡ kind_of r → n ≡ length_with k (ids_in ws) → (Ok (2 + n)) ≡ needed_on r ws
        needed_fits h k n ek en =
            ap Ok (sized k n (ids_in ws) ek en (sym (cond_true (has_list r) (ids_in ws) 0 has))) ∙ sym (needed_list r ws (λ v. (sym eo ∙ u, h)))

-- ---- what is stored, piece after piece
-- fields and numbers in two parts
pub pack_append : (fs gs : List Field) (vs ws : List ℕ) → length vs ≡ length fs → pack (fs ++ gs) (vs ++ ws) ≡ pack fs vs ++ pack gs ws
unfolding pack
pack_append [] gs [] ws e = refl
pack_append [] gs (v ∷ vs) ws e = absurd (omega (arith, e))
pack_append (f ∷ fs) gs [] ws e = absurd (omega (arith, e))
pack_append (f ∷ fs) gs (v ∷ vs) ws e = ap (λ (l : List ℕ). bytes_of f v ++ l) (pack_append fs gs vs ws (omega (arith, e))) ∙ sym (append_assoc (bytes_of f v) (pack fs vs) (pack gs ws))

-- a word, as `Runs` stores it
pub word_stored : (s : List ℕ) (at v : ℕ) → at + 8 ≤ length s → splice s at (bytes_of (big 8) v) ≡ stored s at (bytes_of (big 8) v)
unfolding stored
word_stored s at v h = sym (cond_true _ _ _ (le-leb (at + length (bytes_of (big 8) v)) (length s) (omega (arith, length_bytes_of (big 8) v))))

-- the sequence, then the body's part
pub numbered_stored : {R : Type 0} (c : Codec R) → Counts c → (q : ℕ) (r : R) (s s1 y : List ℕ) (n : ℕ) → n ≡ total c.layout → 4 + n ≤ length s
    → s1 ≡ splice s 0 (bytes_of (little 4) q) → y ≡ splice (part s1 4 n) 0 (encode_by c r)
    → take 4 s1 ++ (y ++ drop n (drop 4 s1)) ≡ splice s 0 (encode_by (numbered c) (q, r))
unfolding pack
numbered_stored c w q r s s1 y n en h e1 ey =
    let a : List ℕ = bytes_of (little 4) q in
    let la : length a ≡ 4 = length_bytes_of (little 4) q in
    let lb : length (encode_by c r) ≡ n = length_counted c w r ∙ sym en in
    let ls : length s1 ≡ length s = ap length e1 ∙ length_splice s 0 a (omega arith) in
    ap (λ (x : List ℕ). take 4 s1 ++ (x ++ drop n (drop 4 s1))) ey
    ∙ splice_in_part s1 4 n (encode_by c r) lb (omega arith)
    ∙ ap (λ (x : List ℕ). splice x 4 (encode_by c r)) e1
    ∙ splice_splice s 0 4 a (encode_by c r) la (omega arith)

pub numbered_counts : {R : Type 0} (c : Codec R) → Counts c → Counts (numbered c)
numbered_counts c w p = ap suc (w p.1)

-- a body, then its list
pub counted_stored : {R : Type 0} (c : Codec R) → Counts c → (r : R) (ws s s1 s2 : List ℕ) (m : ℕ) → m ≡ total c.layout → total c.layout + 2 + length ws * 8 ≤ length s
    → s1 ≡ splice s 0 (encode_by c r) → s2 ≡ splice s1 m (bytes_of (little 2) (ids_in ws) ++ word_bytes ws)
    → s2 ≡ splice s 0 (encode_counted c r ws)
unfolding pack
counted_stored c w r ws s s1 s2 m em h e1 e2 =
    let a : List ℕ = encode_by c r in
    let b : List ℕ = bytes_of (little 2) (ids_in ws) in
    let la : length a ≡ total c.layout = length_counted c w r in
    let lb : length (b ++ word_bytes ws) ≡ 2 + length ws * 8 = length-append b (word_bytes ws) ∙ ap₂ ◌+◌ (length_bytes_of (little 2) (ids_in ws)) (length_word_bytes ws) in
    let two : encode_by (counted c) (r, ids_in ws) ≡ a ++ b = pack_append c.layout (little 2 ∷ []) (c.numbers r) (ids_in ws ∷ []) (w r) ∙ ap (λ (l : List ℕ). a ++ l) (append-nil b) in
    e2 ∙ ap (λ (k : ℕ). splice s1 k (b ++ word_bytes ws)) em ∙ ap (λ (x : List ℕ). splice x (total c.layout) (b ++ word_bytes ws)) e1
    ∙ ap (λ (m : ℕ). splice (splice s 0 a) m (b ++ word_bytes ws)) (sym (zero-add (total c.layout)))
    ∙ splice_splice s 0 (total c.layout) a (b ++ word_bytes ws) la (omega arith)
    ∙ ap (splice s 0) (sym (append_assoc a b (word_bytes ws)) ∙ ap (λ (l : List ℕ). l ++ word_bytes ws) (sym two))

-- a lock, then "broken by 4, broken at 8"
pub replacement_stored : (r : ReplaceRequest) (s s1 s2 s3 : List ℕ) → 99 ≤ length s
    → s1 ≡ splice s 0 (encode_by active r.lock) → s2 ≡ splice s1 87 (bytes_of (little 4) r.breaker) → s3 ≡ splice s2 91 (bytes_of (little 8) r.broken)
    → s3 ≡ splice s 0 (encode_by replacement r)
unfolding pack
replacement_stored r s s1 s2 s3 h e1 e2 e3 =
    let a : List ℕ = encode_by active r.lock in
    let x : List ℕ = bytes_of (little 4) r.breaker in
    let y : List ℕ = bytes_of (little 8) r.broken in
    let la : length a ≡ 87 = length_counted active (λ p. refl) r.lock in
    let lx : length x ≡ 4 = length_bytes_of (little 4) r.breaker in
    let ly : length y ≡ 8 = length_bytes_of (little 8) r.broken in
    let lax : length (a ++ x) ≡ 91 = length-append a x ∙ ap₂ ◌+◌ la lx in
    let three : encode_by replacement r ≡ (a ++ x) ++ y =
    pack_append active.layout breaking.layout (active.numbers r.lock) (breaking.numbers (replacement_rest r)) refl
    ∙ ap (λ (l : List ℕ). a ++ (x ++ l)) (append-nil y) ∙ sym (append_assoc a x y) in
    e3 ∙ ap (λ (z : List ℕ). splice z 91 y) (e2 ∙ ap (λ (z : List ℕ). splice z 87 x) e1 ∙ splice_splice s 0 87 a x la (omega arith))
    ∙ splice_splice s 0 91 (a ++ x) y lax (omega arith) ∙ ap (splice s 0) (sym three)

-- ---- so much room as `put_body` asks for
pub held_room : (r x : Request) (ws : List ℕ) (n : ℕ) → r ≡ x → Held r ws n → body_size x ws ≤ n
held_room r x ws n e k = let h = (subst (λ (z : Request). Held z ws n) e k).1 in omega (arith, length_of_body 0 x ws, h)

pub held_few : (r x : Request) (ws : List ℕ) (n : ℕ) → r ≡ x → has_list x ≡ true → Held r ws n → length ws ≤ 128
held_few r x ws n e t k = (subst (λ (z : Request). Held z ws n) e k).0 t

-- ---- a record of n bytes
module _ (r : Request) (ws : List ℕ) (n : ℕ) (k : Room r ws n) where
  pub body_room : (q : ℕ) → n ≡ length (body_of q (normal_request r) ws) + 4
  unfolding size_of
  body_room q = omega (arith, k.size, normal_size q r ws (λ t. (k.list t).0))

  pub short : n < 2 ^ 16 + 2
  unfolding size_of length_with
  short =
      let w = due r in
      let u : units_of r ws ≤ 64 = cond_both (λ (m : ℕ). m ≤ 64) (ids_in ws) 0 (has_list r) (λ t. (k.list t).1) (λ t. omega arith) in
      omega (arith, k.size, ap (with_units (units_of r ws)) w.known, length_short (kind_of r) w.row w.known (units_of r ws) u)

  pub room_held : (x : Request) (m : ℕ) → x ≡ normal_request r → m ≡ n - 4 → Held x ws m
  room_held x m ex e =
      subst (λ (z : Request). Held z ws m) (sym ex)
      ((λ t. let l = k.list (sym (same_kind r).1 ∙ t) in omega (arith, even_words ws l.0, l.1)), omega (arith, body_room 0, e))

-- ---- the record: its length, its kind, its body
splice_whole : (s b : List ℕ) → length b ≡ length s → splice s 0 b ≡ b
unfolding splice
splice_whole s b e = ap (λ (n : ℕ). b ++ drop n s) (zero-add (length b) ∙ e) ∙ ap (λ (l : List ℕ). b ++ l) (drop-length s) ∙ append-nil b

pub record_put_lem : (q : ℕ) (r x : Request) (ws s s1 y : List ℕ) (k m : ℕ) → needed_on r ws ≡ Ok (length s) → k ≡ kind_of r → x ≡ normal_request r → m ≡ length s - 4
    → s1 ≡ splice s 0 (bytes_of (little 2) (length s - 2) ++ bytes_of (little 2) k) → y ≡ splice (part s1 4 m) 0 (body_of q x ws)
    → take 4 s1 ++ (y ++ drop m (drop 4 s1)) ≡ request_bytes q r ws
unfolding request_bytes record_of
record_put_lem q r x ws s s1 y k m e ek ex em e1 ey =
    let body : List ℕ = body_of q (normal_request r) ws in
    let a : List ℕ = bytes_of (little 2) (length s - 2) in
    let b : List ℕ = bytes_of (little 2) k in
    let n : length s ≡ length body + 4 = body_room r ws (length s) (room_of r ws (length s) e) q in
    let ab : length (a ++ b) ≡ 4 = simp (length-append, length_bytes_of) in
    let ls : length s1 ≡ length s = ap length e1 ∙ length_splice s 0 (a ++ b) (omega (arith, n)) in
    ap (λ (z : List ℕ). take 4 s1 ++ (z ++ drop m (drop 4 s1))) (ey ∙ ap (λ (z : Request). splice (part s1 4 m) 0 (body_of q z ws)) ex)
    ∙ splice_in_part s1 4 m body (omega (arith, n, em)) (omega (arith, n, em, ls))
    ∙ ap (λ (z : List ℕ). splice z 4 body) e1
    ∙ splice_splice s 0 4 (a ++ b) body ab (omega (arith, n))
    ∙ splice_whole s ((a ++ b) ++ body) (length-append (a ++ b) body ∙ omega (arith, ab, n))
    ∙ append_assoc a b body
    ∙ ap₂ (λ (u v : ℕ). bytes_of (little 2) u ++ (bytes_of (little 2) v ++ body)) (let z : length s - 2 ≡ length body + 2 = omega (arith, n) in z) ek

-- ---- the answers
module _ (q : ℕ) (r : Request) (ws out : List ℕ) (t : Result ℕ Unsent) (e : t ≡ needed_on r ws) where
  by_needed : (x : Result ℕ Unsent) → t ≡ x → written_by (request_bytes q r ws) out x ≡ send_on q r ws out
  unfolding send_on
  by_needed x f = ap (written_by (request_bytes q r ws) out) (sym f ∙ e)

  pub sent_refused : (x : Unsent) → t ≡ Err x → leaves (Err x) out ≡ send_on q r ws out
  sent_refused x f = by_needed (Err x) f

  module _ (n : ℕ) (f : t ≡ Ok n) where
    pub sent_short : length out < n → leaves (Err (ShortOutput n)) out ≡ send_on q r ws out
    sent_short h = sym (cond_true _ _ _ (lt-ltb (length out) n h)) ∙ by_needed (Ok n) f

    pub sent_part : n ≤ length out → needed_on r ws ≡ Ok (length (take (n - 0) out))
    sent_part h = sym e ∙ f ∙ ap Ok (let z : n ≡ n - 0 = omega arith in z ∙ sym (length-take-le (n - 0) out (omega arith)))

    pub sent_done : n ≤ length out → (y : List ℕ) → y ≡ request_bytes q r ws → leaves (Ok n) (y ++ drop (n - 0) out) ≡ send_on q r ws out
    unfolding splice
    sent_done h y ey =
        let k = room_of r ws n (sym e ∙ f) in
        let l : length (request_bytes q r ws) ≡ n = sent_size q r ws (λ u. (k.list u).0) ∙ sym k.size in
        ap₂ (λ (z : List ℕ) (m : ℕ). leaves (Ok n) (z ++ drop m out)) ey (let z : n - 0 ≡ 0 + length (request_bytes q r ws) = omega (arith, l) in z)
        ∙ sym (cond_false _ _ _ (le-ltb (length out) n h)) ∙ by_needed (Ok n) f
