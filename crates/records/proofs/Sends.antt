-- The laws of specs/Sending.antt: the record's size, what is written reads back, what was read writes back. Assumes nothing.
use mathlib.Core.Path.{◌≡◌, refl, sym, ap, ap₂, ◌∙◌, subst}
use mathlib.Core.Bool.{Bool, true, false, cond}
use mathlib.Core.List.{List, [], ◌∷◌, ◌++◌}
use Prim.Native.Nat.{ℕ, ◌+◌, ◌-◌, ◌*◌, ◌^◌, ◌≤◌, ◌<◌}
use native.Mathlib.Nat.{zero-add}
use native.Mathlib.Omega.{arith}
use lib.ListN.{length, drop, length-append, length-drop}
use lib.Seq.{take_at, drop_at}
use lib.Dec.{lit<, eqb, ltb}
use borrow.Author.Tests.{eqb-true, lt-ltb, le-ltb, ltb-false}
use Rattle.lists.specs.Tests.{◌and◌, Yes, No}
use Rattle.lists.proofs.Tests.{against, and_i, and_l, and_r, and_t, and_f, by, cond_true, cond_false, cond_both}
use Rattle.ids.specs.Words.{odd_words}
use Rattle.records.specs.declared.kinds.Kind.{Kind}
use Rattle.std.specs.Prelude.{Option, Ok, Err, Some, None}
use Rattle.records.specs.declared.frame.Frame.{Frame}
use Rattle.records.specs.declared.requests.Request.{Request}
use Rattle.records.specs.declared.requests.Request.TheVariants.{Insert, InsertVehicle, Renew, Delete, BeginExpiration, Replace, Acknowledge, ExpireDefunct}
use Rattle.records.specs.declared.sending.Unsent.TheVariants.{BadList, ListTooLong}
use Rattle.records.specs.Numbers.{little, part, splice}
use Rattle.records.specs.Layouts.{total}
use Rattle.records.specs.Table.{rows, row_of, units_in, possible, with_units, length_with, in_feed}
use Rattle.records.specs.Framing.{frame_at, record_of}
use Rattle.records.specs.Codecs.{Codec, in_body, decode_by, encode_by, decode_counted, counted, number}
use Rattle.records.specs.Wire.{active}
use Rattle.records.specs.Feeds.{numbered, target, renewal, expiration, replacement, asked, request_of, list_in, words_in, past_count}
use Rattle.records.specs.Sending.{normal_request, kind_of, has_list, ids_in, word_bytes, encode_counted, body_of, request_bytes, units_of, size_of, needed_on, leaves, written_by, send_on}
use Rattle.records.specs.Ranges.{InFields, InTypes, IdList, Sendable}
use Rattle.records.proofs.Numbers.{Bytes, bytes_part, bytes_drop, length_part}
use Rattle.records.proofs.Layouts.{fit_append}
use Rattle.records.proofs.Table.{rule, units_none, units_sum, possible_sum}
use Rattle.records.proofs.Framing.{whole, length_record, frame_record, body_in_lem, record_part}
use Rattle.records.proofs.Codecs.{Lawful, Faithful, Well, RoundTrips, CountedTrips}
use Rattle.records.proofs.Wire.{and_true, active_lawful, active_faithful}
use Rattle.records.proofs.Feeds.{number_lawful, numbered_lawful, counted_lawful, target_lawful, renewal_lawful, expiration_lawful, replacement_lawful, numbered_faithful, counted_faithful, renewal_faithful, replacement_faithful}
use Rattle.records.proofs.Storing.{length_body}
use Rattle.records.proofs.Trips.{insert_trips, insert_vehicle_trips, renew_trips, delete_trips, begin_expiration_trips, replace_trips, acknowledge_trips, expire_defunct_trips}
use Rattle.records.proofs.Fits.{fit_split}
use Rattle.records.proofs.Normal.{Right, request_right, request_kept, request_fits}
use Rattle.records.proofs.Words.{length_word_bytes, even_words, words_there, words_back}

-- ---- sizes
abbrev pub Even : Request → List ℕ → Type 0
Even r ws = has_list r ≡ true → No (odd_words ws)

length_counted : {R : Type 0} (c : Codec R) → Lawful c → (r : R) (ws : List ℕ) → length (encode_counted c r ws) ≡ total (counted c).layout + length ws * 8
length_counted c w r ws =
    length-append (encode_by (counted c) (r, ids_in ws)) (word_bytes ws)
    ∙ ap₂ ◌+◌ (length_body (counted c) (counted_lawful 2 c w) (r, ids_in ws)) (length_word_bytes ws)

-- of each kind
abbrev pub body_size : Request → List ℕ → ℕ
body_size (Insert a) ws = 91
body_size (InsertVehicle a) ws = 93 + length ws * 8
body_size (Renew r) ws = 41
body_size (Delete i) ws = 20
body_size (BeginExpiration e) ws = 28
body_size (Replace r) ws = 105 + length ws * 8
body_size (Acknowledge i) ws = 20
body_size (ExpireDefunct now) ws = 12

pub length_of_body : (q : ℕ) (r : Request) (ws : List ℕ) → length (body_of q r ws) ≡ body_size r ws
length_of_body q (Insert a) ws = length_body (numbered active) (numbered_lawful active active_lawful) (q, a)
length_of_body q (InsertVehicle a) ws = length_counted (numbered active) (numbered_lawful active active_lawful) (q, a) ws
length_of_body q (Renew r) ws = length_body (numbered renewal) (numbered_lawful renewal renewal_lawful) (q, r)
length_of_body q (Delete i) ws = length_body (numbered target) (numbered_lawful target target_lawful) (q, i)
length_of_body q (BeginExpiration e) ws = length_body (numbered expiration) (numbered_lawful expiration expiration_lawful) (q, e)
length_of_body q (Replace r) ws = length_counted (numbered replacement) (numbered_lawful replacement replacement_lawful) (q, r) ws
length_of_body q (Acknowledge i) ws = length_body (numbered target) (numbered_lawful target target_lawful) (q, i)
length_of_body q (ExpireDefunct now) ws = length_body (numbered (number 8)) (numbered_lawful (number 8) (number_lawful 8)) (q, now)

-- the table's length
sized : (r : Request) (ws : List ℕ) → Even r ws → body_size r ws + 2 ≡ length_with (kind_of r) (units_of r ws)
unfolding length_with row_of rows
sized (Insert a) ws h = refl
sized (InsertVehicle a) ws h = omega (arith, even_words ws (h refl))
sized (Renew r) ws h = refl
sized (Delete i) ws h = refl
sized (BeginExpiration e) ws h = refl
sized (Replace r) ws h = omega (arith, even_words ws (h refl))
sized (Acknowledge i) ws h = refl
sized (ExpireDefunct now) ws h = refl

body_size_lem : (q : ℕ) (r : Request) (ws : List ℕ) → Even r ws → length (body_of q r ws) + 2 ≡ length_with (kind_of r) (units_of r ws)
body_size_lem q r ws h = ap (λ (n : ℕ). n + 2) (length_of_body q r ws) ∙ sized r ws h

-- a normal request is of the same kind
pub same_kind : (r : Request) → (kind_of (normal_request r) ≡ kind_of r) × (has_list (normal_request r) ≡ has_list r)
same_kind (Insert a) = (refl, refl)
same_kind (InsertVehicle a) = (refl, refl)
same_kind (Renew r) = (refl, refl)
same_kind (Delete i) = (refl, refl)
same_kind (BeginExpiration e) = (refl, refl)
same_kind (Replace r) = (refl, refl)
same_kind (Acknowledge i) = (refl, refl)
same_kind (ExpireDefunct now) = (refl, refl)

pub normal_size : (q : ℕ) (r : Request) (ws : List ℕ) → Even r ws → length (body_of q (normal_request r) ws) + 2 ≡ length_with (kind_of r) (units_of r ws)
normal_size q r ws h =
    let s = same_kind r in
    body_size_lem q (normal_request r) ws (λ t. h (sym s.1 ∙ t)) ∙ ap₂ (λ (k : ℕ) (b : Bool). length_with k (cond b (ids_in ws) 0)) s.0 s.1

pub sent_size : (q : ℕ) (r : Request) (ws : List ℕ) → Even r ws → length (request_bytes q r ws) ≡ size_of r ws
unfolding request_bytes size_of
sent_size q r ws h = length_record (kind_of r) (body_of q (normal_request r) ws) ∙ omega (arith, normal_size q r ws h)

-- ---- "14, 29": the list's conditions, and nothing else, decide whether there is a record
module _ (r : Request) (ws : List ℕ) where
  pub is_odd : has_list r ≡ true → Yes (odd_words ws) → needed_on r ws ≡ Err BadList
  unfolding needed_on
  is_odd t o = cond_true _ _ _ (and_i _ _ t o)

  pub is_long : has_list r ≡ true → No (odd_words ws) → 64 < ids_in ws → needed_on r ws ≡ Err ListTooLong
  unfolding needed_on
  is_long t o h = cond_false _ _ _ (and_t _ _ t ∙ o) ∙ cond_true _ _ _ (and_i _ _ t (lt-ltb _ _ h))

  pub needed_list : (has_list r ≡ true → No (odd_words ws) × (ids_in ws ≤ 64)) → needed_on r ws ≡ Ok (size_of r ws)
  unfolding needed_on
  needed_list h = by (has_list r) _
      (λ t. cond_false _ _ _ (and_t _ _ t ∙ (h t).0) ∙ cond_false _ _ _ (and_t _ _ t ∙ le-ltb _ _ (h t).1))
      (λ t. cond_false _ _ _ (and_f _ (odd_words ws) t) ∙ cond_false _ _ _ (and_f _ (ltb 64 (ids_in ws)) t))

-- and where there is one, they hold
pub record Room (r : Request) (ws : List ℕ) (n : ℕ) : Type 0 where
  pub list : has_list r ≡ true → No (odd_words ws) × (ids_in ws ≤ 64)
  pub size : n ≡ size_of r ws

room_by : (b o l : Bool) (m n : ℕ) → cond (b and o) (Err BadList) (cond (b and l) (Err ListTooLong) (Ok m)) ≡ Ok n → (b ≡ true → No o × No l) × (n ≡ m)
unfolding ◌and◌
room_by true true l m n e = absurd (let z : ◌≡◌ {A = ℕ} 0 1 = cc in omega arith)
room_by true false true m n e = absurd (let z : ◌≡◌ {A = ℕ} 0 1 = cc in omega arith)
room_by true false false m n e = ((λ t. (refl, refl)), cc)
room_by false o l m n e = ((λ t. absurd (against refl t)), cc)

pub room_of : (r : Request) (ws : List ℕ) (n : ℕ) → needed_on r ws ≡ Ok n → Room r ws n
unfolding needed_on
room_of r ws n e =
    let k = room_by (has_list r) (odd_words ws) (ltb 64 (ids_in ws)) (size_of r ws) n e in
    record { list = λ t. ((k.0 t).0, ltb-false 64 (ids_in ws) (k.0 t).1); size = k.1 }

-- ---- what the writer writes
module _ (q : ℕ) (r : Request) (ws : List ℕ) (k : Sendable q r ws) where
  even : Even r ws
  even t = (k.list t).even

  needed_sendable : needed_on r ws ≡ Ok (size_of r ws)
  needed_sendable = needed_list r ws (λ t. ((k.list t).even, (k.list t).few))

  pub size_sendable : length (request_bytes q r ws) ≡ size_of r ws
  size_sendable = sent_size q r ws even

  -- into a buffer with room: the record, and the rest of the buffer
  pub sent_done : (out : List ℕ) → size_of r ws ≤ length out → send_on q r ws out ≡ leaves (Ok (size_of r ws)) (request_bytes q r ws ++ drop (size_of r ws) out)
  unfolding send_on splice
  sent_done out h =
      ap (written_by (request_bytes q r ws) out) needed_sendable
      ∙ cond_false _ _ _ (le-ltb _ _ h)
      ∙ ap (λ (n : ℕ). leaves (Ok (size_of r ws)) (request_bytes q r ws ++ drop n out)) (zero-add _ ∙ size_sendable)

-- ---- framed
-- the table's row of the request's kind
pub record Due (r : Request) : Type 0 where
  pub row : Kind
  pub known : row_of (kind_of r) ≡ Some row
  place : row.place ≡ in_feed
  units : (n : ℕ) → units_in row (row.base + row.unit * cond (has_list r) n 0) ≡ cond (has_list r) n 0

plain_due : (r : Request) (w : Kind) → row_of (kind_of r) ≡ Some w → w.place ≡ in_feed → has_list r ≡ false → w.unit ≡ 0 → Due r
plain_due r w e p h u = record { row = w; known = e; place = p; units = λ n. sym (units_none w _ u) ∙ sym (cond_false (has_list r) n 0 h) }

counted_due : (r : Request) (w : Kind) → row_of (kind_of r) ≡ Some w → w.place ≡ in_feed → has_list r ≡ true → 0 < w.unit → Due r
counted_due r w e p h u =
    record { row = w; known = e; place = p; units = λ n. ap (λ (b : Bool). units_in w (w.base + w.unit * cond b n 0)) h ∙ units_sum w n u ∙ sym (cond_true (has_list r) n 0 h) }

pub due : (r : Request) → Due r
unfolding row_of rows
due (Insert a) = plain_due (Insert a) _ refl refl refl refl
due (InsertVehicle a) = counted_due (InsertVehicle a) _ refl refl refl (lit< tt)
due (Renew r) = plain_due (Renew r) _ refl refl refl refl
due (Delete i) = plain_due (Delete i) _ refl refl refl refl
due (BeginExpiration e) = plain_due (BeginExpiration e) _ refl refl refl refl
due (Replace r) = counted_due (Replace r) _ refl refl refl (lit< tt)
due (Acknowledge i) = plain_due (Acknowledge i) _ refl refl refl refl
due (ExpireDefunct now) = plain_due (ExpireDefunct now) _ refl refl refl refl

-- the frame of the record at a place
abbrev pub sent_frame : ℕ → ℕ → Request → List ℕ → Frame
sent_frame at q r ws =
    record { kind = kind_of r; start = at + 4; size = length (body_of q (normal_request r) ws); units = units_of r ws; next = at + length (request_bytes q r ws) }

module _ (q : ℕ) (r : Request) (ws : List ℕ) (k : Sendable q r ws) where
  few_units : units_of r ws ≤ 64
  few_units = cond_both (λ (n : ℕ). n ≤ 64) (ids_in ws) 0 (has_list r) (λ t. (k.list t).few) (λ t. omega arith)

  -- whatever stands before and after it
  pub framed : (p t : List ℕ) → frame_at (p ++ (request_bytes q r ws ++ t)) (length p) in_feed ≡ Ok (sent_frame (length p) q r ws)
  unfolding request_bytes length_with
  framed p t =
      let d = due r in
      let w = d.row in
      let b : List ℕ = body_of q (normal_request r) ws in
      let n : length b + 2 ≡ w.base + w.unit * units_of r ws = normal_size q r ws (λ t. (k.list t).even) ∙ ap (with_units (units_of r ws)) d.known in
      let fine : Yes (possible w (length b + 2)) = ap (possible w) n ∙ possible_sum w (units_of r ws) few_units in
      let u : units_in w (length b + 2) ≡ units_of r ws = ap (units_in w) n ∙ d.units (ids_in ws) in
      let sum : length p + 2 + (length b + 2) ≡ length p + length (record_of (kind_of r) b) = omega (arith, length_record (kind_of r) b) in
      let back : length b + 2 - 2 ≡ length b = omega arith in
      ap (frame_at (p ++ (record_of (kind_of r) b ++ t)) (length p)) (sym d.place)
      ∙ frame_record w (kind_of r) d.known p b t (length p) refl fine
      ∙ (λ i. (Ok (record { kind = (rule (kind_of r) w d.known).number i; start = length p + 4; size = back i; units = u i; next = sum i })))

-- and its body is the part that the frame names
abbrev pub body_in : List ℕ → Frame → List ℕ
body_in s f = part s f.start f.size

pub framed_body : (q : ℕ) (r : Request) (ws p t : List ℕ) → body_in (p ++ (request_bytes q r ws ++ t)) (sent_frame (length p) q r ws) ≡ body_of q (normal_request r) ws
unfolding request_bytes
framed_body q r ws p t = body_in_lem (kind_of r) p (body_of q (normal_request r) ws) t (length p) refl

-- ---- there: what is written reads as the normal request. The words that the reader hands on
abbrev pub words_read : Request → List ℕ → List ℕ
words_read r b = words_in (list_in r b)

module _ {R : Type 0} (c : Codec R) (w : Lawful c) (f : Faithful c) (q : ℕ) (h : q < 2 ^ 32) (x : R) (k : InFields c x) (t : Yes (c.right (c.numbers x))) where
  well : Well (numbered c) (q, x)
  well = record { fit = (h, k); right = and_t true _ refl ∙ t; same = numbered_faithful c f (q, x) }

  well_counted : (n : ℕ) → n < 2 ^ 16 → Well (counted (numbered c)) ((q, x), n)
  well_counted n m =
      let v = numbered_lawful c w in
      record {
        fit = fit_append (numbered c).layout (little 2 ∷ []) ((numbered c).numbers (q, x)) (n ∷ []) (h, k) (m, tt);
        right = and_i _ _ (ap (numbered c).right (take_at ((numbered c).numbers (q, x)) (n ∷ []) (length (numbered c).layout) (v.count (q, x))) ∙ well.right) refl;
        same = counted_faithful 2 (numbered c) v (numbered_faithful c f) ((q, x), n);
      }

-- the ids stand past the count
past_there : {R : Type 0} (c : Codec R) → Lawful c → (q : ℕ) (x : R) (ws : List ℕ) → past_count (numbered c) (encode_counted (numbered c) (q, x) ws) ≡ word_bytes ws
past_there c w q x ws =
    let d = counted (numbered c) in
    drop_at (encode_by d ((q, x), ids_in ws)) (word_bytes ws) (total d.layout) (length_body d (counted_lawful 2 (numbered c) (numbered_lawful c w)) ((q, x), ids_in ws))

ids_size : (ws : List ℕ) → IdList ws → length (word_bytes ws) ≡ ids_in ws * 16
ids_size ws k = omega (arith, length_word_bytes ws, even_words ws k.even)

module _ (q : ℕ) (h : q < 2 ^ 32) (ws : List ℕ) where
  reads : (r : Request) → InTypes r → Right r → (has_list r ≡ true → IdList ws) → request_of (kind_of r) (body_of q r ws) ≡ Some (q, r)
  unfolding request_of
  reads (Insert a) k t l = insert_trips.there (q, a) (well active active_lawful active_faithful q h a k t)
  reads (InsertVehicle a) k t l =
      insert_vehicle_trips.there (q, a) (ids_in ws) (word_bytes ws) (well_counted active active_lawful active_faithful q h a k t (ids_in ws) (omega (arith, (l refl).few))) (ids_size ws (l refl))
  reads (Renew r) k t l = renew_trips.there (q, r) (well renewal renewal_lawful renewal_faithful q h r k t)
  reads (Delete i) k t l = delete_trips.there (q, i) (well target target_lawful (λ x. refl) q h i k refl)
  reads (BeginExpiration e) k t l = begin_expiration_trips.there (q, e) (well expiration expiration_lawful (λ x. refl) q h e k refl)
  reads (Replace r) k t l =
      replace_trips.there (q, r) (ids_in ws) (word_bytes ws) (well_counted replacement replacement_lawful replacement_faithful q h r k (and_true _ ∙ t) (ids_in ws) (omega (arith, (l refl).few))) (ids_size ws (l refl))
  reads (Acknowledge i) k t l = acknowledge_trips.there (q, i) (well target target_lawful (λ x. refl) q h i k refl)
  reads (ExpireDefunct now) k t l = expire_defunct_trips.there (q, now) (well (number 8) (number_lawful 8) (λ x. refl) q h now k refl)

  words_of : (r : Request) → (has_list r ≡ true → IdList ws) → words_read r (body_of q r ws) ≡ cond (has_list r) ws []
  unfolding words_in
  words_of (Insert a) l = refl
  words_of (InsertVehicle a) l = ap words_in (past_there active active_lawful q a ws) ∙ words_there ws (l refl)
  words_of (Renew r) l = refl
  words_of (Delete i) l = refl
  words_of (BeginExpiration e) l = refl
  words_of (Replace r) l = ap words_in (past_there replacement replacement_lawful q r ws) ∙ words_there ws (l refl)
  words_of (Acknowledge i) l = refl
  words_of (ExpireDefunct now) l = refl

pub there : (q : ℕ) (r : Request) (ws : List ℕ) → Sendable q r ws
    → (request_of (kind_of r) (body_of q (normal_request r) ws) ≡ Some (q, (normal_request r)))
    × (words_read (normal_request r) (body_of q (normal_request r) ws) ≡ cond (has_list r) ws [])
there q r ws k =
    let s = same_kind r in
    let f = request_fits r k.numbers in
    let l : has_list (normal_request r) ≡ true → IdList ws = λ t. k.list (sym s.1 ∙ t) in (
      ap (λ (n : ℕ). request_of n (body_of q (normal_request r) ws)) (sym s.0) ∙ reads q k.sequence ws (normal_request r) f (request_right r) l,
      words_of q k.sequence ws (normal_request r) l ∙ ap (λ (b : Bool). cond b ws []) s.1,
    )

-- so of the record that stands anywhere
pub sent_read : (q : ℕ) (r : Request) (ws : List ℕ) → Sendable q r ws → (p t b : List ℕ) → b ≡ body_in (p ++ (request_bytes q r ws ++ t)) (sent_frame (length p) q r ws)
    → (request_of (kind_of r) b ≡ Some (q, (normal_request r))) × (words_read (normal_request r) b ≡ cond (has_list r) ws [])
sent_read q r ws k p t b e =
    let z = there q r ws k in
    let same = e ∙ framed_body q r ws p t in
    (ap (request_of (kind_of r)) same ∙ z.0, ap (words_read (normal_request r)) same ∙ z.1)

-- ---- back: what was read is sendable, right, and has its body written again
record Back (k : ℕ) (b : List ℕ) (q : ℕ) (r : Request) : Type 0 where
  sendable : Sendable q r (words_read r b)
  right : Right r
  kind : k ≡ kind_of r
  body : body_of q r (words_read r b) ≡ b

abbrev Came : ℕ → List ℕ → Option (ℕ × Request) → Type 0
Came k b (Some (q, r)) = Back k b q r
Came k b None = Unit {0}

uncounted : {R : Type 0} (c : Codec R) → Lawful c → (x : R) (n : ℕ) → Well (counted c) (x, n) → Well c x
uncounted {R} c w x n k =
    let front = take_at (c.numbers x) (n ∷ []) (length c.layout) (w.count x) in
    record {
      fit = (fit_split c.layout (little 2 ∷ []) (c.numbers x) (n ∷ []) (sym (w.count x)) k.fit).0;
      right = ap c.right (sym front) ∙ and_l _ true k.right;
      same = ap c.made (sym front) ∙ ap (λ (p : R × ℕ). p.0) k.same;
    }

-- a body of the kind k that a frame of m units holds
module _ (k m : ℕ) (b : List ℕ) (y : Bytes b) (few : m ≤ 64) (size : length b + 2 ≡ length_with k m) where
  came : (q : ℕ) (r : Request) → Yes (eqb k (kind_of r)) → q < 2 ^ 32 → InTypes r → Right r → (has_list r ≡ true → IdList (words_read r b)) → body_of q r (words_read r b) ≡ b → Back k b q r
  came q r t h f g l e = record { sendable = record { sequence = h; numbers = f; list = l }; right = g; kind = eqb-true k (kind_of r) t; body = e }

  module _ {R : Type 0} (c : Codec R) (w : Lawful c) (ask : R → Request) where
    plain_came : RoundTrips (numbered c) (asked ask) None → ((q : ℕ) (x : R) → Well (numbered c) (q, x) → encode_by (numbered c) (q, x) ≡ b → Back k b q (ask x))
        → Came k b (decode_by (numbered c) (asked ask) None b)
    plain_came trips f =
        let v = in_body (numbered c) b in
        cond_both (Came k b) (asked ask ((numbered c).made v)) None (eqb (length b) (total (numbered c).layout) and (numbered c).right v)
        (λ t. let z = trips.back b ((numbered c).made v) y (cond_true _ _ _ t) in f _ _ z.1 z.0) (λ t. tt)

    counted_came : CountedTrips 2 16 (numbered c) (asked ask) None → ((n : ℕ) → length b ≡ total (counted (numbered c)).layout + n * 16 → n ≤ 64)
        → ((q : ℕ) (x : R) → Well (numbered c) (q, x) → IdList (words_in (past_count (numbered c) b)) → encode_counted (numbered c) (q, x) (words_in (past_count (numbered c) b)) ≡ b → Back k b q (ask x))
        → Came k b (decode_counted (numbered c) (asked ask) None b)
    counted_came trips most f =
        let d = counted (numbered c) in
        let v = in_body d b in
        let x = (d.made v).0 in
        cond_both (Came k b) (asked ask x) None (eqb (length b) (total d.layout + (d.made v).1 * 16) and d.right v)
        (λ t.
        let z = trips.back b x y (cond_true _ _ _ t) in
        let n : ℕ = z.0 in
        let l : List ℕ = past_count (numbered c) b in
        let o = words_back n l (bytes_drop (total d.layout) b y) (omega (arith, length-drop (total d.layout) b, z.2)) (most n z.2) in
        f x.0 x.1 (uncounted (numbered c) (numbered_lawful c w) x n z.3) o.list
        (ap₂ (λ (i : ℕ) (p : List ℕ). encode_by d (x, i) ++ p) o.ids o.bytes ∙ z.1))
        (λ t. tt)

  asked_came : Came k b (request_of k b)
  unfolding request_of length_with row_of rows
  asked_came =
      cond_both (Came k b) _ _ (eqb k 16) (λ t. plain_came active active_lawful Insert insert_trips (λ q x u e. came q (Insert x) t u.fit.0 u.fit.1 (and_r true _ u.right) (λ z. absurd (against refl z)) e)) (λ t.
      cond_both (Came k b) _ _ (eqb k 17) (λ t. counted_came active active_lawful InsertVehicle insert_vehicle_trips
      (λ n h. let z : length b + 2 ≡ 95 + 16 * m = size ∙ ap (λ (j : ℕ). length_with j m) (eqb-true k 17 t) in omega (arith, h))
      (λ q x u l e. came q (InsertVehicle x) t u.fit.0 u.fit.1 (and_r true _ u.right) (λ _. l) e)) (λ t.
      cond_both (Came k b) _ _ (eqb k 18) (λ t. plain_came renewal renewal_lawful Renew renew_trips (λ q x u e. came q (Renew x) t u.fit.0 u.fit.1 (and_r true _ u.right) (λ z. absurd (against refl z)) e)) (λ t.
      cond_both (Came k b) _ _ (eqb k 19) (λ t. plain_came target target_lawful Delete delete_trips (λ q x u e. came q (Delete x) t u.fit.0 u.fit.1 tt (λ z. absurd (against refl z)) e)) (λ t.
      cond_both (Came k b) _ _ (eqb k 20) (λ t. plain_came expiration expiration_lawful BeginExpiration begin_expiration_trips (λ q x u e. came q (BeginExpiration x) t u.fit.0 u.fit.1 tt (λ z. absurd (against refl z)) e)) (λ t.
      cond_both (Came k b) _ _ (eqb k 21) (λ t. counted_came replacement replacement_lawful Replace replace_trips
      (λ n h. let z : length b + 2 ≡ 107 + 16 * m = size ∙ ap (λ (j : ℕ). length_with j m) (eqb-true k 21 t) in omega (arith, h))
      (λ q x u l e. came q (Replace x) t u.fit.0 u.fit.1 (sym (and_true _) ∙ and_r true _ u.right) (λ _. l) e)) (λ t.
      cond_both (Came k b) _ _ (eqb k 22) (λ t. plain_came target target_lawful Acknowledge acknowledge_trips (λ q x u e. came q (Acknowledge x) t u.fit.0 u.fit.1 tt (λ z. absurd (against refl z)) e)) (λ t.
      cond_both (Came k b) _ _ (eqb k 23) (λ t. plain_came (number 8) (number_lawful 8) ExpireDefunct expire_defunct_trips (λ q x u e. came q (ExpireDefunct x) t u.fit.0 u.fit.1 tt (λ z. absurd (against refl z)) e)) (λ t. tt))))))))

-- "every record the reader accepts is written back byte for byte"
module _ (s : List ℕ) (at : ℕ) (f : Frame) (q : ℕ) (r : Request) (y : Bytes s) (e : frame_at s at in_feed ≡ Ok f) (g : request_of f.kind (body_in s f) ≡ Some (q, r)) where
  length_frame : length (body_in s f) ≡ f.size
  length_frame = let w = whole s at in_feed f e in length_part s f.start f.size (omega (arith, w.starts, w.within))

  what_came : Back f.kind (body_in s f) q r
  unfolding length_with
  what_came =
      let w = whole s at in_feed f e in
      let b : List ℕ = body_in s f in
      let size : length b + 2 ≡ length_with f.kind f.units = ap (λ (n : ℕ). n + 2) length_frame ∙ w.sum ∙ ap (with_units f.units) (sym w.known) in
      subst (Came f.kind b) g (asked_came f.kind f.units b (bytes_part s f.start f.size y) w.few size)

  pub back : Sendable q r (words_read r (body_in s f)) × (normal_request r ≡ r) × (request_bytes q r (words_read r (body_in s f)) ≡ part s at (f.size + 4))
  unfolding request_bytes
  back =
      let w = what_came in
      let same = request_kept r w.right in
      (w.sendable, same, ap₂ record_of (sym w.kind) (ap (λ (x : Request). body_of q x (words_read r (body_in s f))) same ∙ w.body) ∙ sym (record_part s at in_feed f y e))

  -- so the writer leaves those bytes in any buffer with room, and then the rest of it
  pub back_sent : (out : List ℕ) → f.size + 4 ≤ length out → send_on q r (words_read r (body_in s f)) out ≡ leaves (Ok (f.size + 4)) (part s at (f.size + 4) ++ drop (f.size + 4) out)
  back_sent out h =
      let b = back in
      let w = whole s at in_feed f e in
      let n : size_of r (words_read r (body_in s f)) ≡ f.size + 4 = sym (size_sendable q r (words_read r (body_in s f)) b.0) ∙ ap length b.2 ∙ length_part s at (f.size + 4) (omega (arith, w.within)) in
      sent_done q r (words_read r (body_in s f)) b.0 out (omega (arith, n)) ∙ ap₂ (λ (m : ℕ) (x : List ℕ). leaves (Ok m) (x ++ drop m out)) n b.2
