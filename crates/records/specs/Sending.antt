-- The writer of feed records. Document 02, C-12: "Build the writer for kinds 16 to 23: operation and sequence in, bytes out."
-- Assumes nothing.
use Rattle.std.specs.Prelude.{ℕ, ◌+◌, ◌/◌, Bool, true, false, cond, List, [], ◌∷◌, ◌++◌, length, ltb}
use Rattle.lists.specs.Tests.{◌and◌}
use Rattle.lists.specs.Papers.{Paper, paper}
use Rattle.ids.specs.Words.{odd_words}
use Rattle.state.specs.Locks.{normal}
use Rattle.records.specs.declared.requests.RenewRequest.{RenewRequest}
use Rattle.records.specs.declared.requests.ReplaceRequest.{ReplaceRequest}
use Rattle.records.specs.declared.requests.Request.{Request}
use Rattle.records.specs.declared.requests.Request.TheVariants.{Insert, InsertVehicle, Renew, Delete, BeginExpiration, Replace, Acknowledge, ExpireDefunct}
use Rattle.std.specs.Prelude.{Result, Ok, Err}
use Rattle.records.specs.declared.sending.Unsent.{Unsent}
use Rattle.records.specs.declared.sending.Unsent.TheVariants.{BadList, ListTooLong, ShortOutput}
use Rattle.records.specs.Numbers.{big, bytes_of, bytes_of_all, splice}
use Rattle.records.specs.Table.{length_with}
use Rattle.records.specs.Framing.{record_of}
use Rattle.records.specs.Codecs.{Codec, encode_by, counted, number}
use Rattle.records.specs.Wire.{active}
use Rattle.records.specs.Feeds.{numbered, renewal, target, expiration, replacement}

-- ---- "that operation, parts that don't apply zero": a whole vehicle's set, the parent of a lock that has none, metadata that
-- isn't given
abbrev pub normal_renewal : RenewRequest → RenewRequest
normal_renewal r = record { id = r.id; expires = r.expires; now = r.now; metadata = cond r.given r.metadata 0; given = r.given }

abbrev pub normal_replacement : ReplaceRequest → ReplaceRequest
normal_replacement r = record { lock = normal r.lock; broken = r.broken; breaker = r.breaker }

abbrev pub normal_request : Request → Request
normal_request (Insert a) = Insert (normal a)
normal_request (InsertVehicle a) = InsertVehicle (normal a)
normal_request (Renew r) = Renew (normal_renewal r)
normal_request (Delete i) = Delete i
normal_request (BeginExpiration e) = BeginExpiration e
normal_request (Replace r) = Replace (normal_replacement r)
normal_request (Acknowledge i) = Acknowledge i
normal_request (ExpireDefunct now) = ExpireDefunct now

-- ---- "kinds 16 to 23", and those of them that have ids
abbrev pub kind_of : Request → ℕ
kind_of (Insert a) = 16
kind_of (InsertVehicle a) = 17
kind_of (Renew r) = 18
kind_of (Delete i) = 19
kind_of (BeginExpiration e) = 20
kind_of (Replace r) = 21
kind_of (Acknowledge i) = 22
kind_of (ExpireDefunct now) = 23

abbrev pub has_list : Request → Bool
has_list (Insert a) = false
has_list (InsertVehicle a) = true
has_list (Renew r) = false
has_list (Delete i) = false
has_list (BeginExpiration e) = false
has_list (Replace r) = true
has_list (Acknowledge i) = false
has_list (ExpireDefunct now) = false

-- ---- the bytes. 01: "An id list holds two u64 words an id, first half first, each big-endian."
abbrev pub ids_in : List ℕ → ℕ
ids_in ws = length ws / 2

abbrev pub word_bytes : List ℕ → List ℕ
word_bytes ws = bytes_of_all (bytes_of (big 8)) ws

-- 01: "count 2, ids"
abbrev pub encode_counted : {R : Type 0} → Codec R → R → List ℕ → List ℕ
encode_counted c r ws = encode_by (counted c) (r, ids_in ws) ++ word_bytes ws

-- the body: what `request_of` reads
abbrev pub body_of : ℕ → Request → List ℕ → List ℕ
body_of q (Insert a) ws = encode_by (numbered active) (q, a)
body_of q (InsertVehicle a) ws = encode_counted (numbered active) (q, a) ws
body_of q (Renew r) ws = encode_by (numbered renewal) (q, r)
body_of q (Delete i) ws = encode_by (numbered target) (q, i)
body_of q (BeginExpiration e) ws = encode_by (numbered expiration) (q, e)
body_of q (Replace r) ws = encode_counted (numbered replacement) (q, r) ws
body_of q (Acknowledge i) ws = encode_by (numbered target) (q, i)
body_of q (ExpireDefunct now) ws = encode_by (numbered (number 8)) (q, now)

-- the record
unfoldable pub request_bytes : ℕ → Request → List ℕ → List ℕ
request_bytes q r ws = record_of (kind_of r) (body_of q (normal_request r) ws)

-- its size: the table's length with the ids that it has, and the two bytes that hold it
abbrev pub units_of : Request → List ℕ → ℕ
units_of r ws = cond (has_list r) (ids_in ws) 0

unfoldable pub size_of : Request → List ℕ → ℕ
size_of r ws = 2 + length_with (kind_of r) (units_of r ws)

-- ---- "Refusals: 14, 29 ListTooLong (over 64 ids), 21, in this order."
-- of the list; else the size of the record
unfoldable pub needed_on : Request → List ℕ → Result ℕ Unsent
needed_on r ws =
    cond (has_list r and odd_words ws) (Err BadList)
    (cond (has_list r and ltb 64 (ids_in ws)) (Err ListTooLong)
    (Ok (size_of r ws)))

-- the answer, and the buffer as the call leaves it: "a refusal returns only its number and the data shown, and [..] buffers keep
-- their bytes; a success keeps bytes past its output"
pub record Written : Type 0 where
  pub told : Result ℕ Unsent
  pub out : List ℕ

abbrev pub leaves : Result ℕ Unsent → List ℕ → Written
leaves t out = record { told = t; out = out }

abbrev pub written_by : List ℕ → List ℕ → Result ℕ Unsent → Written
written_by bytes out (Ok n) = cond (ltb (length out) n) (leaves (Err (ShortOutput n)) out) (leaves (Ok n) (splice out 0 bytes))
written_by bytes out (Err e) = leaves (Err e) out

unfoldable pub send_on : ℕ → Request → List ℕ → List ℕ → Written
send_on q r ws out = written_by (request_bytes q r ws) out (needed_on r ws)

-- on paper
unfoldable pub sent_paper : Result ℕ Unsent → Paper
sent_paper (Ok n) = paper 0 (n ∷ [])
sent_paper (Err BadList) = paper 14 []
sent_paper (Err ListTooLong) = paper 29 []
sent_paper (Err (ShortOutput n)) = paper 21 (n ∷ [])
