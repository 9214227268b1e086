-- 02, C-12 at the library's door: a primary that calls cablegorse_perform, image to image, and sends each record that was written; a
-- spare that calls cablegorse_follow on what it receives. Assumes nothing.
use Rattle.std.specs.Prelude.{ℕ, ◌^◌, ◌≤◌, ◌<◌, List, [], ◌∷◌, ◌++◌, ◌≡◌, length, take, drop}
use Rattle.lists.specs.Papers.{paper}
use Rattle.records.specs.declared.requests.Request.{Request}
use Rattle.records.specs.Numbers.{bytes_of_all}
use Rattle.records.specs.Sending.{request_bytes}
use Rattle.records.specs.Ranges.{Words, Sendable}
use Rattle.image.specs.declared.Spare.{Spare}
use Rattle.calls.specs.Calls.{perform_on}
use Rattle.feed.specs.Feed.{onward}
use Rattle.takeover.specs.Feeding.{moved}
use Rattle.takeover.specs.Ends.{picked, applied}
use Rattle.cablegorse.specs.declared.Operation.{Operation}
use Rattle.std.specs.Prelude.{Ok}
use Rattle.cablegorse.specs.Telling.{told_of, kept}
use Rattle.cablegorse.specs.Changes.{image_bytes, Changed, changed, whole_put, apply_of}
use Rattle.cablegorse.specs.Chunks.{Chunked}
use Rattle.cablegorse.specs.Sending.{asked_of, write_of, Performed, perform_of}

-- ---- what code can hold: each number within its type
pub record InTypes (o : Operation) : Type 0 where
  pub hi : o.hi < 2 ^ 64
  pub lo : o.lo < 2 ^ 64
  pub parenthi : o.parenthi < 2 ^ 64
  pub parentlo : o.parentlo < 2 ^ 64
  pub w0 : o.w0 < 2 ^ 64
  pub w1 : o.w1 < 2 ^ 64
  pub w2 : o.w2 < 2 ^ 64
  pub w3 : o.w3 < 2 ^ 64
  pub expires : o.expires < 2 ^ 64
  pub now : o.now < 2 ^ 64
  pub principal : o.principal < 2 ^ 32
  pub metadata : o.metadata < 2 ^ 32
  pub breaker : o.breaker < 2 ^ 32
  pub kind : o.kind < 2 ^ 16
  pub subject : o.subject < 2 ^ 16
  pub scope : o.scope < 2 ^ 8
  pub number : o.number < 2 ^ 8
  pub exclusive : o.exclusive < 2 ^ 8
  pub coverage : o.coverage < 2 ^ 8
  pub child : o.child < 2 ^ 8
  pub given : o.given < 2 ^ 8

-- ---- one call: what it leaves
abbrev pub image_in : Performed → List ℕ
image_in c = take c.told.written c.next

abbrev pub record_in : Performed → List ℕ
record_in c = take c.told.place c.sent

abbrev pub changed_in : Performed → Changed
changed_in c = changed c.told c.next c.removed c.expired

-- "numbers its records in turn from its expected sequence, applies each operation it writes and nothing else": the request r of a
-- spare's image under the number that is due
pub record Sends (s : List ℕ) (o : Operation) (ws n m x f : List ℕ) (sp : Spare) (r : Request) (c : Performed) : Type 0 where
  pub asked : asked_of o ≡ Ok r
  pub sendable : Sendable sp.expected r ws
  pub bytes : record_in c ≡ request_bytes sp.expected r ws
  -- a spare of the same image that reads the record is left with the same bytes and told the same
  pub applies : apply_of s (record_in c) 0 n m x ≡ changed_in c
  -- which is the operation's own, done directly
  pub done : changed_in c ≡ whole_put 0 (onward sp sp.expected c.told.place (perform_on sp.state r ws)) n m x
  pub image : image_in c ≡ image_bytes (moved (perform_on sp.state r ws).state sp)
  pub past : drop c.told.place c.sent ≡ drop c.told.place f
  -- and so does cablegorse_write_record write it
  pub writes : (out : List ℕ) → c.told.place ≤ length out → write_of sp.expected o ws out ≡ kept (told_of (paper 0 (c.told.place ∷ []))) (record_in c ++ drop c.told.place out)

-- ---- call after call, with any buffers
pub record Call : Type 0 where
  pub operation : Operation
  pub words : List ℕ
  pub next : List ℕ
  pub removed : List ℕ
  pub expired : List ℕ
  pub sent : List ℕ

abbrev pub Callable : Call → Type 0
Callable c = InTypes c.operation × Words c.words

abbrev pub called : List ℕ → Call → Performed
called s c = perform_of s c.operation c.words c.next c.removed c.expired c.sent

-- each was done (part 2), and the next is of the image that it left
unfoldable pub Calls : List ℕ → List Call → Type 0
Calls s [] = Unit {0}
Calls s (c ∷ cs) = ((called s c).told.part ≡ 2) × Calls (image_in (called s c)) cs

-- the last image, and the records in their order
unfoldable pub last_image : List ℕ → List Call → List ℕ
last_image s [] = s
last_image s (c ∷ cs) = last_image (image_in (called s c)) cs

unfoldable pub sent_in : List ℕ → List Call → List (List ℕ)
sent_in s [] = []
sent_in s (c ∷ cs) = record_in (called s c) ∷ sent_in (image_in (called s c)) cs

-- ---- what the spare receives: records by their place, one after the other in one chunk
abbrev pub arrived : List ℕ → List Call → List ℕ → List ℕ
arrived s cs js = bytes_of_all (λ b. b) (picked (sent_in s cs) js)

-- it has read them all, applied those that count, and has the image of the primary that has done as many calls
pub record SameEnd (s : List ℕ) (cs : List Call) (js : List ℕ) (c : Chunked) : Type 0 where
  pub part : c.told.part ≡ 2
  pub read : c.told.read ≡ length js
  pub count : c.told.applied ≡ applied 0 js
  pub image : take c.told.written c.next ≡ last_image s (take (applied 0 js) cs)
