-- The two ends of a feed. Document 02, C-12: "A primary that numbers its records in turn from its expected sequence, applies each
-- operation it writes and nothing else, and a spare that began equal and has applied as many records are equal states, whatever
-- was lost, repeated or reordered on the way, so long as no record is late or early by 2^31 or more." Assumes nothing.
use Rattle.std.specs.Prelude.{ℕ, suc, ◌+◌, ◌<◌, ◌^◌, ◌%◌, cond, List, [], ◌∷◌, ◌++◌, map, ◌≡◌, eqb, take, drop}
use Rattle.records.specs.declared.requests.Request.{Request}
use Rattle.records.specs.Numbers.{bytes_of_all}
use Rattle.records.specs.Sending.{normal_request, has_list, request_bytes}
use Rattle.records.specs.Ranges.{Sendable}
use Rattle.image.specs.declared.Spare.{Spare}
use Rattle.calls.specs.Calls.{perform_on}
use Rattle.lookups.specs.Reads.{on_sound}
use Rattle.std.specs.Prelude.{Err}
use Rattle.feed.specs.declared.events.FeedRefusal.TheVariants.{UnsoundState}
use Rattle.feed.specs.declared.events.Step.{Step}
use Rattle.feed.specs.Feed.{after, Numbered, still, onward}
use Rattle.takeover.specs.Feeding.{moved}

-- ---- the primary
-- an operation, and the words of the ids that are handed in with it
pub record Wish : Type 0 where
  pub request : Request
  pub words : List ℕ

-- "numbers its records in turn from its expected sequence": what is handed to the writer
abbrev pub stamped : ℕ → Wish → Numbered
stamped q x = record { number = q; request = x.request; list = x.words }

unfoldable pub stamped_from : ℕ → List Wish → List Numbered
stamped_from e [] = []
stamped_from e (x ∷ xs) = stamped e x ∷ stamped_from (after e) xs

-- what it writes, and "what it writes is read back as": the parts that don't apply zero, and a list only where there is one
abbrev pub sent_bytes : Numbered → List ℕ
sent_bytes x = request_bytes x.number x.request x.list

abbrev pub as_read : Numbered → Numbered
as_read x = record { number = x.number; request = normal_request x.request; list = cond (has_list x.request) x.list [] }

-- the records that it sends
abbrev pub numbered_from : ℕ → List Wish → List Numbered
numbered_from e xs = map as_read (stamped_from e xs)

-- "applies each operation it writes and nothing else": done directly, and the number moved on
unfoldable pub done_all : Spare → List Wish → Spare
done_all sp [] = sp
done_all sp (x ∷ xs) = done_all (moved (perform_on sp.state x.request x.words).state sp) xs

-- one operation with what it tells: 12, then the operation under the number that is due, which a record of n bytes carries
unfoldable pub own_on : Spare → ℕ → Request → List ℕ → Step
own_on sp n r ws = on_sound sp.state (λ k. still sp (Err (UnsoundState k)) 0 0) (onward sp sp.expected n (perform_on sp.state r ws))

-- ---- numbers in turn, over any element
-- the number of the one that comes j after the first
abbrev pub number_at : ℕ → ℕ → ℕ
number_at e j = (e + j) % 2 ^ 32

abbrev pub Turns : {X : Type 0} → (X → ℕ) → ℕ → List X → Type 0
Turns number e [] = Unit {0}
Turns number e (x ∷ xs) = (number x ≡ e) × Turns number (after e) xs

-- ---- the way: receipts, each told by which record it is of, counted from 0. Any may be missing, come again, or come in another
-- order
abbrev pub Receipts : ℕ → List ℕ → Type 0
Receipts n [] = Unit {0}
Receipts n (j ∷ js) = (j < n) × Receipts n js

unfoldable pub picked : {X : Type 0} → List X → List ℕ → List X
picked xs [] = []
picked xs (j ∷ js) = take 1 (drop j xs) ++ picked xs js

-- how many are applied in the end, where k were before: record k is, and no other
abbrev pub on_receipt : ℕ → ℕ → ℕ
on_receipt k j = cond (eqb j k) (suc k) k

unfoldable pub applied : ℕ → List ℕ → ℕ
applied k [] = k
applied k (j ∷ js) = applied (on_receipt k j) js

-- "no record is late or early by" w "or more", at each receipt by a spare that has applied k before it
abbrev pub Near : ℕ → ℕ → List ℕ → Type 0
Near w k [] = Unit {0}
Near w k (j ∷ js) = (j < k + w) × (k < j + w) × Near w (on_receipt k j) js

-- the receipts of n records within the window w
pub record Arrives (w n : ℕ) (js : List ℕ) : Type 0 where
  pub sent : Receipts n js
  pub near : Near w 0 js

-- what was received of the operations numbered from e on, and the same as the writer wrote it, one record after the other
abbrev pub received_from : ℕ → List Wish → List ℕ → List Numbered
received_from e wishes js = picked (numbered_from e wishes) js

abbrev pub bytes_from : ℕ → List Wish → List ℕ → List ℕ
bytes_from e wishes js = bytes_of_all sent_bytes (picked (stamped_from e wishes) js)

-- ---- what can be written, whatever its number
abbrev pub Writable : Wish → Type 0
Writable x = (q : ℕ) → q < 2 ^ 32 → Sendable q x.request x.words

abbrev pub Each : {X : Type 0} → (X → Type 0) → List X → Type 0
Each P [] = Unit {0}
Each P (x ∷ xs) = P x × Each P xs
