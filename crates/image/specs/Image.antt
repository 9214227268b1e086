-- Images. Document 01: "Image: HEAD, active, defunct, ids strictly ascending (20, after the record's other checks), nothing
-- after (20, at the first extra byte), then the sound-state test." Offsets are a record's start. Assumes nothing.
use Rattle.std.specs.Prelude.{ℕ, zero, suc, Bool, true, cond, List, [], ◌∷◌, ◌++◌, length, drop, ltb}
use Rattle.lists.specs.Papers.{Paper, paper}
use Rattle.state.specs.declared.ActiveLock.{ActiveLock}
use Rattle.state.specs.declared.DefunctLock.{DefunctLock}
use Rattle.state.specs.Locks.{akey, dkey, blank_active, blank_defunct}
use Rattle.state.specs.Model.{Model, empty_model, model_of, state_of}
use Rattle.std.specs.Prelude.{Result, Ok, Err, ⊤}
use Rattle.rules.specs.declared.Unsound.{Unsound}
use Rattle.rules.specs.Rules.{broken_rule}
use Rattle.records.specs.declared.frame.Unread.{Unread}
use Rattle.records.specs.declared.frame.Frame.{Frame}
use Rattle.records.specs.declared.bodies.Head.{Head}
use Rattle.records.specs.Numbers.{part, bytes_of_all}
use Rattle.records.specs.Codecs.{Codec, decode_by, encode_by}
use Rattle.records.specs.Table.{at_head, at_active, at_defunct}
use Rattle.records.specs.Framing.{frame_at, record_of}
use Rattle.records.specs.Wire as wire
use Rattle.image.specs.declared.Spare.{Spare}
use Rattle.image.specs.declared.Imaged.{Imaged}
use Rattle.image.specs.declared.ImageRefusal.{ImageRefusal}
use Rattle.image.specs.declared.ImageRefusal.TheVariants.{Torn, BadKind, BadField, BadOrder, UnsoundState}
use Rattle.image.specs.declared.WriteRefusal.{WriteRefusal}
use Rattle.image.specs.declared.WriteRefusal.TheVariants as W
use Rattle.image.specs.Refusals.{unread, unsound, not_written}

-- what reading at a place gives: a value and the place after it, or a refusal
abbrev pub Got : Type 0 → Type 0
Got A = Result (A × ℕ) ImageRefusal

module _ {A B : Type 0} where
  unfoldable pub and_then : Got A → (A → ℕ → Got B) → Got B
  and_then (Err x) f = Err x
  and_then (Ok (a, n)) f = f a n

-- ---- a record
module _ {R : Type 0} (c : Codec R) where
  -- a record that starts at `at` is read whole, else the refusal holds `at`
  abbrev pub of_frame : List ℕ → ℕ → Result Frame Unread → Got R
  of_frame s at (Err u) = Err (unread u)
  of_frame s at (Ok f) = decode_by c (λ r. Ok (r, f.next)) (Err (BadField at)) (part s f.start f.size)

  -- the record at `at`, where a kind of this place is due
  unfoldable pub record_at : ℕ → List ℕ → ℕ → Got R
  record_at due s at = of_frame s at (frame_at s at due)

-- ---- a run of records of one kind
pub record Listed (R : Type 0) : Type 0 where
  pub kind : ℕ
  pub place : ℕ
  pub codec : Codec R
  pub id : R → ℕ
  pub most : ℕ
  pub blank : R

abbrev pub active_list : Listed ActiveLock
active_list = record { kind = 2; place = at_active; codec = wire.active; id = akey; most = 64; blank = blank_active }

abbrev pub defunct_list : Listed DefunctLock
defunct_list = record { kind = 3; place = at_defunct; codec = wire.defunct; id = dkey; most = 128; blank = blank_defunct }

-- the lowest id that may follow k: the next one where ids strictly ascend, k itself where they only must not fall
abbrev pub low_after : Bool → ℕ → ℕ
low_after strict k = cond strict (suc k) k

module _ {R : Type 0} (e : Listed R) where
  abbrev pub ahead : R → Got (List R) → Got (List R)
  ahead r (Err x) = Err x
  ahead r (Ok (rs, n)) = Ok (r ∷ rs, n)

  module _ (strict : Bool) where
    -- n records from `at` on, the first with an id from low on, each with an id that may follow the one before it
    unfoldable pub run_at : List ℕ → ℕ → ℕ → ℕ → Got (List R)
    run_at s zero low at = Ok ([], at)
    run_at s (suc n) low at =
        and_then (record_at e.codec e.place s at)
        (λ r next. cond (ltb (e.id r) low) (Err (BadOrder at)) (ahead r (run_at s n (low_after strict (e.id r)) next)))

-- ---- the whole image: its lists and the expected number
pub record Held : Type 0 where
  pub model : Model
  pub expected : ℕ

abbrev pub held_of : Head → List ActiveLock → List DefunctLock → Held
held_of h xs ys = record { model = record { revision = h.revision; active = xs; defunct = ys }; expected = h.expected }

-- the lists that HEAD counts, from `at` on, and nothing after them
unfoldable pub lists_at : Bool → List ℕ → Head → ℕ → Got Held
lists_at strict s h at =
    and_then (run_at active_list strict s h.actives 0 at)
    (λ xs next. and_then (run_at defunct_list strict s h.defuncts 0 next)
    (λ ys end. cond (ltb end (length s)) (Err (BadOrder end)) (Ok (held_of h xs ys, end))))

unfoldable pub held_by : Bool → List ℕ → Got Held
held_by strict s = and_then (record_at wire.head at_head s 0) (lists_at strict s)

-- an image's ids strictly ascend
abbrev pub held_in : List ℕ → Got Held
held_in s = held_by true s

abbrev pub spare_of : Held → Spare
spare_of h = record { state = state_of h.model; expected = h.expected }

abbrev pub no_spare : Spare
no_spare = spare_of record { model = empty_model; expected = 0 }

abbrev pub refusal : ImageRefusal → Imaged
refusal x = record { told = Err x; spare = no_spare }

abbrev pub imaged : Got Held → Imaged
imaged (Err x) = refusal x
imaged (Ok (h, n)) = record { told = Ok tt; spare = spare_of h }

-- the first half: what the records say, sound or not
unfoldable pub records_of : List ℕ → Imaged
records_of s = imaged (held_in s)

-- then the sound-state test
abbrev pub judged : Imaged → Result ⊤ Unsound → Imaged
judged i (Ok tt) = i
judged i (Err u) = refusal (unsound u)

abbrev pub tested : Imaged → Result ⊤ ImageRefusal → Imaged
tested i (Ok tt) = judged i (broken_rule i.spare.state)
tested i (Err x) = i

unfoldable pub read_on : List ℕ → Imaged
read_on s = tested (records_of s) (records_of s).told

-- ---- writing
module _ {R : Type 0} (e : Listed R) where
  abbrev pub bytes_of_one : R → List ℕ
  bytes_of_one r = record_of e.kind (encode_by e.codec r)

  abbrev pub bytes_of_run : List R → List ℕ
  bytes_of_run l = bytes_of_all bytes_of_one l

abbrev pub head_of : Model → ℕ → Head
head_of m n = record { revision = m.revision; expected = n; actives = length m.active; defuncts = length m.defunct }

unfoldable pub image_of : Model → ℕ → List ℕ
image_of m n = record_of 1 (encode_by wire.head (head_of m n)) ++ (bytes_of_run active_list m.active ++ bytes_of_run defunct_list m.defunct)

-- the answer, and the buffer as the call leaves it
pub record Written : Type 0 where
  pub told : Result ℕ WriteRefusal
  pub out : List ℕ

abbrev pub done : Result ℕ WriteRefusal → List ℕ → Written
done t out = record { told = t; out = out }

-- the bytes from the buffer's start on; the bytes past them stay
abbrev pub fitted : List ℕ → List ℕ → Written
fitted b out = cond (ltb (length out) (length b)) (done (Err (W.ShortOutput (length b))) out) (done (Ok (length b)) (b ++ drop (length b) out))

abbrev pub written_by : Result ⊤ Unsound → List ℕ → List ℕ → Written
written_by (Ok tt) b out = fitted b out
written_by (Err u) b out = done (Err (not_written u)) out

-- 12, then 21, then the bytes
unfoldable pub write_on : Spare → List ℕ → Written
write_on sp out = written_by (broken_rule sp.state) (image_of (model_of sp.state) sp.expected) out

-- ---- on paper: "17..20 Torn, BadKind, BadField, BadOrder (added), offset"; "21 ShortOutput (added), bytes needed"
unfoldable pub reading_paper : Result ⊤ ImageRefusal → Paper
reading_paper (Ok tt) = paper 0 []
reading_paper (Err (Torn at)) = paper 17 (at ∷ [])
reading_paper (Err (BadKind at)) = paper 18 (at ∷ [])
reading_paper (Err (BadField at)) = paper 19 (at ∷ [])
reading_paper (Err (BadOrder at)) = paper 20 (at ∷ [])
reading_paper (Err (UnsoundState rule)) = paper 12 (rule ∷ [])

unfoldable pub writing_paper : Result ℕ WriteRefusal → Paper
writing_paper (Ok bytes) = paper 0 (bytes ∷ [])
writing_paper (Err (W.UnsoundState rule)) = paper 12 (rule ∷ [])
writing_paper (Err (W.ShortOutput bytes)) = paper 21 (bytes ∷ [])
