-- The frame of a record. Assumes nothing.
use Rattle.std.specs.Prelude.{ℕ, ◌+◌, ◌-◌, cond, List, [], ◌∷◌, ◌++◌, length, eqb, ltb}
use Rattle.lists.specs.Tests.{non}
use Rattle.lists.specs.Papers.{Paper, paper}
use Rattle.records.specs.declared.kinds.Kind.{Kind}
use Rattle.std.specs.Prelude.{Result, Option, Ok, Err, Some, None}
use Rattle.records.specs.declared.frame.Frame.{Frame}
use Rattle.records.specs.declared.frame.Unread.{Unread}
use Rattle.records.specs.declared.frame.Unread.TheVariants.{Torn, BadKind, BadField}
use Rattle.records.specs.Numbers.{little, field, bytes_of}
use Rattle.records.specs.Table.{row_of, units_in, possible}

-- of a record at `at` that has the length n: kind (u16) and body follow the length (u16), and the length counts both
abbrev pub span_of : Kind → ℕ → ℕ → Frame
span_of r n at = record { kind = r.kind; start = at + 4; size = n - 2; units = units_in r n; next = at + 2 + n }

-- 01: "kind not due here, 18; length impossible for the kind, 19; bytes missing, 17"
unfoldable pub frame_of : Kind → ℕ → ℕ → ℕ → ℕ → Result Frame Unread
frame_of r n at left due =
    cond (non (eqb r.place due)) (Err (BadKind at))
    (cond (non (possible r n)) (Err (BadField at))
    (cond (ltb left (n + 2)) (Err (Torn at))
    (Ok (span_of r n at))))

-- a kind that is not in the table is due nowhere
abbrev pub frame_by : Option Kind → ℕ → ℕ → ℕ → ℕ → Result Frame Unread
frame_by (Some r) n at left due = frame_of r n at left due
frame_by None n at left due = Err (BadKind at)

-- 01: "under four bytes left, 17"; then as above
unfoldable pub frame_at : List ℕ → ℕ → ℕ → Result Frame Unread
frame_at s at due =
    cond (ltb (length s - at) 4) (Err (Torn at))
    (frame_by (row_of (field (little 2) s (at + 2))) (field (little 2) s at) at (length s - at) due)

-- 01: "A record is a length (u16, bytes after itself), a kind (u16), a body"
unfoldable pub record_of : ℕ → List ℕ → List ℕ
record_of k b = bytes_of (little 2) (length b + 2) ++ (bytes_of (little 2) k ++ b)

-- on paper: of a refusal, the offset; of a record, the frame
unfoldable pub framed_paper : Result Frame Unread → Paper
framed_paper (Err (Torn at)) = paper 17 (at ∷ [])
framed_paper (Err (BadKind at)) = paper 18 (at ∷ [])
framed_paper (Err (BadField at)) = paper 19 (at ∷ [])
framed_paper (Ok f) = paper 0 (f.kind ∷ f.start ∷ f.size ∷ f.units ∷ f.next ∷ [])
