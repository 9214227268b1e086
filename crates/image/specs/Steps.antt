-- One record of an image at a time: where its body stands, as the reader hands it out, and what it says. Assumes nothing.
use Rattle.std.specs.Prelude.{ℕ, ◌+◌, List, [], ◌∷◌}
use Rattle.lists.specs.Papers.{Paper, paper}
use Rattle.state.specs.declared.ActiveLock.{ActiveLock}
use Rattle.state.specs.declared.DefunctLock.{DefunctLock}
use Rattle.std.specs.Prelude.{Result, Ok, Err, ⊤}
use Rattle.records.specs.declared.frame.Unread.{Unread}
use Rattle.records.specs.declared.frame.Frame.{Frame}
use Rattle.records.specs.declared.bodies.Head.{Head}
use Rattle.records.specs.Table.{at_head, at_active, at_defunct}
use Rattle.records.specs.Framing.{frame_at}
use Rattle.records.specs.Wire as wire
use Rattle.image.specs.declared.ImageRefusal.{ImageRefusal}
use Rattle.image.specs.declared.reader.Due.{Due}
use Rattle.image.specs.declared.reader.Due.TheVariants as D
use Rattle.image.specs.declared.reader.Stepped.{Stepped}
use Rattle.image.specs.Refusals.{unread}
use Rattle.image.specs.Image.{record_at, reading_paper}

abbrev pub place_of : Due → ℕ
place_of D.Head = at_head
place_of D.Active = at_active
place_of D.Defunct = at_defunct

-- a refusal keeps the place
abbrev pub stay : ImageRefusal → ℕ → Stepped
stay x at = record { step = Err x; at = at }

-- of a record that starts at `at`: its body from the first byte to the place past the last
abbrev pub step_by : ℕ → Result Frame Unread → Stepped
step_by at (Err u) = stay (unread u) at
step_by at (Ok f) = record { step = Ok (f.start, f.start + f.size); at = f.next }

-- the record that is due at `at`
unfoldable pub step_of : List ℕ → ℕ → Due → Stepped
step_of s at due = step_by at (frame_at s at (place_of due))

-- ---- the record itself, and the place after it
unfoldable pub head_at : List ℕ → ℕ → Result (Head × ℕ) ImageRefusal
head_at s at = record_at wire.head at_head s at

unfoldable pub active_at : List ℕ → ℕ → Result (ActiveLock × ℕ) ImageRefusal
active_at s at = record_at wire.active at_active s at

unfoldable pub defunct_at : List ℕ → ℕ → Result (DefunctLock × ℕ) ImageRefusal
defunct_at s at = record_at wire.defunct at_defunct s at

-- ---- on paper: 0 and the body's place, or the place after the record and its numbers
unfoldable pub step_paper : Result (ℕ × ℕ) ImageRefusal → Paper
step_paper (Ok (from, end)) = paper 0 (from ∷ end ∷ [])
step_paper (Err x) = reading_paper (Err x)

unfoldable pub head_paper : Result (Head × ℕ) ImageRefusal → Paper
head_paper (Ok (h, next)) = paper 0 (next ∷ (wire.head).numbers h)
head_paper (Err x) = reading_paper (Err x)

unfoldable pub active_paper : Result (ActiveLock × ℕ) ImageRefusal → Paper
active_paper (Ok (a, next)) = paper 0 (next ∷ (wire.active).numbers a)
active_paper (Err x) = reading_paper (Err x)

unfoldable pub defunct_paper : Result (DefunctLock × ℕ) ImageRefusal → Paper
defunct_paper (Ok (d, next)) = paper 0 (next ∷ (wire.defunct).numbers d)
defunct_paper (Err x) = reading_paper (Err x)
