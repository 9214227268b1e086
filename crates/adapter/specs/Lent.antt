-- What is told and what stands behind the reference afterwards, as the one value that an operation returns. Document 01:
-- "the adapter's one running state is lent for change": a thin function is right where this pair is its operation's result.
-- Assumes nothing.
use Rattle.std.specs.Prelude.{ℕ, Result, Ok, Err}
use Rattle.state.specs.declared.LockState.{LockState}
use Rattle.operations.specs.declared.answers.Left.{Left}
use Rattle.locks.specs.declared.UpdateRefusal.{UpdateRefusal}
use Rattle.locks.specs.Locks.{prepare_update_on}
use Rattle.image.specs.declared.Spare.{Spare}
use Rattle.feed.specs.declared.events.Told.{Told}
use Rattle.feed.specs.declared.events.Step.{Step}
use Rattle.board.specs.declared.BoardTold.{BoardTold}
use Rattle.board.specs.declared.BoardStep.{BoardStep}
use Rattle.adapter.specs.declared.Updated.{Updated}

-- whatever kind of thing the operation tells
abbrev pub left : {T : Type 0} → T → LockState → Left T
left t s = record { told = t; state = s }

-- ---- prepare_runtime_update: "else the generation (u64, kept outside state and image) rises by 1", so a refusal keeps it
abbrev pub updated : Result ℕ UpdateRefusal → ℕ → Updated
updated t g = record { told = t; generation = g }

abbrev pub held_after : Result ℕ UpdateRefusal → ℕ → ℕ
held_after (Err why) g = g
held_after (Ok n) g = n

unfoldable pub update_on : LockState → ℕ → Updated
update_on s g = updated (prepare_update_on s g) (held_after (prepare_update_on s g) g)

-- ---- a step over the feed, on the spare's state and expected number
abbrev pub stepped : Told → Spare → Step
stepped t s = record { told = t; spare = s }

-- ---- the same with a board
abbrev pub board_stepped : BoardTold → Spare → BoardStep
board_stepped t s = record { told = t; spare = s }
