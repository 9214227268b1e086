-- What can be done to a running spare, in any mixture, for demand 3: "From any accepted image, or from empty, any sequence of
-- operations keeps rules 0 to 9". One of the eight operations, or delete_defunct, which no feed asks for, in a direct call;
-- the record at a place of any bytes. Assumes nothing.
use Rattle.std.specs.Prelude.{ℕ, List, [], ◌∷◌}
use Rattle.ids.specs.declared.LockId.{LockId}
use Rattle.state.specs.declared.ScopeKey.{ScopeKey}
use Rattle.state.specs.declared.LockState.{LockState}
use Rattle.locks.specs.Locks.{delete_defunct_on}
use Rattle.promises.specs.Steps.{Op, step_on as directOn}
use Rattle.image.specs.declared.Spare.{Spare}
use Rattle.feed.specs.Feed.{step_on}

pub data Deed : Type 0 where
  operation : Op → Deed
  delete_defunct : LockId → ScopeKey → ℕ → Deed
  feeding : List ℕ → ℕ → Deed

-- a direct call leaves the expected number
abbrev pub left : Spare → LockState → Spare
left spare state = record { state = state; expected = spare.expected }

unfoldable pub deed_on : Spare → Deed → Spare
deed_on spare (operation op) = left spare (directOn spare.state op)
deed_on spare (delete_defunct id scope subject) = left spare (delete_defunct_on spare.state id scope subject).state
deed_on spare (feeding bytes at) = (step_on spare bytes at).spare

-- every spare met, the first and the last included
abbrev pub met : Spare → List Deed → List Spare
met spare [] = spare ∷ []
met spare (deed ∷ deeds) = spare ∷ met (deed_on spare deed) deeds
