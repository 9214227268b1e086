-- The state as its revision and its two lists, and the way there and back.
-- Document 01: "Up to 64 active and 128 defunct locks, each list ascending by id; unused places are blank. These limits
-- and the empty state belong to the state's own type."
use Rattle.std.specs.Prelude.{Bool, ◌≡◌, List, [], ℕ, ◌≤◌, leb, length, take}
use Rattle.lists.specs.Tests.{◌and◌}
use Rattle.lists.specs.Places.{in_places}
use Rattle.state.specs.declared.ActiveLock.{ActiveLock}
use Rattle.state.specs.declared.DefunctLock.{DefunctLock}
use Rattle.state.specs.declared.LockState.{LockState}
use Rattle.state.specs.Locks.{blank_active, blank_defunct}

pub record Model : Type 0 where
  pub revision : ℕ
  pub active : List ActiveLock
  pub defunct : List DefunctLock

abbrev pub empty_model : Model
empty_model = record { revision = 0; active = []; defunct = [] }

abbrev pub model_of : LockState → Model
model_of s = record { revision = s.revision; active = take s.actives s.active; defunct = take s.defuncts s.defunct }

abbrev pub state_of : Model → LockState
state_of m = record { revision = m.revision; active = in_places 64 blank_active m.active; actives = length m.active; defunct = in_places 128 blank_defunct m.defunct; defuncts = length m.defunct }

-- ---- limits: how many active and defunct locks there may be
pub record Limits : Type 0 where
  pub active : ℕ
  pub defunct : ℕ

abbrev pub full : Limits
full = record { active = 64; defunct = 128 }

unfoldable pub fits : Limits → Model → Bool
fits k m = leb (length m.active) k.active and leb (length m.defunct) k.defunct

-- a state whose counts fit and whose unused places are blank is made again from its lists
pub record Tidy (s : LockState) : Type 0 where
  pub active : s.actives ≤ 64
  pub defunct : s.defuncts ≤ 128
  pub same : state_of (model_of s) ≡ s
