-- "NoRoom exactly where the Rust would end over 64 active or 128 defunct locks", and 01: "13 looks only at the final state."
-- The same operation without limits is the one under limits that nothing it can leave is over: from at most 64 and 128 it
-- leaves at most one active lock more, and at most every active lock as a defunct entry more (proofs/Room.antt shows it).
use Rattle.std.specs.Prelude.{Bool, leb}
use Rattle.lists.specs.Tests.{◌and◌}
use Rattle.state.specs.declared.LockState.{LockState}
use Rattle.state.specs.Model.{Limits}

abbrev pub unlimited : Limits
unlimited = record { active = 65; defunct = 192 }

-- the state's counts are within the limits
unfoldable pub within : Limits → LockState → Bool
within limits state = leb state.actives limits.active and leb state.defuncts limits.defunct
