use Rattle.std.proofs.Common.{ℕ, ◌-◌, ◌<◌, ◌≤◌}
use Rattle.lists.specs.Tests.{No}
use Rattle.board.proofs.Covering.{set_in}
use Rattle.board.proofs.ecus.next_from.Given as goal

abbrev pub invariant-loop-at : goal.invariant-loop-at
invariant-loop-at l = (l.from ≤ l.at) × (l.at ≤ 256) × ((e : ℕ) → l.from ≤ e → e < l.at → No (set_in l.words e))

abbrev pub decreases-loop-at : goal.decreases-loop-at
decreases-loop-at l = 256 - l.at
