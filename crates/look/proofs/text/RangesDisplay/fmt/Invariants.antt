use Rattle.std.proofs.Common.{◌-◌}
use denote.Text.{Utf8}
use denote.Shadow.{shadow}
use Rattle.look.proofs.text.RangesDisplay.fmt.Given as goal

abbrev pub invariant-loop-at : goal.invariant-loop-at
invariant-loop-at g l = shadow (Utf8 l.comma)

abbrev pub decreases-loop-at : goal.decreases-loop-at
decreases-loop-at g l = 256 - l.at
