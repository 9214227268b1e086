use Rattle.std.proofs.Common.{◌≡◌, take}
use Rattle.lists.specs.Lists.{all}
use Rattle.rules.specs.Code.{clean}
use Rattle.rules.proofs.rows.blank.Given as goal

abbrev pub invariant-loop-x : goal.invariant-loop-x
invariant-loop-x g l = clean l.dirt ≡ all g.T.Row.is_blank (take l.x-index l.rows)
