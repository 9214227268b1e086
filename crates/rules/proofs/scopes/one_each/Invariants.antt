use mathlib.Core.Path.{◌≡◌}
use mathlib.Core.Bool.{true}
use Rattle.lists.specs.Below.{all_below}
use Rattle.rules.specs.Code.{code_at, alone_at}
use Rattle.rules.proofs.Scans.{Marked}
use Rattle.rules.proofs.scopes.one_each.Given as goal

abbrev pub invariant-loop-a : goal.invariant-loop-a
invariant-loop-a l = Marked (code_at l.active) l.a-index l.seen × (all_below l.a-index (alone_at l.active) ≡ true)
