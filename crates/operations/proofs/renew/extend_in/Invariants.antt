use mathlib.Core.Path.{◌≡◌}
use mathlib.Core.List.{map, ◌++◌}
use lib.ListN.{take, drop}
use Rattle.operations.specs.Renew.{extend_at}
use Rattle.operations.proofs.renew.extend_in.Given as goal

abbrev pub invariant-loop-a : goal.invariant-loop-a
invariant-loop-a l = l.locks ≡ map (extend_at l.id l.expires l.given l.metadata) (take l.a-index l.fn.locks) ++ drop l.a-index l.fn.locks
