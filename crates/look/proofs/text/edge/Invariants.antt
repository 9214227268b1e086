use mathlib.Core.Path.{◌≡◌}
use Rattle.look.specs.Text.{edge_of}
use Rattle.look.proofs.text.edge.Given as goal

abbrev pub invariant-loop-e : goal.invariant-loop-e
invariant-loop-e l = edge_of l.c l.inside l.e ≡ edge_of l.c l.inside l.from
