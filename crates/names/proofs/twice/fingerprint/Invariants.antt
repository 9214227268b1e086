use mathlib.Core.Path.{◌≡◌}
use Prim.Native.Nat.{◌<◌}
use lib.ListN.{drop}
use Rattle.names.specs.Code.{print_from, print_of}
use Rattle.names.proofs.twice.fingerprint.Given as goal

abbrev pub invariant-loop-b : goal.invariant-loop-b
invariant-loop-b l = (l.h < 4294967296) × (print_from l.h (drop l.b-index l.name) ≡ print_of l.name)
