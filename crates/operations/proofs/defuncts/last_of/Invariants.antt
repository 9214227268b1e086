use mathlib.Core.List.{List}
use Rattle.std.specs.Prelude.{None}
use mathlib.Core.Path.{◌≡◌}
use Prim.Native.Nat.{◌-◌}
use Rattle.state.specs.declared.DefunctLock.{DefunctLock}
use Rattle.operations.specs.Code.{entry_at, last_from, Led}
use Rattle.operations.proofs.defuncts.last_of.Given as goal

abbrev pub invariant-loop : goal.invariant-loop
invariant-loop l = (gone : List DefunctLock) → Led gone l.n l.next → last_from (l.n - l.counter) gone (entry_at gone l.at) (entry_at gone l.last) ≡ last_from l.n gone (entry_at gone l.initial.at) (entry_at gone l.initial.last)
