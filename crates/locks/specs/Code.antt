-- What only the contracts of the crate's own functions name: the judgement on a defunct entry. A reader need not believe or read any of it; the public contracts are the `.._on` definitions alone.
use Rattle.std.specs.Prelude.{cond, ℕ, eqb}
use Rattle.std.specs.Prelude.{Option, None, Some}
use Rattle.state.specs.declared.ScopeKey.{ScopeKey}
use Rattle.state.specs.declared.DefunctLock.{DefunctLock}
use Rattle.state.specs.Locks.{same_scope}
use Rattle.std.specs.Prelude.{Result, Ok, Err, Bool, true, false}
use Rattle.locks.specs.declared.DroppingRefusal.{DroppingRefusal}
use Rattle.locks.specs.declared.DroppingRefusal.TheVariants.{Forbidden}

-- delete_defunct: whether the entry may go
unfoldable pub judge_entry : ScopeKey → ℕ → DefunctLock → Result Bool DroppingRefusal
judge_entry k subject d = cond (same_scope d.lock.scope k) (cond (eqb d.lock.subject subject) (Ok true) (Err Forbidden)) (Ok false)

abbrev pub judge_drop : ScopeKey → ℕ → Option DefunctLock → Result Bool DroppingRefusal
judge_drop k subject None = Ok false
judge_drop k subject (Some d) = judge_entry k subject d
