-- A coverage as text: where its ranges begin and end. Assumes nothing.
use Rattle.std.specs.Prelude.{ℕ, zero, suc, ◌-◌, Bool, cond}
use Rattle.lists.specs.Tests.{non}
use Rattle.coverage.specs.declared.LockCoverage.{LockCoverage}
use Rattle.coverage.specs.Coverage.{covers}

-- the coverage has ECU e, or it has not
unfoldable pub is_edge : LockCoverage → Bool → ℕ → Bool
is_edge c inside e = cond inside (covers c e) (non (covers c e))

-- the first such number from e on, of k numbers, or the one after them
unfoldable pub edge_from : LockCoverage → Bool → ℕ → ℕ → ℕ
edge_from c inside zero e = e
edge_from c inside (suc k) e = cond (is_edge c inside e) e (edge_from c inside k (suc e))

-- the first such ECU from `from` on; 256, or `from` past that, where there is none
unfoldable pub edge_of : LockCoverage → Bool → ℕ → ℕ
edge_of c inside from = edge_from c inside (256 - from) from
