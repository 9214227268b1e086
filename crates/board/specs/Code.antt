-- What only the contracts of the crate's own functions name: a reader of the board need not believe or read any of it.
use Rattle.std.specs.Prelude.{◌≡◌, ℕ, ◌+◌, ◌%◌, ◌<◌, ◌≤◌, Bool, cond, List, [], ◌∷◌, slice_index, Option, None, Some, unwrap_or}
use Rattle.lists.specs.Tests.{Yes, No}
use Rattle.ids.specs.declared.LockId.{LockId}
use Rattle.ids.specs.Order.{no_id}
use Rattle.records.specs.Wire.{id_bytes}
use Rattle.coverage.specs.declared.LockCoverage.{LockCoverage}
use Rattle.coverage.specs.Coverage.{covers}
use Rattle.board.specs.Board.{entry_of, board_by, entry_at}

-- just the ECUs that pass
abbrev pub Covers : LockCoverage → (ℕ → Bool) → Type 0
Covers c p = (e : ℕ) → covers c e ≡ p e

-- the entries of the ECUs in c are those of no locks
abbrev pub EmptyIn : LockCoverage → List ℕ → Type 0
EmptyIn c board = (e : ℕ) → e < 256 → Yes (covers c e) → entry_at board e ≡ entry_of [] e

-- r is the lowest number from `from` on that passes, or 256 where none below that does
pub record Next (p : ℕ → Bool) (from r : ℕ) : Type 0 where
  pub after : from ≤ r
  pub most : r ≤ 256
  pub passed : (e : ℕ) → from ≤ e → e < r → No (p e)
  pub here : r < 256 → Yes (p r)

-- what an entry's count is after one more lock, or emptied, where there is none
abbrev pub count_after : Option LockId → ℕ → ℕ
count_after (Some id) count = (count + 1) % 256
count_after None count = 0

-- an entry with one more lock, whose id is the lowest so far; or emptied, where there is none
unfoldable pub turned : Option LockId → List ℕ → List ℕ
turned lock old = count_after lock (slice_index old 0) ∷ id_bytes (unwrap_or lock no_id)

-- a board with the entries of the ECUs that pass turned
unfoldable pub touched : (ℕ → Bool) → Option LockId → List ℕ → List ℕ
touched p lock board = board_by (λ e. cond (p e) (turned lock (entry_at board e)) (entry_at board e))
