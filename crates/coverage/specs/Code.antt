-- What only contracts of the crate's own functions say.
use Rattle.std.specs.Prelude.{ℕ, ◌+◌, false}
use Rattle.std.specs.Int.Bits.{bit_and}
use Rattle.std.specs.Int.Count.{count_trailing_zeros}
use Rattle.coverage.specs.declared.LockCoverage.{LockCoverage}
use Rattle.std.specs.Prelude.{Option, Some}

-- the ECU of the word's lowest bit, the first of which stands for ECU `from`
abbrev pub ecu_of : ℕ → ℕ → Option ℕ
ecu_of w from = Some (from + count_trailing_zeros 64 w)

-- the ECUs that are in both sets
abbrev pub in_both : LockCoverage → LockCoverage → LockCoverage
in_both a b = record { w0 = bit_and a.w0 b.w0; w1 = bit_and a.w1 b.w1; w2 = bit_and a.w2 b.w2; w3 = bit_and a.w3 b.w3; whole = false }
