-- Which ECUs a coverage has, when and where two coverages overlap, and when one contains another.
-- Document 01, "Numbers that stand for things": "Coverage: the whole vehicle, or a set of ECUs, which may be empty";
-- and the last paragraph of "A sound state"; document 02, C-13. Every definition goes by ECU numbers 0..=255.
use Rattle.std.specs.Prelude.{ℕ, zero, suc, ◌/◌, ◌%◌, ◌^◌, Bool, true, false, cond, List, eqb, fold}
use Rattle.std.specs.Prelude.{Option, None, Some}
use Rattle.std.specs.Int.Bits.{bit_or}
use Rattle.bits.specs.Bits.{bit_at}
use Rattle.lists.specs.Tests.{◌and◌, ◌or◌, ◌imp◌, non}
use Rattle.lists.specs.Below.{any_below, all_below, lowest_below}
use Rattle.coverage.specs.declared.LockCoverage.{LockCoverage}

abbrev pub no_coverage : LockCoverage
no_coverage = record { w0 = 0; w1 = 0; w2 = 0; w3 = 0; whole = false }

abbrev pub whole_vehicle : LockCoverage
whole_vehicle = record { w0 = 0; w1 = 0; w2 = 0; w3 = 0; whole = true }

-- the word that has the bits of the ECUs 64 i .. 64 i + 63
unfoldable pub word_of : LockCoverage → ℕ → ℕ
word_of c zero = c.w0
word_of c (suc zero) = c.w1
word_of c (suc (suc zero)) = c.w2
word_of c (suc (suc (suc i))) = c.w3

-- ECU e is in the set
unfoldable pub in_set : LockCoverage → ℕ → Bool
in_set c e = bit_at (word_of c (e / 64)) (e % 64)

-- ECU e is covered: by the whole vehicle, or by the set
unfoldable pub covers : LockCoverage → ℕ → Bool
covers c e = c.whole or in_set c e

-- "Whole-vehicle coverage overlaps everything, the empty set included"; two sets overlap where some ECU is in both
unfoldable pub overlap : LockCoverage → LockCoverage → Bool
overlap a b = a.whole or b.whole or any_below 256 (λ e. in_set a e and in_set b e)

-- b lies within a: the whole vehicle "contains everything. A set never contains the whole vehicle"; a set contains a set
-- whose ECUs are all in it
unfoldable pub within : LockCoverage → LockCoverage → Bool
within b a = a.whole or (non b.whole and all_below 256 (λ e. in_set b e imp in_set a e))

-- ---- document 02, C-13
-- "the set's lowest"
unfoldable pub lowest_in : LockCoverage → Option ℕ
lowest_in c = lowest_below 256 (in_set c)

-- "the lowest shared ECU number": the lowest that both cover; "of two whole vehicles" none
unfoldable pub spot_of : LockCoverage → LockCoverage → Option ℕ
spot_of a b = cond (a.whole and b.whole) None (lowest_below 256 (λ e. covers a e and covers b e))

-- "The test for overlap, which answered yes or no": apart where it was no, else where the two meet
unfoldable pub shared : LockCoverage → LockCoverage → Option (Option ℕ)
shared a b = cond (overlap a b) (Some (spot_of a b)) None

-- words of the laws on it (proofs/Shared.antt): its yes or no; "an overlap with no ECU"; "the empty set"
abbrev pub is_met : Option (Option ℕ) → Bool
is_met None = false
is_met (Some at) = true

abbrev pub is_no_ecu : Option ℕ → Bool
is_no_ecu None = true
is_no_ecu (Some e) = false

abbrev pub is_met_at_none : Option (Option ℕ) → Bool
is_met_at_none None = false
is_met_at_none (Some at) = is_no_ecu at

unfoldable pub is_empty : LockCoverage → Bool
is_empty c = non c.whole and non (any_below 256 (in_set c))

-- ---- a set from a list of ECU numbers
-- ECU e joins the set: its bit is set in its word
abbrev pub bit_in : ℕ → ℕ → ℕ → ℕ
bit_in w i e = cond (eqb (e / 64) i) (bit_or w (2 ^ (e % 64))) w

abbrev pub with_ecu : LockCoverage → ℕ → LockCoverage
with_ecu c e = record { w0 = bit_in c.w0 0 e; w1 = bit_in c.w1 1 e; w2 = bit_in c.w2 2 e; w3 = bit_in c.w3 3 e; whole = c.whole }

abbrev pub with_ecus : LockCoverage → List ℕ → LockCoverage
with_ecus c ecus = fold with_ecu c ecus
