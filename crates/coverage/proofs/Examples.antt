-- The test for overlap, computed: 02's cases, the borders of the words, 0 and 255. Assumes nothing.
use mathlib.Core.Path.{◌≡◌, refl}
use mathlib.Core.Bool.{true}
use mathlib.Core.List.{List, [], ◌∷◌}
use Prim.Native.Nat.{ℕ}
use Rattle.lists.specs.Tests.{◌and◌, ◌or◌}
use Rattle.lists.specs.Below.{any_below, lowest_below}
use Rattle.coverage.specs.declared.LockCoverage.{LockCoverage}
use Rattle.std.specs.Prelude.{Some, None}
use Rattle.coverage.specs.Coverage.{no_coverage, whole_vehicle, word_of, in_set, covers, overlap, spot_of, shared, with_ecus}

abbrev set : List ℕ → LockCoverage
set es = with_ecus no_coverage es

-- the whole vehicle with ECU 3 in its words: they are not looked at
abbrev whole_with_bits : LockCoverage
whole_with_bits = record { w0 = 8; w1 = 0; w2 = 0; w3 = 0; whole = true }

pub examples :
    (shared (set (5 ∷ 6 ∷ [])) (set (3 ∷ 5 ∷ 6 ∷ [])) ≡ Some (Some 5))
    × (shared (set (5 ∷ [])) (set (6 ∷ 69 ∷ [])) ≡ None)
    × (shared (set []) (set []) ≡ None)
    × (shared (set (0 ∷ 63 ∷ [])) (set (0 ∷ [])) ≡ Some (Some 0))
    × (shared (set (63 ∷ 64 ∷ [])) (set (64 ∷ 127 ∷ [])) ≡ Some (Some 64))
    × (shared (set (127 ∷ 255 ∷ [])) (set (128 ∷ 255 ∷ [])) ≡ Some (Some 255))
    × (shared whole_vehicle (set (192 ∷ 200 ∷ [])) ≡ Some (Some 192))
    × (shared (set (7 ∷ [])) whole_with_bits ≡ Some (Some 7))
    × (shared whole_vehicle whole_with_bits ≡ Some None)
    × (shared whole_vehicle (set []) ≡ Some None)
    × (shared (set []) whole_vehicle ≡ Some None)
unfolding word_of in_set covers overlap spot_of shared any_below lowest_below ◌and◌ ◌or◌
examples = (refl, refl, refl, refl, refl, refl, refl, refl, refl, refl, refl)
