-- A test at each, or at some, number below a bound, and the lowest number that passes.
use Rattle.std.specs.Prelude.{ℕ, zero, suc, Bool, true, false, cond}
use Rattle.std.specs.Prelude.{Option, None, Some}
use Rattle.lists.specs.Tests.{◌and◌, ◌or◌}

-- each number below n passes
unfoldable pub all_below : ℕ → (ℕ → Bool) → Bool
all_below zero f = true
all_below (suc n) f = all_below n f and f n

-- some number below n passes
unfoldable pub any_below : ℕ → (ℕ → Bool) → Bool
any_below zero f = false
any_below (suc n) f = any_below n f or f n

-- the lowest number below n that passes: one found earlier, else n's own
abbrev pub or_else : Option ℕ → Option ℕ → Option ℕ
or_else (Some k) other = Some k
or_else None other = other

unfoldable pub lowest_below : ℕ → (ℕ → Bool) → Option ℕ
lowest_below zero f = None
lowest_below (suc n) f = or_else (lowest_below n f) (cond (f n) (Some n) None)
