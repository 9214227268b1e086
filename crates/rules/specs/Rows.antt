-- A list of rows, locks or entries, each with a key, which is its id's.
use Rattle.std.specs.Prelude.{Bool, ℕ, eqb}

-- whether the row x has the key k, where f gives each row its key
abbrev pub keyed : {A : Type 0} → (A → ℕ) → ℕ → A → Bool
keyed f k x = eqb (f x) k
