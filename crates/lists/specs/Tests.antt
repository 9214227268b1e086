-- The connectives of the definitions, on tests (Bool). They are shut (`unfoldable`), so that a fact shows its parts.
-- The code's `&`, `|` and `!` are proved equal to them in proofs/Tests.antt.
use Rattle.std.specs.Prelude.{Bool, true, false, ◌≡◌}

infixl 35 ◌and◌
infixl 30 ◌or◌
infixr 25 ◌imp◌
unfoldable pub ◌and◌ : Bool → Bool → Bool
true and b = b
false and b = false

unfoldable pub ◌or◌ : Bool → Bool → Bool
true or b = true
false or b = b

unfoldable pub ◌imp◌ : Bool → Bool → Bool
true imp b = b
false imp b = true

unfoldable pub non : Bool → Bool
non true = false
non false = true

abbrev pub Yes : Bool → Type 0
Yes b = b ≡ true

abbrev pub No : Bool → Type 0
No b = b ≡ false
