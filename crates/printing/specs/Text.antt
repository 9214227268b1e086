-- Ids as text. Document 01, "Numbers that stand for things": "Lock id: 16 bytes, compared from the first byte"; "lowercase UUID
-- text, which sorts alike". Assumes nothing.
use Rattle.std.specs.Prelude.{ℕ, ◌+◌, ◌/◌, ◌%◌, ◌^◌, List, [], ◌∷◌, ◌++◌, cond, nat_lt}
use Rattle.ids.specs.declared.LockId.{LockId}

-- a digit below 16: 48 is 0, and 87 is ten before a
abbrev pub hex_digit_ascii : ℕ → ℕ
hex_digit_ascii d = cond (nat_lt d 10) (48 + d) (87 + d)

-- the last four hexadecimal digits
unfoldable pub four_of : ℕ → List ℕ
four_of x = hex_digit_ascii (x / 2 ^ 12 % 16) ∷ hex_digit_ascii (x / 2 ^ 8 % 16) ∷ hex_digit_ascii (x / 2 ^ 4 % 16) ∷ hex_digit_ascii (x % 16) ∷ []

-- 45 is a dash
abbrev pub dashed : List ℕ → List ℕ → List ℕ
dashed a b = a ++ (45 ∷ b)

-- 8-4-4-4-12 digits with dashes between them
unfoldable pub id_text : LockId → List ℕ
id_text id = dashed (four_of (id.hi / 2 ^ 48) ++ four_of (id.hi / 2 ^ 32)) (dashed (four_of (id.hi / 2 ^ 16)) (dashed (four_of id.hi) (dashed (four_of (id.lo / 2 ^ 48)) (four_of (id.lo / 2 ^ 32) ++ (four_of (id.lo / 2 ^ 16) ++ four_of id.lo)))))
