-- Lock ids. Document 01, "Numbers that stand for things": an id is 16 bytes, compared from the first byte.
use Rattle.std.specs.Prelude.{ℕ, ◌+◌, ◌*◌, ◌^◌, Bool, eqb, ltb}
use Rattle.ids.specs.declared.LockId.{LockId}

-- the sixteen bytes as one number: the first byte weighs most, so ids are compared by it
unfoldable pub key : LockId → ℕ
key i = i.hi * 2 ^ 64 + i.lo

unfoldable pub same_id : LockId → LockId → Bool
same_id a b = eqb (key a) (key b)

unfoldable pub before_id : LockId → LockId → Bool
before_id a b = ltb (key a) (key b)

abbrev pub no_id : LockId
no_id = record { hi = 0; lo = 0 }
