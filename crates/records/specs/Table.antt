-- The kinds of records and their lengths, as document 01 lists them. Assumes nothing.
use Rattle.std.specs.Prelude.{ℕ, ◌+◌, ◌-◌, ◌*◌, ◌/◌, Bool, List, [], ◌∷◌, eqb, leb}
use Rattle.std.specs.Prelude.{Option, None, Some}
use Rattle.lists.specs.Tests.{◌and◌}
use Rattle.lists.specs.Lists.{find}
use Rattle.records.specs.declared.kinds.Kind.{Kind}

abbrev pub row : ℕ → ℕ → ℕ → ℕ → Kind
row k n u p = record { kind = k; base = n; unit = u; place = p }

-- where a kind is due: the three places of an image, and the feed
abbrev pub at_head : ℕ
at_head = 1

abbrev pub at_active : ℕ
at_active = 2

abbrev pub at_defunct : ℕ
at_defunct = 3

abbrev pub in_feed : ℕ
in_feed = 4

-- 01: "1 HEAD 18; 2 ACTIVE 89; 3 DEFUNCT 102; 16 insert 93; 17 insert vehicle 95; 18 renew 43; 19 delete 22;
-- 20 begin expiration 30; 21 replace 107; 22 acknowledge 22; 23 expire defunct 14. Kinds 17 and 21 add 16 for each of 0..=64 ids."
unfoldable pub rows : List Kind
rows =
    row 1 18 0 at_head ∷ row 2 89 0 at_active ∷ row 3 102 0 at_defunct
    ∷ row 16 93 0 in_feed ∷ row 17 95 16 in_feed ∷ row 18 43 0 in_feed ∷ row 19 22 0 in_feed
    ∷ row 20 30 0 in_feed ∷ row 21 107 16 in_feed ∷ row 22 22 0 in_feed ∷ row 23 14 0 in_feed ∷ []

abbrev pub is_kind : ℕ → Kind → Bool
is_kind k r = eqb r.kind k

unfoldable pub row_of : ℕ → Option Kind
row_of k = find (is_kind k) rows

-- the units that a length n leaves past the base; a kind without a unit has none (a quotient by 0 is 0)
unfoldable pub units_in : Kind → ℕ → ℕ
units_in r n = (n - r.base) / r.unit

-- a length that the kind can have: the base, and the unit for each of 0..=64
unfoldable pub possible : Kind → ℕ → Bool
possible r n = leb (units_in r n) 64 and eqb (r.base + r.unit * units_in r n) n

-- the base of a kind: what a record without units has as its length; 0 where there is no such kind
abbrev pub base_in : Option Kind → ℕ
base_in (Some r) = r.base
base_in None = 0

unfoldable pub length_of : ℕ → ℕ
length_of k = base_in (row_of k)

-- and with n units
abbrev pub with_units : ℕ → Option Kind → ℕ
with_units n (Some r) = r.base + r.unit * n
with_units n None = 0

unfoldable pub length_with : ℕ → ℕ → ℕ
length_with k n = with_units n (row_of k)
