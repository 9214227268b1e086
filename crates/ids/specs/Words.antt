-- Id lists. Document 01: "An id list holds two u64 words an id, first half first"; 14 BadList: "an id list with an odd
-- number of 64-bit words". A word without its fellow names no id.
use Rattle.std.specs.Prelude.{ℕ, ◌%◌, Bool, cond, List, [], ◌∷◌, eqb, length}
use Rattle.lists.specs.Tests.{non}
use Rattle.lists.specs.Lists.{any}
use Rattle.ids.specs.declared.LockId.{LockId}
use Rattle.ids.specs.Order.{same_id, before_id}

abbrev pub ids_of : List ℕ → List LockId
ids_of [] = []
ids_of (h ∷ []) = []
ids_of (h ∷ (l ∷ ws)) = record { hi = h; lo = l } ∷ ids_of ws

-- 14
unfoldable pub odd_words : List ℕ → Bool
odd_words ws = non (eqb (length ws % 2) 0)

-- the id occurs in the list
unfoldable pub listed_in : List ℕ → LockId → Bool
listed_in ws i = any (same_id i) (ids_of ws)

-- ---- "repeats dropped, ascending"
abbrev pub insert_id : LockId → List LockId → List LockId
insert_id i [] = i ∷ []
insert_id i (j ∷ js) = cond (before_id i j) (i ∷ (j ∷ js)) (cond (same_id i j) (j ∷ js) (j ∷ insert_id i js))

abbrev pub insert_ids : List LockId → List LockId → List LockId
insert_ids [] js = js
insert_ids (i ∷ is) js = insert_ids is (insert_id i js)

abbrev pub ascending_ids : List ℕ → List LockId
ascending_ids ws = insert_ids (ids_of ws) []
