-- The answers. Document 01: "A known name gives its number, a new one the next number"; "27, 22, 23: BadTable, NameTooLong,
-- NamesFull (added; in this order)"; a known name gives its number even in a full table.
use Rattle.std.specs.Prelude.{ℕ, ◌+◌, Bool, true, false, cond, List, [], ◌∷◌, leb, ltb, length}
use Rattle.lists.specs.Tests.{non}
use Rattle.std.specs.Prelude.{Result, Ok, Err, Option, Some, None}
use Rattle.names.specs.declared.TableRefusal.{TableRefusal}
use Rattle.names.specs.declared.TableRefusal.TheVariants as table
use Rattle.names.specs.declared.NameRefusal.{NameRefusal}
use Rattle.names.specs.declared.NameRefusal.TheVariants.{BadTable, NameTooLong, NamesFull}
use Rattle.names.specs.declared.Named.{Named}
use Rattle.names.specs.declared.Named.TheVariants.{Known, Learned}
use Rattle.names.specs.declared.Place.{Place}
use Rattle.names.specs.Bytes.{kept, known, place_of}
use Rattle.names.specs.Table.{longest, most, count_of, entry_start, entry_at, length_of, name_of, names_of, right_table, learned}

-- how many names a table has: 27, or the count
unfoldable pub count_in : Bool → List ℕ → Result ℕ TableRefusal
count_in folding t = cond (non (right_table folding t)) (Err table.BadTable) (Ok (count_of t))

abbrev pub paper_count : Result ℕ TableRefusal → ℕ
paper_count (Err table.BadTable) = 27
paper_count (Ok n) = 0

abbrev pub values_count : Result ℕ TableRefusal → List ℕ
values_count (Err table.BadTable) = []
values_count (Ok n) = n ∷ []

-- the answer, and the buffer as the call leaves it
pub record Done : Type 0 where
  pub told : Result Named NameRefusal
  pub table : List ℕ

abbrev pub done : Result Named NameRefusal → List ℕ → Done
done n t = record { told = n; table = t }

-- a name's number: 27, 22, a known name's own, 23, the next
unfoldable pub number_of : Bool → List ℕ → List ℕ → Done
number_of folding t name =
    cond (non (right_table folding t)) (done (Err BadTable) t)
    (cond (ltb longest (length name)) (done (Err NameTooLong) t)
    (cond (known (kept folding name) (names_of t)) (done (Ok (Known (place_of (kept folding name) (names_of t)))) t)
    (cond (leb most (count_of t)) (done (Err NamesFull) t)
    (done (Ok (Learned (count_of t))) (learned t (kept folding name))))))

-- document 01's number of each answer; 0 where it is none of the refusals
abbrev pub paper_of : Result Named NameRefusal → ℕ
paper_of (Err BadTable) = 27
paper_of (Err NameTooLong) = 22
paper_of (Err NamesFull) = 23
paper_of (Ok (Known n)) = 0
paper_of (Ok (Learned n)) = 0

-- and its values: the name's number. Document 01 says no more of a known name than of a new one; the third tells them apart.
abbrev pub values_of : Result Named NameRefusal → List ℕ
values_of (Err BadTable) = []
values_of (Err NameTooLong) = []
values_of (Err NamesFull) = []
values_of (Ok (Known n)) = n ∷ []
values_of (Ok (Learned n)) = n ∷ []

abbrev pub is_new : Result Named NameRefusal → Bool
is_new (Err BadTable) = false
is_new (Err NameTooLong) = false
is_new (Err NamesFull) = false
is_new (Ok (Known n)) = false
is_new (Ok (Learned n)) = true

-- where the name of a number stands in the buffer
abbrev pub place : ℕ → ℕ → Place
place start len = record { start = start; len = len }

unfoldable pub place_at : Bool → List ℕ → ℕ → Result (Option Place) TableRefusal
place_at folding t number =
    cond (non (right_table folding t)) (Err table.BadTable)
    (cond (leb (count_of t) number) (Ok None)
    (Ok (Some (place (entry_start number + 1) (length_of (entry_at t number))))))

-- document 01's number of that answer
abbrev pub paper_at : Result (Option Place) TableRefusal → ℕ
paper_at (Err table.BadTable) = 27
paper_at (Ok None) = 0
paper_at (Ok (Some p)) = 0

-- the name itself; nothing where there is none
unfoldable pub name_at : Bool → List ℕ → ℕ → List ℕ
name_at folding t number =
    cond (non (right_table folding t)) []
    (cond (leb (count_of t) number) []
    (name_of (entry_at t number)))
