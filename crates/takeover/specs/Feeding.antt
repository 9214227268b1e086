-- Feeds as lists of numbered elements, places aside. Over any element X that has a number and acts on a state: a record of a
-- feed is one, and whatever else comes numbered to a spare is another. Assumes nothing.
use Rattle.std.specs.Prelude.{ℕ, zero, suc, cond, List, [], ◌∷◌, ◌≡◌, eqb}
use Rattle.state.specs.declared.LockState.{LockState}
use Rattle.lookups.specs.Reads.{on_sound}
use Rattle.image.specs.declared.Spare.{Spare}
use Rattle.calls.specs.Calls.{perform_on}
use Rattle.std.specs.Prelude.{Result, Ok, Err}
use Rattle.records.specs.declared.frame.Unread.{Unread}
use Rattle.feed.specs.declared.taking.Placed.{Placed}
use Rattle.feed.specs.Feed.{distance, after, Numbered, numbered, body_in, taken_at}

-- the state that an element leaves, and the next number is due
abbrev pub moved : LockState → Spare → Spare
moved s sp = record { state = s; expected = after sp.expected }

module _ {X : Type 0} (number : X → ℕ) (act : X → LockState → LockState) where
  -- the spare after one element: nothing happens to an unsound spare, nor out of turn
  unfoldable pub fed : Spare → X → Spare
  fed sp x =
      on_sound sp.state (λ n. sp)
      (cond (eqb (distance (number x) sp.expected) 0) (moved (act x sp.state) sp) sp)

  unfoldable pub fed_all : Spare → List X → Spare
  fed_all sp [] = sp
  fed_all sp (x ∷ xs) = fed_all (fed sp x) xs

-- those that come in turn, from the number e on
unfoldable pub in_turn : {X : Type 0} → (X → ℕ) → ℕ → List X → List X
in_turn number e [] = []
in_turn number e (x ∷ xs) = cond (eqb (distance (number x) e) 0) (x ∷ in_turn number (after e) xs) (in_turn number e xs)

-- the second list is the first, numbered in turn from e on, with any elements out of turn mixed in between: lost and sent
-- again, repeated, too early
pub data Mixed {X : Type 0} (number : X → ℕ) : ℕ → List X → List X → Type 0 where
  done : {e : ℕ} → Mixed number e [] []
  due : {e : ℕ} {x : X} {xs ys : List X} → distance (number x) e ≡ 0 → Mixed number (after e) xs ys → Mixed number e (x ∷ xs) (x ∷ ys)
  other : {e : ℕ} {x : X} {xs ys : List X} → (distance (number x) e ≡ 0 → ⊥) → Mixed number e xs ys → Mixed number e xs (x ∷ ys)

-- ---- a feed of records
abbrev pub number_of : Numbered → ℕ
number_of x = x.number

-- what a record does to a state
abbrev pub performs : Numbered → LockState → LockState
performs x s = (perform_on s x.request x.list).state

abbrev pub on_taken : List ℕ → (ℕ → List Numbered) → Result Placed Unread → List Numbered
on_taken s f (Err u) = []
on_taken s f (Ok p) = numbered p (body_in s p.frame) ∷ f p.frame.next

-- the records from `at` on, as far as they can be read, at most k
unfoldable pub records_in : ℕ → List ℕ → ℕ → List Numbered
records_in zero s at = []
records_in (suc k) s at = on_taken s (records_in k s) (taken_at s at)
