-- What the code computes on the way to an image's lists. Assumes nothing.
use Rattle.std.specs.Prelude.{ℕ, zero, suc, Bool, cond, List, ltb, Result, Ok, Err}
use Rattle.ids.specs.declared.LockId.{LockId}
use Rattle.ids.specs.Order.{key}
use Rattle.image.specs.declared.ImageRefusal.TheVariants.{BadOrder}
use Rattle.image.specs.Image.{Got, and_then, record_at, Listed, low_after}

-- a reader's answer, where what it left in its places counts
abbrev pub on_ok : {A B E : Type 0} → (A → B) → Result A E → Result B E
on_ok f (Ok a) = Ok (f a)
on_ok f (Err x) = Err x

-- the id b after the id a
unfoldable pub out_of_order : Bool → LockId → LockId → Bool
out_of_order strict a b = ltb (key b) (low_after strict (key a))

-- the lowest id that may come next: any for the first record, else what may follow the last id k
abbrev pub low_of : Bool → ℕ → ℕ → ℕ
low_of strict zero k = 0
low_of strict (suc i) k = low_after strict k

-- a record of a run, where ids from low on may come
unfoldable pub from_low : {R : Type 0} → Listed R → List ℕ → ℕ → ℕ → Got R
from_low e s at low = and_then (record_at e.codec e.place s at) (λ r next. cond (ltb (e.id r) low) (Err (BadOrder at)) (Ok (r, next)))

-- the one after i others, the last of which has the id `last`
abbrev pub next_of : {R : Type 0} → Listed R → Bool → List ℕ → ℕ → ℕ → LockId → Got R
next_of e strict s at i last = from_low e s at (low_of strict i (key last))
