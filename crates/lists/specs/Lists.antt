-- Lists: a test of every or of some element, what a test keeps and finds, the ascending order of a key.
use Rattle.std.specs.Prelude.{Bool, true, false, cond, ℕ, suc, ltb, leb}
use mathlib.Core.List.{List, [], ◌∷◌, Memᴰ}
pub use Rattle.std.specs.List.{filter, find}
use Rattle.lists.specs.Tests.{◌and◌, ◌or◌}

module _ {A : Type 0} where
  abbrev pub all : (A → Bool) → List A → Bool
  all p [] = true
  all p (x ∷ xs) = p x and all p xs

  abbrev pub any : (A → Bool) → List A → Bool
  any p [] = false
  any p (x ∷ xs) = p x or any p xs

  abbrev pub Mem : A → List A → Type 0
  Mem a l = Memᴰ a l

-- no number twice
abbrev pub Fresh : List ℕ → Type 0
Fresh [] = Unit
Fresh (k ∷ ks) = (Mem k ks → ⊥) × Fresh ks

-- ---- lists in ascending order of a key
module _ {A : Type 0} (k : A → ℕ) where
  -- the keys are at least b, and ascend
  abbrev pub from : ℕ → List A → Bool
  from b [] = true
  from b (x ∷ xs) = leb b (k x) and from (suc (k x)) xs

  abbrev pub ascending : List A → Bool
  ascending l = from 0 l

  abbrev pub insert_by : A → List A → List A
  insert_by x [] = x ∷ []
  insert_by x (y ∷ ys) = cond (ltb (k x) (k y)) (x ∷ (y ∷ ys)) (y ∷ insert_by x ys)
