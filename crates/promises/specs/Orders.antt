-- Lists that have the same elements in another order.
use Rattle.std.specs.Prelude.{List, ◌∷◌}

pub data Reordered {A : Type 0} : List A → List A → Type 0 where
  same : {l : List A} → Reordered l l
  keep : {a : A} {l m : List A} → Reordered l m → Reordered (a ∷ l) (a ∷ m)
  swap : {a b : A} {l : List A} → Reordered (a ∷ (b ∷ l)) (b ∷ (a ∷ l))
  twice : {l m n : List A} → Reordered l m → Reordered m n → Reordered l n
