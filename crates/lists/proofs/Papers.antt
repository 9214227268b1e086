-- Reading papers: an answer that is read back from its number and values is the only one with that paper. Assumes nothing.
use mathlib.Core.Bool.{cond}
use mathlib.Core.List.{List, [], ◌∷◌}
use mathlib.Core.Path.{◌≡◌, sym, ap, ◌∙◌}
use Prim.Native.Nat.{ℕ}
use lib.Dec.{eqb}
use lib.ListN.{get_or}
use Rattle.lists.specs.Papers.{Paper}

module _ {A : Type 0} where
  -- what stands beside the number n in a table, else a
  abbrev pub pick : ℕ → List (ℕ × A) → A → A
  pick n [] a = a
  pick n (r ∷ rs) a = cond (eqb n r.0) r.1 (pick n rs a)

  -- what can be read back is one-to-one
  pub one_to_one : (f : A → Paper) (g : Paper → A) → ((a : A) → g (f a) ≡ a) → (a b : A) → f a ≡ f b → a ≡ b
  one_to_one f g h a b e = sym (h a) ∙ ap g e ∙ h b

-- the k-th value
abbrev pub value_at : Paper → ℕ → ℕ
value_at p k = get_or p.values k 0
