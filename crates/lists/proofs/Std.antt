-- The library's tests of a list are these: what an iterator's `any` and `all` answer, in the words of the definitions.
-- (`find` and `filter` are the library's own: `xs.iter().copied().find(|x| ..)` is `find` of the slice.)
-- Assumes nothing.
use mathlib.Core.Path.{◌≡◌, refl, sym, ap, ◌∙◌}
use mathlib.Core.Bool.{Bool, ◌&&◌, ◌||◌}
use mathlib.Core.List.{List, [], ◌∷◌}
use Prim.Native.Nat.{ℕ}
use borrow.Author.Tests.{ltb-true, ltb-false}
use lib.Dec.{ltb}
use lib.ListN.{length, get_or}
use Rattle.std.proofs.Common.{Bor}
use Rattle.std.specs.Prelude.{Option, None, Some, slice_get, is_some, IfSome}
use Rattle.std.specs.Option.{option_copied}
use Rattle.std.specs.List.{list_any, list_all}
use Rattle.std.proofs.lemmas.Option.{slice_get-get_or, slice_get_past}
use Rattle.lists.specs.Tests.{◌and◌, ◌or◌}
use Rattle.lists.specs.Lists.{any, all}
use Rattle.lists.proofs.Tests.{and_code, or_code}

module _ {A : Type 0} (p : A → Bool) where
  pub any_std : (l : List A) → list_any p l ≡ any p l
  any_std [] = refl
  any_std (x ∷ xs) = or_code (p x) (list_any p xs) ∙ ap (λ (b : Bool). p x or b) (any_std xs)

  pub all_std : (l : List A) → list_all p l ≡ all p l
  all_std [] = refl
  all_std (x ∷ xs) = and_code (p x) (list_all p xs) ∙ ap (λ (b : Bool). p x and b) (all_std xs)

  -- with what the iterator's test answers by itself
  module _ (q : A → Bool) (same : (a : A) → q a ≡ p a) where
    pub any_as : (l : List A) → list_any q l ≡ any p l
    any_as [] = refl
    any_as (x ∷ xs) = or_code (q x) (list_any q xs) ∙ rw (same x) (ap (λ (b : Bool). p x or b) (any_as xs))

    pub all_as : (l : List A) → list_all q l ≡ all p l
    all_as [] = refl
    all_as (x ∷ xs) = and_code (q x) (list_all q xs) ∙ rw (same x) (ap (λ (b : Bool). p x and b) (all_as xs))

-- `xs.get(i).copied()`, by what `get` ensures
pub get_std : {A : Type 0} (xs : List A) (i : ℕ) (o : Option (Bor A)) → is_some o ≡ ltb i (length xs) → IfSome o (λ x. x.now ≡ get_or xs i x.now) → option_copied o ≡ slice_get xs i
get_std xs i None p q = sym (slice_get_past xs i (ltb-false i (length xs) (sym p)))
get_std xs i (Some x) p q = sym (slice_get-get_or xs i x.now (ltb-true i (length xs) (sym p)) ∙ ap Some (sym q))
