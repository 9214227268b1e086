-- Replies in a lent buffer: how many bytes, and where they stand. Assumes nothing.
use mathlib.Core.Path.{◌≡◌, sym, ap, ◌∙◌}
use mathlib.Core.List.{List, [], ◌∷◌}
use Prim.Native.Nat.{ℕ, ◌+◌, ◌≤◌, ◌<◌}
use native.Mathlib.Omega.{arith}
use lib.ListN.{length}
use borrow.Author.Tests.{lt-ltb, le-ltb, le-leb}
use Rattle.lists.proofs.Tests.{cond_true, cond_false}
use Rattle.lists.specs.Papers.{paper}
use Rattle.records.specs.Numbers.{stored}
use Rattle.image.proofs.Writes.{splice_front}
use Rattle.cablegorse.specs.declared.Told.{Told}
use Rattle.cablegorse.specs.Telling.{told_of, kept, fitted}

-- ---- the bytes b and the answer t, where n bytes are needed
module _ (t : Told) (b out : List ℕ) (n : ℕ) (e : n ≡ length b) where
  pub too_short : length out < n → (r : Told) → r ≡ told_of (paper 21 (n ∷ [])) → kept r out ≡ fitted t b out
  too_short h r q =
      ap (λ (x : Told). kept x out) (q ∙ ap (λ (m : ℕ). told_of (paper 21 (m ∷ []))) e)
      ∙ sym (cond_true _ _ _ (lt-ltb (length out) (length b) (omega arith)))

  pub put_whole : n ≤ length out → (u : List ℕ) → u ≡ stored out 0 b → kept t u ≡ fitted t b out
  unfolding stored
  put_whole h u q =
      ap (kept t) (q ∙ cond_true _ _ _ (le-leb (0 + length b) (length out) (omega arith)) ∙ splice_front out b)
      ∙ sym (cond_false _ _ _ (le-ltb (length out) (length b) (omega arith)))

-- a refusal has no bytes beside it
pub none_put : (t : Told) (out : List ℕ) → kept t out ≡ fitted t [] out
none_put t out = sym (cond_false _ _ _ (le-ltb (length out) 0 (omega arith)))
