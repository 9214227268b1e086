use mathlib.Core.Path.{◌≡◌, refl, sym, ap, ◌∙◌}
use mathlib.Core.Bool.{Bool, true, false}
use mathlib.Core.List.{List, [], ◌∷◌}
use Prim.Native.Nat.{ℕ, ◌-◌, ◌≤◌}
use native.Mathlib.Omega.{arith}
use lib.ListN.{length, get_or, take, drop}
use lib.Seq.{take-length}
use Rattle.lists.specs.Lists.{any}
use Rattle.lists.proofs.Tests.{or_t, or_f}
use Rattle.ids.specs.declared.LockId.{LockId}
use Rattle.ids.specs.Order.{same_id}
use Rattle.ids.specs.Words.{ids_of, listed_in}
use Rattle.ids.proofs.listed.Goals as goal

module _ (i : LockId) (b : Bool) where
  first-yes : (ws : List ℕ) → 2 ≤ length ws → b ≡ same_id i (record { hi = get_or ws 0 0; lo = get_or ws 1 0 }) → b ≡ true → true ≡ any (same_id i) (ids_of ws)
  first-yes [] h e t = absurd (omega arith)
  first-yes (x ∷ []) h e t = absurd (omega arith)
  first-yes (x ∷ (y ∷ ws)) h e t = sym (or_t _ _ (sym e ∙ t))

  first-no : (ws : List ℕ) → 2 ≤ length ws → b ≡ same_id i (record { hi = get_or ws 0 0; lo = get_or ws 1 0 }) → b ≡ false → any (same_id i) (ids_of (take (length ws - 2) (drop 2 ws))) ≡ any (same_id i) (ids_of ws)
  first-no [] h e t = absurd (omega arith)
  first-no (x ∷ []) h e t = absurd (omega arith)
  first-no (x ∷ (y ∷ ws)) h e t =
      let n : length (x ∷ (y ∷ ws)) - 2 ≡ length ws = omega arith in
      ap (λ (k : ℕ). any (same_id i) (ids_of (take k ws))) n ∙ ap (λ (l : List ℕ). any (same_id i) (ids_of l)) (take-length ws) ∙ sym (or_f _ _ (sym e ∙ t))

pub loop-rest-init : goal.loop-rest-init
unfolding listed_in
loop-rest-init c = refl

pub returns-then-same : goal.returns-then-same
returns-then-same c = first-yes c.args.id _ c.loop-rest.rest.now c.in-len2-up.len_at_least c.same.ensures c.if-same.true ∙ c.loop-rest.invariant

pub loop-rest-preserved : goal.loop-rest-preserved
loop-rest-preserved c = first-no c.args.id _ c.loop-rest.rest.now c.in-len2-up.len_at_least c.same.ensures c.if-same.false ∙ c.loop-rest.invariant
