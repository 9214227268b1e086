-- The search for an edge, one turn at a time. Assumes nothing.
use mathlib.Core.Path.{◌≡◌, sym, refl, ◌∙◌}
use mathlib.Core.Bool.{Bool, true, false, cond, beq}
use Prim.Native.Nat.{ℕ, zero, suc, ◌+◌, ◌-◌, ◌≤◌, ◌<◌, max}
use lib.Dec.{ltb}
use native.Mathlib.Numerals.{add-one}
use native.Mathlib.Omega.{arith}
use borrow.Author.Tests.{ltb-true, ltb-false}
use Rattle.lists.specs.Tests.{non}
use Rattle.lists.proofs.Tests.{by}
use Rattle.coverage.specs.declared.LockCoverage.{LockCoverage}
use Rattle.coverage.specs.Coverage.{covers}
use Rattle.look.specs.Text.{is_edge, edge_from, edge_of}

-- the test, as the code asks it
as_asked : (r inside : Bool) → cond inside r (non r) ≡ beq r inside
unfolding non
as_asked true true = refl
as_asked true false = refl
as_asked false true = refl
as_asked false false = refl

module _ (c : LockCoverage) (inside : Bool) where
  turn : (k e : ℕ) (r b : Bool) → r ≡ covers c e → beq r inside ≡ b → edge_from c inside (suc k) e ≡ cond b e (edge_from c inside k (suc e))
  unfolding edge_from is_edge
  turn k e r b p q = rw (edge_from, sym p, as_asked r inside, q)

  pub edge_here : (e w : ℕ) (r : Bool) → edge_of c inside e ≡ w → e < 256 → r ≡ covers c e → beq r inside ≡ true → e ≡ w
  unfolding edge_of
  edge_here e w r was h p q =
      let s : 256 - e ≡ suc (255 - e) = omega arith in
      sym (turn (255 - e) e r true p q) ∙ rw s at was

  pub edge_on : (e w : ℕ) (r : Bool) → edge_of c inside e ≡ w → e < 256 → r ≡ covers c e → beq r inside ≡ false → edge_of c inside (e + 1) ≡ w
  unfolding edge_of
  edge_on e w r was h p q =
      let s : 256 - e ≡ suc (255 - e) = omega arith in
      let t : 256 - (e + 1) ≡ 255 - e = omega arith in
      rw (t, add-one) (sym (turn (255 - e) e r false p q) ∙ rw s at was)

  edge_end : (e w : ℕ) → edge_of c inside e ≡ w → 256 ≤ e → e ≡ w
  unfolding edge_of edge_from
  edge_end e w was h =
      let s : 256 - e ≡ 0 = omega arith in
      rw s at was

  -- 256 where there is none, or where the search began if that is past it
  pub edge_past : (e from m : ℕ) → m ≡ max from 256 → edge_of c inside e ≡ edge_of c inside from → 256 ≤ e → (from ≤ 256 → e ≤ 256) → m ≡ edge_of c inside from
  edge_past e from m q was h u =
      by (ltb 256 from) (m ≡ edge_of c inside from)
      (λ t. let g = ltb-true 256 from t in let z : m ≡ from = omega arith in z ∙ edge_end from _ refl (omega arith))
      (λ f. let g = ltb-false 256 from f in let z : m ≡ e = omega arith in z ∙ edge_end e _ was h)
