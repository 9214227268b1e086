-- The table of scopes seen, and that a scope's number is below 513. Assumes nothing.
use mathlib.Core.Path.{◌≡◌, refl, sym, ap, ◌∙◌}
use mathlib.Core.Bool.{Bool, true, false, true≢false, false≢true}
use mathlib.Core.List.{List}
use Prim.Native.Nat.{ℕ, zero, suc, ◌+◌, ◌*◌, ◌<◌}
use native.Mathlib.Omega.{arith}
use native.Mathlib.Decide.{ℕ_discrete}
use borrow.Author.Tests.{eq-eqb, ne_eqb}
use lib.Dec.{eqb}
use lib.ListN.{length, get_or, set, length-set, replicate, length-replicate}
use lib.Seq.{get_or-set_same, get_or-set_other}
use Rattle.lists.specs.Tests.{non}
use Rattle.lists.specs.Below.{all_below}
use Rattle.lists.proofs.Tests.{non_t, non_f}
use Rattle.lists.proofs.Below.{all_of, all_no}
use Rattle.state.specs.declared.ScopeKey.{ScopeKey}
use Rattle.state.specs.declared.ScopeKey.TheVariants.{Vehicle, Ecu, FunctionalGroup}
use Rattle.state.specs.Locks.{scope_code}

-- ---- a table of which numbers below 513 were seen at the places below i
pub record Marked (f : ℕ → ℕ) (i : ℕ) (seen : List Bool) : Type 0 where
  pub long : length seen ≡ 513
  pub all : (j : ℕ) → j < i → get_or seen (f j) false ≡ true
  pub only : (v : ℕ) → get_or seen v false ≡ true → (j : ℕ) × (j < i) × (f j ≡ v)

pub mark_none : (f : ℕ → ℕ) → Marked f 0 (replicate 513 false)
mark_none f = record { long = length-replicate {A = Bool} 513 false; all = λ j h. absurd (omega arith); only = λ v t. absurd (false≢true (sym (clean 513 v) ∙ t)) }
  where
    clean : (n v : ℕ) → get_or (replicate n false) v false ≡ false
    clean zero v = refl
    clean (suc n) zero = refl
    clean (suc n) (suc v) = clean n v

module _ (f : ℕ → ℕ) (i : ℕ) (seen : List Bool) (w : Marked f i seen) (k : ℕ) (e : k ≡ f i) where
  pub mark_more : k < 513 → Marked f (i + 1) (set seen k true)
  mark_more h = record {
    long = length-set seen k true ∙ w.long;
    all = λ j g. elim (ℕ_discrete (f j) k) [
      | yes q ↦ rw (q, get_or-set_same seen k true false inside)
      | no q ↦ get_or-set_other seen k (f j) true false q ∙ w.all j (older j g q)
    ];
    only = λ v t. elim (ℕ_discrete v k) [
      | yes q ↦ (i, omega arith, sym (q ∙ e))
      | no q ↦ let u = w.only v (sym (get_or-set_other seen k v true false q) ∙ t) in (u.0, omega (arith, u.1), u.2)
    ];
  }
    where
      inside : k < length seen
      inside = omega (arith, w.long)

      older : (j : ℕ) → j < i + 1 → (f j ≡ k → ⊥) → j < i
      older j g q = elim (ℕ_discrete j i) [ yes u ↦ absurd (q (ap f u ∙ sym e)) | no u ↦ omega arith ]

  pub seen_yes : get_or seen k false ≡ true → all_below i (λ j. non (eqb (f i) (f j))) ≡ false
  seen_yes t = let u = w.only k t in all_no i (λ j. non (eqb (f i) (f j))) u.0 u.1 (non_t _ (eq-eqb (f i) (f u.0) (sym (u.2 ∙ e))))

  pub seen_no : get_or seen k false ≡ false → all_below i (λ j. non (eqb (f i) (f j))) ≡ true
  seen_no t = all_of i (λ j. non (eqb (f i) (f j))) (λ j h.
      non_f _ (ne_eqb (f i) (f j) (λ q. true≢false (sym (w.all j h) ∙ ap (λ (v : ℕ). get_or seen v false) (sym (e ∙ q)) ∙ t))))

-- ---- a scope's number is below 513, since the number in a scope is a byte
module _ (r : ℕ) (k : ScopeKey) (e : r ≡ scope_code k) where
  pub small_vehicle : k ≡ Vehicle → (r ≡ scope_code k) × (r < 513)
  unfolding scope_code
  small_vehicle q = let z : r ≡ 0 = e ∙ ap scope_code q in (e, omega arith)

  pub small_ecu : (n : ℕ) → k ≡ Ecu n → n < 256 → (r ≡ scope_code k) × (r < 513)
  unfolding scope_code
  small_ecu n q h = let z : r ≡ n * 2 + 1 = e ∙ ap scope_code q in (e, omega arith)

  pub small_group : (n : ℕ) → k ≡ FunctionalGroup n → n < 256 → (r ≡ scope_code k) × (r < 513)
  unfolding scope_code
  small_group n q h = let z : r ≡ n * 2 + 2 = e ∙ ap scope_code q in (e, omega arith)
