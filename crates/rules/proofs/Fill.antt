-- Columns of entries that go, as operations fill them from the first place on. Assumes nothing.
use mathlib.Core.Path.{◌≡◌, refl, sym, ap, ◌∙◌, subst}
use mathlib.Core.Bool.{true}
use mathlib.Core.List.{List}
use Prim.Native.Nat.{ℕ, ◌+◌, ◌*◌, ◌≤◌, ◌<◌}
use native.Mathlib.Omega.{arith}
use native.Mathlib.Decide.{ℕ_discrete}
use lib.ListN.{length, get_or, set, take, replicate, length-set, length-replicate}
use lib.Seq.{get_or-set_same, get_or-set_other, get_or-take, length-take-le}
use Rattle.lists.specs.Lists.{ascending}
use Rattle.lists.proofs.Places.{ascending_at}
use Rattle.ids.specs.declared.LockId.{LockId}
use Rattle.ids.specs.Order.{key}
use Rattle.state.specs.declared.DefunctLock.{DefunctLock}
use Rattle.state.specs.Locks.{blank_defunct}
use Rattle.rules.specs.Code.{id_at, key_at, Sorted}

-- ---- one more place of a column
module _ {A : Type 0} (l : List A) (i : ℕ) (v : A) (d : A) where
  put : i < length l → (j : ℕ) → j ≡ i → get_or (set l i v) j d ≡ v
  put h j e = rw e (get_or-set_same l i v d h)

  keep : (j : ℕ) → (j ≡ i → ⊥) → get_or (set l i v) j d ≡ get_or l j d
  keep j e = get_or-set_other l i j v d e

-- an id has two words
module _ (f : ℕ → LockId) (l : List ℕ) (i : ℕ) (h : 2 * i + 1 < length l) where
  abbrev with_id : List ℕ
  with_id = set (set l (2 * i) (f i).hi) (2 * i + 1) (f i).lo

  id_more : ((j : ℕ) → j < i → id_at l j ≡ f j) → (j : ℕ) → j < i + 1 → id_at with_id j ≡ f j
  id_more g j k = elim (ℕ_discrete j i) [
    | yes q ↦ subst (λ (m : ℕ). id_at with_id m ≡ f m) (sym q) here
    | no q ↦ elsewhere (omega arith) ∙ g j (omega arith)
  ]
    where
      long : 2 * i + 1 < length (set l (2 * i) (f i).hi)
      long = omega (arith, length-set l (2 * i) (f i).hi)

      here : id_at with_id i ≡ f i
      here = λ z. record {
        hi = (keep (set l (2 * i) (f i).hi) (2 * i + 1) (f i).lo 0 (2 * i) (λ e. omega arith) ∙ put l (2 * i) (f i).hi 0 (omega arith) (2 * i) refl) z;
        lo = put (set l (2 * i) (f i).hi) (2 * i + 1) (f i).lo 0 long (2 * i + 1) refl z;
      }

      elsewhere : j < i → id_at with_id j ≡ id_at l j
      elsewhere u = λ z. record {
        hi = (keep (set l (2 * i) (f i).hi) (2 * i + 1) (f i).lo 0 (2 * j) (λ e. omega arith) ∙ keep l (2 * i) (f i).hi 0 (2 * j) (λ e. omega arith)) z;
        lo = (keep (set l (2 * i) (f i).hi) (2 * i + 1) (f i).lo 0 (2 * j + 1) (λ e. omega arith) ∙ keep l (2 * i) (f i).hi 0 (2 * j + 1) (λ e. omega arith)) z;
      }

  id_long : length with_id ≡ length l
  id_long = length-set (set l (2 * i) (f i).hi) (2 * i + 1) (f i).lo ∙ length-set l (2 * i) (f i).hi

-- ---- the columns of the defunct locks, as far as place i
pub record Entered (a : List DefunctLock) (i : ℕ) (gone targets : List ℕ) : Type 0 where
  pub gone_long : length gone ≡ 256
  pub targets_long : length targets ≡ 256
  pub in_gone : (j : ℕ) → j < i → id_at gone j ≡ (get_or a j blank_defunct).lock.id
  pub in_targets : (j : ℕ) → j < i → id_at targets j ≡ (get_or a j blank_defunct).target

pub entered_none : (a : List DefunctLock) → Entered a 0 (replicate 256 0) (replicate 256 0)
entered_none a = record {
  gone_long = length-replicate {A = ℕ} 256 0;
  targets_long = length-replicate {A = ℕ} 256 0;
  in_gone = λ j h. absurd (omega arith);
  in_targets = λ j h. absurd (omega arith);
}

module _ (a : List DefunctLock) (i : ℕ) (gone targets : List ℕ) (w : Entered a i gone targets) where
  abbrev lost : ℕ → DefunctLock
  lost j = get_or a j blank_defunct

  pub entered_more : i < 128
      → Entered a (i + 1) (set (set gone (2 * i) (lost i).lock.id.hi) (2 * i + 1) (lost i).lock.id.lo) (set (set targets (2 * i) (lost i).target.hi) (2 * i + 1) (lost i).target.lo)
  entered_more h = record {
    gone_long = id_long (λ j. (lost j).lock.id) gone i (omega (arith, w.gone_long)) ∙ w.gone_long;
    targets_long = id_long (λ j. (lost j).target) targets i (omega (arith, w.targets_long)) ∙ w.targets_long;
    in_gone = id_more (λ j. (lost j).lock.id) gone i (omega (arith, w.gone_long)) w.in_gone;
    in_targets = id_more (λ j. (lost j).target) targets i (omega (arith, w.targets_long)) w.in_targets;
  }

-- ---- order: a list whose ids are in a column
module _ {A : Type 0} (f : A → LockId) (a : List A) (n : ℕ) (b : A) (l : List ℕ) (h : n ≤ length a) (g : (j : ℕ) → j < n → id_at l j ≡ f (get_or a j b)) where
  same_key : (j : ℕ) → j < n → key_at l j ≡ key (f (get_or a j b))
  same_key j k = ap key (g j k)

  pub sorted_law : ascending (λ x. key (f x)) (take n a) ≡ true → Sorted (key_at l) n
  sorted_law s i j u v = rw (same_key i (omega arith), same_key j v, ← (get_or-take n a i b (omega arith)), ← (get_or-take n a j b v))
      (ascending_at (λ x. key (f x)) 0 (take n a) b s i j u (omega (arith, length-take-le n a h)))
