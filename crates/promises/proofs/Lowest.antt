-- "Reads that find "a" lock answer the lowest id." The reads answer the first lock that fits; on a sound state the lists
-- ascend, so no lock that fits has a lower id. Assumes nothing.
use mathlib.Core.Path.{◌≡◌, refl, ap, subst}
use mathlib.Core.Bool.{Bool, true, false, cond}
use mathlib.Core.List.Memᴰ
use mathlib.Core.List.{List, [], ◌∷◌}
use Rattle.std.specs.Prelude.{Some}
use Rattle.lists.proofs.Options.{None_ne_Some, Some_injective}
use Prim.Native.Nat.{ℕ, suc, ◌≤◌}
use native.Mathlib.Omega.{arith}
use Rattle.lists.specs.Tests.{Yes}
use Rattle.lists.specs.Lists.{find, Mem, from}
use Rattle.lists.proofs.Tests.{against}
use Rattle.lists.proofs.Lists.{rest, from→}
use Rattle.state.specs.declared.ActiveLock.{ActiveLock}
use Rattle.state.specs.declared.DefunctLock.{DefunctLock}
use Rattle.state.specs.declared.LockState.{LockState}
use Rattle.state.specs.Locks.{akey, dkey}
use Rattle.state.specs.Model.{model_of}
use Rattle.std.specs.Prelude.{Ok}
use Rattle.rules.specs.Rules.{broken_rule}
use Rattle.lookups.proofs.Verdicts.{actives_ascend, defuncts_ascend}

-- in a list that ascends by k from b on, the first that passes has the lowest key of those that pass
module _ {A : Type 0} (k : A → ℕ) (p : A → Bool) where
  pub find_lowest : (b : ℕ) (l : List A) {a y : A} → Yes (from k b l) → find p l ≡ Some a → Mem y l → Yes (p y) → k a ≤ k y
  find_lowest b [] {a} t e m u = absurd (None_ne_Some a e)
  find_lowest b (x ∷ xs) {a} {y} t e m u = go (p x) refl e m (λ f n. find_lowest (suc (k x)) xs (rest k b x xs t) f n u)
    where
      go : (c : Bool) → p x ≡ c → cond c (Some x) (find p xs) ≡ Some a → Mem y (x ∷ xs) → (find p xs ≡ Some a → Mem y xs → k a ≤ k y) → k a ≤ k y
      go true q f (Memᴰ.head z) r = omega (arith, ap k (Some_injective x a f), ap k z)
      go true q f (Memᴰ.tail n) r = omega (arith, ap k (Some_injective x a f), from→ k (suc (k x)) (rest k b x xs t) n)
      go false q f (Memᴰ.head z) r = absurd (against q (subst (λ (v : A). Yes (p v)) z u))
      go false q f (Memᴰ.tail n) r = r f n

module _ (s : LockState) (e : broken_rule s ≡ Ok tt) where
  pub lowest_active : (p : ActiveLock → Bool) {a y : ActiveLock} → find p (model_of s).active ≡ Some a → Mem y (model_of s).active → Yes (p y) → akey a ≤ akey y
  lowest_active p = find_lowest akey p 0 (model_of s).active (actives_ascend s e)

  pub lowest_defunct : (p : DefunctLock → Bool) {d y : DefunctLock} → find p (model_of s).defunct ≡ Some d → Mem y (model_of s).defunct → Yes (p y) → dkey d ≤ dkey y
  lowest_defunct p = find_lowest dkey p 0 (model_of s).defunct (defuncts_ascend s e)
