-- delete_defunct is no operation of a feed, so the steps of Again don't have it. The same theorem for it: what the test
-- accepts it accepts again. Assumes nothing.
use Rattle.std.specs.Prelude.{true, false}
use mathlib.Core.Path.{◌≡◌, refl}
use Rattle.std.specs.Prelude.{Option, None, Some}
use Prim.Native.Nat.{ℕ}
use lib.Dec.{eqb}
use Rattle.lists.specs.Lists.{find}
use Rattle.lists.proofs.Tests.{cond_both}
use Rattle.ids.specs.declared.LockId.{LockId}
use Rattle.state.specs.declared.ScopeKey.{ScopeKey}
use Rattle.state.specs.declared.DefunctLock.{DefunctLock}
use Rattle.state.specs.declared.LockState.{LockState}
use Rattle.state.specs.Locks.{same_scope, has_id_d}
use Rattle.state.specs.Model.{model_of}
use Rattle.std.specs.Prelude.{Result, Ok, Err, ⊤}
use Rattle.rules.specs.declared.Unsound.{Unsound}
use Rattle.rules.specs.declared.Unsound.TheVariants.{Rule}
use Rattle.rules.specs.Rules.{broken_rule}
use Rattle.lookups.specs.Reads.{by_verdict, on_sound}
use Rattle.operations.specs.Acknowledge.{acknowledge_on}
use Rattle.locks.specs.declared.DroppingRefusal.TheVariants.{UnsoundState, Forbidden}
use Rattle.locks.specs.Locks.{Dropped}
use Rattle.locks.specs.Locks.{dropped, as_dropped, drop_found_on, delete_defunct_on}
use Rattle.promises.proofs.Again.{acknowledge_accepted}

-- what holds of each way out holds of the answer
module _ (P : Dropped → Type 0) (s : LockState) (i : LockId) (k : ScopeKey) (subject : ℕ) where
  found_comes : (f : Option DefunctLock) → P (dropped (Ok false) s) → P (dropped (Err Forbidden) s) → P (as_dropped (acknowledge_on s i)) → P (drop_found_on s i k subject f)
  unfolding drop_found_on
  found_comes None absent forbidden done = absent
  found_comes (Some d) absent forbidden done =
      cond_both P _ _ (same_scope d.lock.scope k)
      (λ t. cond_both P _ _ (eqb d.lock.subject subject) (λ u. done) (λ u. forbidden))
      (λ t. absent)

  tested_comes : (v : Result ⊤ Unsound) (a : Dropped) → ((n : ℕ) → P (dropped (Err (UnsoundState n)) s)) → P a → P (by_verdict v (λ n. dropped (Err (UnsoundState n)) s) a)
  tested_comes (Ok tt) a u p = p
  tested_comes (Err (Rule n)) a u p = u n

  pub drop_comes : ((n : ℕ) → P (dropped (Err (UnsoundState n)) s)) → P (dropped (Ok false) s) → P (dropped (Err Forbidden) s) → P (as_dropped (acknowledge_on s i)) → P (delete_defunct_on s i k subject)
  unfolding delete_defunct_on on_sound
  drop_comes unsound absent forbidden done =
      tested_comes (broken_rule s) _ unsound (found_comes (find (has_id_d i) (model_of s).defunct) absent forbidden done)

-- ---- accepted again
pub delete_defunct_accepted : (s : LockState) → broken_rule s ≡ Ok tt → (i : LockId) (k : ScopeKey) (subject : ℕ) (r : Dropped) → r ≡ delete_defunct_on s i k subject → broken_rule r.state ≡ Ok tt
delete_defunct_accepted s e i k subject r q =
    rw q (drop_comes (λ t. broken_rule t.state ≡ Ok tt) s i k subject (λ n. e) e e (acknowledge_accepted s e i (acknowledge_on s i) refl))
