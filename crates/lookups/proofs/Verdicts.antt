-- Every function that takes a state tests it first and matches the verdict: a broken rule gives the answer of an unsound
-- state, a sound state the rest. Said once, for every answer.
-- Assumes nothing.
use mathlib.Core.Path.{◌≡◌}
use mathlib.Core.Bool.{true}
use Prim.Native.Nat.{ℕ, ◌≤◌}
use borrow.Author.Tests.{leb-true}
use Rattle.lists.proofs.Tests.{and_l, and_r}
use Rattle.lists.specs.Lists.{ascending}
use Rattle.state.specs.declared.LockState.{LockState}
use Rattle.state.specs.Locks.{akey, dkey}
use Rattle.state.specs.Model.{model_of}
use Rattle.std.specs.Prelude.{Result, Ok, Err, ⊤}
use Rattle.rules.specs.declared.Unsound.{Unsound}
use Rattle.rules.specs.declared.Unsound.TheVariants.{Rule}
use Rattle.rules.specs.Rules.{broken_rule, rule0, in_order}
use Rattle.rules.proofs.Sound.{rule0_of, facts_of_state}
use Rattle.lookups.specs.Reads.{on_sound, read}

module _ {A : Type 0} (s : LockState) (u : ℕ → A) (a : A) (v : Result ⊤ Unsound) where
  -- v is what the test answered, and then the arm that was taken
  pub on_broken : (n : ℕ) → v ≡ broken_rule s → v ≡ Err (Rule n) → u n ≡ on_sound s u a
  unfolding on_sound
  on_broken n e f = rw (← e, f)

  pub on_sound_lem : v ≡ broken_rule s → v ≡ Ok tt → a ≡ on_sound s u a
  unfolding on_sound
  on_sound_lem e f = rw (← e, f)

-- ---- a read: past its test, by `?`
module _ {A : Type 0} (s : LockState) (a : A) where
  pub read_err : (e : Unsound) → broken_rule s ≡ Err e → read s a ≡ Err e
  unfolding on_sound
  read_err (Rule n) q = rw q

  pub read_ok : (x : A) (u : ⊤) → broken_rule s ≡ Ok u → x ≡ a → Ok x ≡ read s a
  unfolding on_sound
  read_ok x u q e = rw (q, e)

-- ---- the counts of a sound state fit
module _ (s : LockState) (e : broken_rule s ≡ Ok tt) where
  pub actives_fit : s.actives ≤ 64
  unfolding rule0
  actives_fit = leb-true s.actives 64 (and_l _ _ (and_l _ _ (and_l _ _ (and_l _ _ (rule0_of s e)))))

  pub defuncts_fit : s.defuncts ≤ 128
  unfolding rule0
  defuncts_fit = leb-true s.defuncts 128 (and_r _ _ (and_l _ _ (and_l _ _ (and_l _ _ (rule0_of s e)))))

  -- and its lists ascend
  pub actives_ascend : ascending akey (model_of s).active ≡ true
  unfolding in_order
  actives_ascend = and_l _ _ (facts_of_state s e).order

  pub defuncts_ascend : ascending dkey (model_of s).defunct ≡ true
  unfolding in_order
  defuncts_ascend = and_r _ _ (facts_of_state s e).order
