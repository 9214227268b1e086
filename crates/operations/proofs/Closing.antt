-- The closing check of insertions and replacement, as the original's validate_invariants: the arm that the test of the next
-- state takes, and that it is the test of the next lists. Said once.
-- Assumes nothing.
use mathlib.Core.Bool.{Bool, true, cond, false≢true}
use mathlib.Core.Path.{◌≡◌, refl, sym, ap, ◌∙◌}
use Prim.Native.Nat.{ℕ}
use Rattle.lists.proofs.Tests.{same_test}
use Rattle.state.specs.declared.LockState.{LockState}
use Rattle.state.specs.Model.{Model, state_of, full}
use Rattle.state.proofs.Laws.{model-of-state}
use Rattle.std.specs.Prelude.{Result, Ok, Err, ⊤}
use Rattle.rules.specs.declared.Unsound.{Unsound}
use Rattle.rules.specs.declared.Unsound.TheVariants.{Rule}
use Rattle.rules.specs.Rules.{broken_rule, is_sound, sound}
use Rattle.rules.proofs.Sound.{sound_of, sound_state}
use Rattle.lookups.specs.Reads.{on_sound}
use Rattle.lookups.proofs.Verdicts.{on_broken}
use Rattle.operations.specs.declared.answers.Refusal.{Refusal}
use Rattle.operations.specs.declared.answers.Refusal.TheVariants.{Invariant}
use Rattle.operations.specs.Answers.{rule_of}
use Rattle.operations.specs.Code.{closing}

-- the test of the next state is that of its lists
pub lists_test : (m : Model) → is_sound (broken_rule (state_of m)) ≡ sound full m
lists_test m = same_test (is_sound (broken_rule (state_of m))) (sound full m)
    (λ u. ap (sound full) (sym (model-of-state m)) ∙ sound_of (state_of m) (is_sound_lem (broken_rule (state_of m)) u))
    (λ u. ap is_sound (sound_state m u))
  where
    is_sound_lem : (v : Result ⊤ Unsound) → is_sound v ≡ true → v ≡ Ok tt
    is_sound_lem (Ok tt) u = refl
    is_sound_lem (Err (Rule n)) u = absurd (false≢true u)

-- n the next state, whose lists are those of m, and w what the closing check answered
pub closing_is : (n : LockState) (m : Model) → n ≡ state_of m → (w : Result ⊤ Refusal) → w ≡ closing n → w ≡ cond (sound full m) (Ok tt) (Err Invariant)
unfolding closing
closing_is n m k w q = q ∙ ap (λ (x : LockState). closed (is_sound (broken_rule x))) k ∙ ap closed (lists_test m)
  where
    closed : Bool → Result ⊤ Refusal
    closed b = cond b (Ok tt) (Err Invariant)

-- ---- the test of the state at entry: v is what it answered
pub on_unsound : {A : Type 0} (s : LockState) (u : ℕ → A) (a : A) (v : Result ⊤ Unsound) (x : Unsound) → v ≡ broken_rule s → v ≡ Err x → u (rule_of x) ≡ on_sound s u a
on_unsound s u a v (Rule n) e f = on_broken s u a v n e f
