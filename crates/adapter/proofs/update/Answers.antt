use mathlib.Core.Path.{◌≡◌, ap, ◌∙◌}
use Prim.Native.Nat.{ℕ}
use Rattle.state.specs.declared.LockState.{LockState}
use Rattle.std.specs.Prelude.{Result}
use Rattle.locks.specs.declared.UpdateRefusal.{UpdateRefusal}
use Rattle.locks.specs.Locks.{prepare_update_on}
use Rattle.adapter.specs.Lent.{updated, held_after, update_on}
use borrow.Author.Rules.{rules}
use Rattle.adapter.proofs.update.Goals as goal

both : (s : LockState) (g : ℕ) (t : Result ℕ UpdateRefusal) (n : ℕ) → t ≡ prepare_update_on s g → n ≡ held_after t g → updated t n ≡ update_on s g
unfolding update_on
both s g t n e f = λ i. updated (e i) ((f ∙ ap (λ u. held_after u g) e) i)

pub returns : goal.returns
returns c = search (both, rules)
