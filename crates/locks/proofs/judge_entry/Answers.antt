use mathlib.Core.Path.{◌≡◌, sym, ◌∙◌}
use mathlib.Core.Bool.{true, false}
use borrow.Author.Tests.{eq-eqb, ne_eqb}
use Rattle.state.specs.Locks.{same_scope}
use Rattle.locks.specs.Code.{judge_entry}
use Rattle.locks.proofs.judge_entry.Goals as goal

pub returns-then-not-same_scope : goal.returns-then-not-same_scope
unfolding judge_entry
returns-then-not-same_scope c =
    let e : same_scope _ _ ≡ false = sym c.same_scope.ensures ∙ c.if-not-same_scope.true in
    rw e

pub returns-then-d-subject : goal.returns-then-d-subject
unfolding judge_entry
returns-then-d-subject c =
    let e : same_scope _ _ ≡ true = sym c.same_scope.ensures ∙ c.if-not-same_scope.false in
    rw (e, ne_eqb _ _ c.if-d-subject.true)

pub returns : goal.returns
unfolding judge_entry
returns c =
    let e : same_scope _ _ ≡ true = sym c.same_scope.ensures ∙ c.if-not-same_scope.false in
    rw (e, eq-eqb _ _ c.if-d-subject.false)
