use mathlib.Core.Path.{sym, ◌∙◌}
use borrow.Author.Tests.{le-leb, lt-leb}
use Rattle.lists.proofs.Tests.{cond_true, cond_false}
use Rattle.cablegorse.specs.Sending.{asked_renewal}
use Rattle.cablegorse.proofs.sending.ask_renewal.Goals as goal

pub returns-then-asked-gt1 : goal.returns-then-asked-gt1
unfolding asked_renewal
returns-then-asked-gt1 c = c.bad.ensures ∙ sym (cond_false _ _ _ (lt-leb _ _ c.if-asked-gt1.true))

pub returns : goal.returns
unfolding asked_renewal
returns c = sym (cond_true _ _ _ (le-leb _ _ c.if-asked-gt1.false))
