use native.Mathlib.Omega.{arith}
use mathlib.Core.Path.{sym, ◌∙◌}
use borrow.Author.Tests.{eq-eqb, ne_eqb}
use Rattle.lists.proofs.Tests.{cond_true, cond_false}
use Rattle.coverage.proofs.Laws.{bit_set}
use Rattle.coverage.proofs.bit_in.Goals as goal

pub returns-then-e-i : goal.returns-then-e-i
returns-then-e-i c = bit_set c.args.w _ (omega arith) ∙ sym (cond_true _ _ _ (eq-eqb _ _ c.if-e-i.true))

pub returns : goal.returns
returns c = sym (cond_false _ _ _ (ne_eqb _ _ c.if-e-i.false))
