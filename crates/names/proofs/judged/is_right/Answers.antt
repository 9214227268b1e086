use native.Mathlib.Omega.{arith}
use mathlib.Core.Path.{◌∙◌}
use Rattle.names.proofs.Bytes.{zeros_std, folded_std}
use Rattle.names.proofs.Entries.{too_long, not_unused, as_it_is, if_folded}
use borrow.Author.Rules.{rules}
use Rattle.names.proofs.judged.is_right.Goals as goal

pub overflow_cast-len : goal.overflow_cast-len
overflow_cast-len c = omega (arith, c.type_inv.bytes 0)

pub returns-then-len-gt-LONGEST : goal.returns-then-len-gt-LONGEST
returns-then-len-gt-LONGEST c = search (too_long, rules)

pub returns-then-not-is_zero : goal.returns-then-not-is_zero
returns-then-not-is_zero c = not_unused _ _ c.if-len-gt-LONGEST.false _ (c.is_zero.ensures ∙ zeros_std _) c.if-not-is_zero.true

pub returns-then-not-folding : goal.returns-then-not-folding
returns-then-not-folding c = as_it_is _ _ c.if-len-gt-LONGEST.false _ (c.is_zero.ensures ∙ zeros_std _) c.if-not-is_zero.false c.if-not-folding.true

pub returns : goal.returns
returns c = if_folded _ _ c.if-len-gt-LONGEST.false _ (c.is_zero.ensures ∙ zeros_std _) _ _ c.if-not-is_zero.false c.if-not-folding.false c.name_of.ensures (c.is_folded.ensures ∙ folded_std _)
