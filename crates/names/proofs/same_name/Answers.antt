use mathlib.Core.Path.{◌∙◌}
use borrow.Author.Tests.{ne_eqb}
use Rattle.names.proofs.Bytes.{same_std, other_length}
use Rattle.names.proofs.same_name.Goals as goal

pub returns-then-stored-name : goal.returns-then-stored-name
returns-then-stored-name c = c.same_so_far.ensures ∙ same_std _ _ _ c.if-stored-name.true

pub returns-else-stored-name : goal.returns-else-stored-name
returns-else-stored-name c = ne_eqb _ _ c.if-stored-name.false ∙ other_length _ _ _ c.if-stored-name.false
