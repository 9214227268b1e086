use mathlib.Core.Path.{◌∙◌}
use Rattle.lists.proofs.Std.{any_std}
use Rattle.operations.proofs.Listing.{active_yes, active_no}
use Rattle.operations.proofs.checks.check_active.Goals as goal

pub returns-then-id_active : goal.returns-then-id_active
returns-then-id_active c = active_yes _ _ _ (c.id_active.ensures ∙ any_std _ _) c.if-id_active.true

pub returns : goal.returns
returns c = active_no _ _ _ (c.id_active.ensures ∙ any_std _ _) c.if-id_active.false
