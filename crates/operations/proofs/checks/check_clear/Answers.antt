use mathlib.Core.Path.{sym, ◌∙◌}
use Rattle.lists.proofs.Lists.{find→}
use Rattle.operations.specs.Checks.{conflicts}
use Rattle.operations.proofs.checks.check_clear.Goals as goal

pub conflict_with-requires : goal.conflict_with-requires
conflict_with-requires c = (find→ (conflicts c.args.new) c.args.locks.now (sym c.clash.ensures ∙ c.in-Some.is)).1
