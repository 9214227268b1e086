use mathlib.Core.Path.{sym, ◌∙◌}
use Rattle.locks.proofs.Laws.{tested_ok, tested_err}
use Rattle.locks.proofs.untouched.Goals as goal

pub returns-in-Ok : goal.returns-in-Ok
returns-in-Ok c = tested_ok _ _ _ (sym c.broken.ensures ∙ c.in-Ok.is)

pub returns-in-Err : goal.returns-in-Err
returns-in-Err c = tested_err _ _ _ _ (sym c.broken.ensures ∙ c.in-Err.is) c.from.ensures
