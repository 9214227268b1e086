use mathlib.Core.Path.{sym, ap, ◌∙◌}
use Rattle.locks.specs.Code.{judge_drop}
use Rattle.locks.proofs.judge.Goals as goal

pub returns-in-Some : goal.returns-in-Some
returns-in-Some c = c.judge_entry.ensures ∙ ap (judge_drop c.args.scope c.args.subject) (sym c.in-Some.is ∙ c.find_defunct.ensures)

pub returns-in-None : goal.returns-in-None
returns-in-None c = ap (judge_drop c.args.scope c.args.subject) (sym c.in-None.is ∙ c.find_defunct.ensures)
