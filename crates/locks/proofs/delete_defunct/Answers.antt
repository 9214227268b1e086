use Rattle.std.proofs.Common.{rules}
use Rattle.locks.proofs.Laws.{drop_done, kept_false, kept_err}
use Rattle.locks.proofs.delete_defunct.Goals as goal

pub returns-in-Ok-true : goal.returns-in-Ok-true
returns-in-Ok-true c = search (rules, drop_done)

pub returns-in-Ok-false : goal.returns-in-Ok-false
returns-in-Ok-false c = kept_false _ _ _ _ _ c.judge.ensures _ _ c.in-Ok-false.is c.in-Ok-false.field-0-test c.untouched.ensures

pub returns-in-Err : goal.returns-in-Err
returns-in-Err c = kept_err _ _ _ _ _ c.judge.ensures _ _ c.in-Err.is c.untouched-in-Err.ensures
