use native.Mathlib.Omega.{arith}
use Rattle.coverage.proofs.Laws.{contains_code, sized}
use Rattle.coverage.proofs.LockCoverage.contains.Goals as goal

pub returns : goal.returns
returns c = let p = c.args in contains_code p.self p.other (sized p.other (omega arith) (omega arith) (omega arith) (omega arith))
