use native.Mathlib.Omega.{arith}
use Rattle.coverage.proofs.Laws.{meets_code, sized}
use Rattle.coverage.proofs.LockCoverage.meets.Goals as goal

pub returns : goal.returns
returns c = let p = c.args in meets_code p.self p.other (sized p.self (omega arith) (omega arith) (omega arith) (omega arith))
