use Rattle.lists.proofs.Tests.{codes}
use Rattle.coverage.specs.Coverage.{covers, in_set}
use Rattle.coverage.proofs.LockCoverage.contains_ecu.Goals as goal

pub returns : goal.returns
unfolding covers in_set
returns c = simp codes (rw c.word-w.ensures)
