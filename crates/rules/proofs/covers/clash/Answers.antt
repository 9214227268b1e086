use Rattle.lists.proofs.Tests.{codes}
use Rattle.rules.specs.Rules.{clash}
use Rattle.rules.proofs.covers.clash.Goals as goal

pub returns : goal.returns
unfolding clash
returns c = simp codes (cc)
