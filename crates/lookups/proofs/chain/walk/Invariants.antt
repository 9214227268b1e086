use Rattle.ids.specs.Order.{key}
use Rattle.state.specs.Model.{model_of}
use Rattle.lookups.proofs.Walk.{ahead}
use Rattle.lookups.proofs.Visits.{Along}
use Rattle.lookups.proofs.chain.walk.Given as goal

abbrev pub invariant-loop-a : goal.invariant-loop-a
invariant-loop-a l = Along l.s l.initial.id l.initial.holder l.id l.holder l.links

abbrev pub decreases-loop-a : goal.decreases-loop-a
decreases-loop-a l = ahead (model_of l.s).defunct (key l.id)
