use Rattle.lists.specs.Lists.{filter}
use Rattle.state.specs.Model.{model_of}
use Rattle.operations.proofs.Passing.{settled_of, shed_state}
use Rattle.operations.proofs.defuncts.shed_in.Goals as goal

pub shed-s-requires-clause-settled : goal.shed-s-requires-clause-settled
shed-s-requires-clause-settled g c = settled_of c.args.s.now c.requires.ready

pub returns : goal.returns
returns g c = λ p t. shed_state c.args.s.now c.requires.ready (filter p (model_of c.args.s.now).defunct) _ _ (c.shed-s.ensures p t)
