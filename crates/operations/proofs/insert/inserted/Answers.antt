use Rattle.std.proofs.Common.{rules}
use Rattle.operations.specs.Defuncts.{superseded}
use Rattle.operations.proofs.Inserting.{put_ready, put_some}
use Rattle.operations.proofs.insert.inserted.Goals as goal

pub shed_in-requires-clause-ready : goal.shed_in-requires-clause-ready
shed_in-requires-clause-ready c = put_ready c.args.s.now c.requires.0 c.args.new c.requires.1 _ c.put_in.ensures

pub returns : goal.returns
returns c = put_some c.args.s.now c.requires.0 c.args.new c.requires.1 _ c.put_in.ensures _ (c.shed_in.ensures (superseded c.args.new) (λ d b m. search rules))
