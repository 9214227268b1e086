use Rattle.look.proofs.Edges.{edge_here, edge_on, edge_past}
use Rattle.look.proofs.text.edge.Goals as goal

pub returns-then-contains_ecu-inside-clause-first :
    goal.returns-then-contains_ecu-inside-clause-first
returns-then-contains_ecu-inside-clause-first c = edge_here c.args.c c.args.inside _ _ _ c.loop-e.invariant c.loop-e-test.true c.contains_ecu.ensures c.if-contains_ecu-inside.true

pub loop-e-preserved : goal.loop-e-preserved
loop-e-preserved c = edge_on c.args.c c.args.inside _ _ _ c.loop-e.invariant c.loop-e-test.true c.contains_ecu.ensures c.if-contains_ecu-inside.false

pub returns-clause-first : goal.returns-clause-first
returns-clause-first c = edge_past c.args.c c.args.inside _ _ _ c.max.ensures c.loop-e.invariant c.loop-e-test.false c.loop-e.auto.e-end
