use Rattle.rx_node.proofs.Steps.SmallSteps.{mirrors_clock}
use Rattle.rx_node.proofs.node.Node.clock.Goals as goal

pub returns-clause-steps : goal.returns-clause-steps
returns-clause-steps g c = rw (← c.self.view_is) (λ l m. mirrors_clock g.C.Class.class_of _ l m c.args.now)
