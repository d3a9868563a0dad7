-- The node is looked for, and then its programs have a turn.
use Rattle.rx_jobs.specs.Handlers.{handlers_of}
use Rattle.rx_script.specs.declared.outcome.PlanWhy.TheVariants as causes
use Rattle.rx_plan.specs.Finds.{node_at}
use Rattle.rx_plan.specs.Lines.{turn_line}
use Rattle.rx_stage.specs.Shown.{script_of}
use Rattle.rx_stage.proofs.Making.{names_none}
use Rattle.rx_stage.proofs.world.World.turn_line.Goals as goal

pub returns-in_err-node-clause-plays : goal.returns-in_err-node-clause-plays
returns-in_err-node-clause-plays g c =
    names_none causes.NoNode (turn_line (handlers_of c.args.iface.now (script_of c.args.self.now))) (node_at
    c.args.node)
    _ _ c.from_residual.result c.in_err-node.field-0.0 _ c.from_residual.ensures c.in_err-node.ensures.found
