-- The client is looked for, the event is made, and then it is told.
use Rattle.rx_script.specs.declared.outcome.PlanWhy.TheVariants as causes
use Rattle.rx_plan.specs.Finds.{client_at}
use Rattle.rx_plan.specs.Lines.{connects}
use Rattle.rx_stage.specs.Ran.{stop_of}
use Rattle.rx_stage.proofs.Making.{found_goes, link_told, names_none}
use Rattle.rx_stage.proofs.world.World.connect_line.Goals as goal

pub returns-in_err-node-clause-plays : goal.returns-in_err-node-clause-plays
returns-in_err-node-clause-plays g c =
    names_none causes.NoNode (connects c.args.first) (client_at c.args.client) _ _ c.from_residual.result
    c.in_err-node.field-0.0 _ c.from_residual.ensures c.in_err-node.ensures.found

pub returns-clause-plays : goal.returns-clause-plays
returns-clause-plays g c =
    found_goes causes.NoNode (connects c.args.first) (client_at c.args.client) c.in_ok-node.node _ _
    (stop_of c.tell.result) _ _ c.in_ok-node.ensures.found
    (link_told c.in_ok-node.node c.host-to.result c.args.first c.connect-event.result _ _ _ c.connect-event.new.self
    (stop_of c.tell.result) _ _ c.self.view_is c.tell.ensures.same c.connect-event.ensures.made
    c.in_ok-node.ensures.there.1 c.host-to.ensures c.connect-event.ensures.event c.tell.ensures.told)
