-- The node is looked for, and its moment is compared.
use Rattle.std.proofs.Common.{Some}
use Rattle.rx_script.specs.declared.outcome.PlanWhy.TheVariants as causes
use Rattle.rx_stage.specs.declared.stop.Stop.TheVariants as stops
use Rattle.rx_plan.specs.Finds.{node_at}
use Rattle.rx_plan.specs.Lines.{clocks}
use Rattle.rx_stage.specs.Ran.{stop_of}
use Rattle.rx_stage.proofs.Clocking.{clock_made, clock_refused}
use Rattle.rx_stage.proofs.Making.{found_goes, names_none}
use Rattle.rx_stage.proofs.world.World.clock_line.Goals as goal

pub returns-in_err-node-clause-plays : goal.returns-in_err-node-clause-plays
returns-in_err-node-clause-plays g c =
    names_none causes.NoNode (clocks c.args.now) (node_at c.args.node) _ _ c.from_residual.result
    c.in_err-node.field-0.0 _ c.from_residual.ensures c.in_err-node.ensures.found

pub returns-then-moment-now-clause-plays : goal.returns-then-moment-now-clause-plays
returns-then-moment-now-clause-plays g c =
    found_goes causes.NoNode (clocks c.args.now) (node_at c.args.node) c.in_ok-node.node _ _
    (Some (stops.Refused causes.ClockBack)) _ _ c.in_ok-node.ensures.found
    (clock_refused _ _ c.in_ok-node.node c.args.now c.moment.result _ c.self.view_is c.in_ok-node.ensures.there
    c.moment.ensures.value c.if-moment-now.true)

pub returns-clause-plays : goal.returns-clause-plays
returns-clause-plays g c =
    found_goes causes.NoNode (clocks c.args.now) (node_at c.args.node) c.in_ok-node.node _ _
    (stop_of c.clock.result) _ _ c.in_ok-node.ensures.found
    (clock_made _ _ _ c.in_ok-node.node c.args.now c.moment.result (stop_of c.clock.result) _ _ c.self.view_is
    c.in_ok-node.ensures.there c.moment.ensures.value c.if-moment-now.false c.clock.ensures.plays)
