-- The datagram is looked for, and then it is delivered.
use Rattle.std.proofs.Common.{None, Some, refl}
use Rattle.rx_script.specs.declared.outcome.PlanWhy.TheVariants as causes
use Rattle.rx_plan.specs.Finds.{numbered}
use Rattle.rx_plan.specs.Network.{delivers}
use Rattle.rx_stage.specs.Ran.{stop_of}
use Rattle.rx_plan.specs.Stages.{Stage}
use Rattle.rx_stage.proofs.Delivering.{nodes_play}
use Rattle.rx_stage.proofs.Keeping.{packet_there}
use Rattle.rx_stage.proofs.Making.{found_goes}
use Rattle.rx_stage.proofs.Stepping.{refused_plays}
use Rattle.rx_stage.proofs.world.World.deliver_line.Goals as goal

pub returns-in-None-clause-plays : goal.returns-in-None-clause-plays
returns-in-None-clause-plays g c =
    refused_plays causes.NoPacket delivers (λ (s : Stage). numbered s.packets c.args.k) _ _ _
    (packet_there _ _ c.deref.result.now c.args.k None c.self.view_is c.deref.ensures.value c.in-None.ensures)

pub returns-in-Some-clause-plays : goal.returns-in-Some-clause-plays
returns-in-Some-clause-plays g c =
    found_goes causes.NoPacket delivers (λ (s : Stage). numbered s.packets c.args.k) c.in-Some.datagram.now _ _
    (stop_of c.deliver.result) _ _
    (packet_there _ _ c.deref.result.now c.args.k (Some c.in-Some.datagram.now) c.self.view_is c.deref.ensures.value
    c.in-Some.ensures)
    (nodes_play (delivers c.in-Some.datagram.now) _ _ _ c.deliver.new.nodes (stop_of c.deliver.result) _ _
    c.self.view_is refl c.deliver.ensures)
