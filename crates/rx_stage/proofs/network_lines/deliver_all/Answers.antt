-- One datagram after another is delivered.
use Rattle.rx_plan.specs.Network.{delivers}
use Rattle.rx_stage.proofs.Delivering.{all_more, all_stop_as, nodes_none}
use Rattle.rx_stage.proofs.network_lines.deliver_all.Goals as goal

pub loop-datagram-init : goal.loop-datagram-init
loop-datagram-init g c = nodes_none delivers c.args.nodes.now _

pub returns-in_err-deliver : goal.returns-in_err-deliver
returns-in_err-deliver g c =
    all_stop_as delivers c.args.packets.now c.loop-datagram.datagram-index c.datagram-item.result c.args.nodes.now
    c.loop-datagram.nodes c.deliver.new.nodes c.from_residual.result c.in_err-deliver.field-0.0 _ _ _
    c.from_residual.ensures c.loop-datagram-test.true c.datagram-item.is c.loop-datagram.invariant
    c.in_err-deliver.ensures

pub loop-datagram-preserved : goal.loop-datagram-preserved
loop-datagram-preserved g c =
    all_more delivers c.args.packets.now c.loop-datagram.datagram-index c.datagram-item.result c.args.nodes.now
    c.loop-datagram.nodes c.deliver.new.nodes _ _ _ c.loop-datagram-test.true c.datagram-item.is
    c.loop-datagram.invariant
    c.in_ok-deliver.ensures
