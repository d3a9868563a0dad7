-- One node after another is passed.
use Rattle.std.proofs.Common.{◌≡◌, ◌<◌, ◌∙◌, arith, length, refl, suc, None}
use Rattle.rx_plan.specs.Network.{comes_to, delivers}
use Rattle.rx_stage.proofs.Delivering.{delivers_done, delivers_more, delivers_stop_as, nodes_none}
use Rattle.rx_stage.proofs.Numbers.{nodes_few}
use Rattle.rx_stage.proofs.network_lines.deliver.Goals as goal

pub loop-node-init : goal.loop-node-init
loop-node-init g c =
    record { plays = nodes_none (comes_to c.args.datagram.now) c.args.nodes.now _; count = refl }

pub returns-in_err-come_to : goal.returns-in_err-come_to
returns-in_err-come_to g c =
    (let less : c.loop-node.node < suc (length c.args.nodes.now.clients) =
    omega (arith, c.node_count-node-end.ensures.there, c.loop-node-test.true) in
    delivers_stop_as c.args.datagram.now c.loop-node.node c.args.nodes.now c.loop-node.nodes c.come_to.new.nodes
    c.from_residual.result c.in_err-come_to.field-0.0 _ _ _ c.from_residual.ensures less
    c.loop-node.invariant.plays c.in_err-come_to.ensures.plays)

pub loop-node-preserved : goal.loop-node-preserved
loop-node-preserved g c =
    record {
      plays = delivers_more c.args.datagram.now c.loop-node.node c.args.nodes.now c.loop-node.nodes c.come_to.new.nodes
          _ _ _ c.loop-node.invariant.plays c.in_ok-come_to.ensures.plays;
      count = c.come_to.ensures.clients ∙ c.loop-node.invariant.count;
    }

pub returns : goal.returns
returns g c =
    nodes_few (delivers c.args.datagram.now) c.args.nodes.now c.loop-node.nodes None _ _ (λ few.
    (let all : c.loop-node.node ≡ suc (length c.args.nodes.now.clients) =
    omega (arith, c.node_count-node-end.ensures.count few, c.loop-node-test.false, c.loop-node.auto.node-end) in
    delivers_done c.args.datagram.now c.loop-node.node c.args.nodes.now c.loop-node.nodes _ _ all
    c.loop-node.invariant.plays))
