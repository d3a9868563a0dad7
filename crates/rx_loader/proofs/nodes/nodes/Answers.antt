use Rattle.std.proofs.Common.{[], arith}
use Rattle.rx_loader.proofs.Starting.{all_made, client_added, server_made}
use Rattle.rx_loader.proofs.nodes.nodes.Goals as goal

pub loop-client-init : goal.loop-client-init
loop-client-init c =
    record {
      from_one = omega arith;
      made = server_made _ _ _ c.host.ensures c.limits.ensures c.in_ok-nodes.ensures.nodes;
      stands = c.in_ok-nodes.ensures.stands;
    }

pub loop-client-preserved : goal.loop-client-preserved
loop-client-preserved c =
    record {
      from_one = omega arith;
      made =
          client_added _ _ _ _ c.loop-client.client c.loop-client.invariant.from_one (omega arith)
          c.loop-client.invariant.made c.host-in-loop-client.ensures c.limits-in-loop-client.ensures
          c.in_ok-add_client.ensures.nodes;
      stands = c.add_client.ensures.stands [] tt c.loop-client.invariant.stands;
    }

pub returns-clause-nodes : goal.returns-clause-nodes
returns-clause-nodes c = all_made _ c.loop-client.client c.loop-client.invariant.made (omega arith)

pub returns-clause-stands : goal.returns-clause-stands
returns-clause-stands c = c.loop-client.invariant.stands
