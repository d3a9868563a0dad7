-- A datagram that is for the node's host is taken.
use Rattle.std.proofs.Common.{◌≤◌, ap, arith, get_or, sym}
use Rattle.rx_drive.specs.Tells.{Ways}
use Rattle.rx_events.specs.Events.{IsTaken}
use Rattle.rx_stage.specs.Ran.{stop_of}
use Rattle.rx_stage.proofs.Delivering.{comes_here, not_here}
use Rattle.rx_stage.proofs.Lending.{client_lent, clients_left, server_lent}
use Rattle.rx_stage.proofs.Polling.{told_seen}
use Rattle.rx_stage.proofs.Taking.{bytes_taken, event_driven}
use Rattle.rx_stage.proofs.network_lines.come_to.Goals as goal

pub returns-then-not-here-clause-plays : goal.returns-then-not-here-clause-plays
returns-then-not-here-clause-plays g c =
    not_here _ _ c.args.node c.args.nodes.now c.host.result c.is_for-here.result _ c.datagram.view_is c.host.ensures
    c.is_for-here.ensures c.if-not-here.true c.requires

pub returns-then-node-eq-SERVER-clause-plays : goal.returns-then-node-eq-SERVER-clause-plays
returns-then-node-eq-SERVER-clause-plays g c =
    let book = c.book-1.given.1 (sym (ap (λ (w : Ways). get_or w.names 2 0) c.take.ensures.ways)) in
    let out = c.out-1.given.1 (sym (ap (λ (w : Ways). get_or w.names 1 0) c.take.ensures.ways)) in
    comes_here _ _ c.args.node c.args.nodes.now _ c.host.result c.is_for-here.result (stop_of c.plan_end.result) _ _
    c.datagram.view_is c.host.ensures c.is_for-here.ensures c.if-not-here.false c.requires
    (bytes_taken c.args.node c.datagram.inside.from c.as_slice-bytes.result.now c.datagram.inside.bytes c.args.nodes.now
    _ (stop_of c.plan_end.result) _ _ _ c.as_slice-bytes.ensures
    (told_seen g.J.Journal.told g.O.Sink.told g.O.Sink.faults _ _ _ _ book out)
    (event_driven (IsTaken c.datagram.inside.from c.as_slice-bytes.result.now) c.args.nodes.now _ c.args.node _ _ _ _
    (stop_of c.plan_end.result) _ _ c.plan_end.ensures
    (server_lent c.args.nodes.now c.args.node c.server_mut-server.result.now c.take.new.node c.if-node-eq-SERVER.true
    c.server_mut-server.ensures.value c.take.ensures.setup) c.take.ensures.takes))

pub returns-clause-plays : goal.returns-clause-plays
returns-clause-plays g c =
    let one : 1 ≤ c.args.node = omega (arith, c.if-node-eq-SERVER.false) in
    let book = c.book-2-1.given.1 (sym (ap (λ (w : Ways). get_or w.names 2 0) c.take-2.ensures.ways)) in
    let out = c.out-2-1.given.1 (sym (ap (λ (w : Ways). get_or w.names 1 0) c.take-2.ensures.ways)) in
    comes_here _ _ c.args.node c.args.nodes.now _ c.host.result c.is_for-here.result (stop_of c.plan_end-2.result) _ _
    c.datagram.view_is c.host.ensures c.is_for-here.ensures c.if-not-here.false c.requires
    (bytes_taken c.args.node c.datagram.inside.from c.as_slice-bytes.result.now c.datagram.inside.bytes c.args.nodes.now
    _ (stop_of c.plan_end-2.result) _ _ _ c.as_slice-bytes.ensures
    (told_seen g.J.Journal.told g.O.Sink.told g.O.Sink.faults _ _ _ _ book out)
    (event_driven (IsTaken c.datagram.inside.from c.as_slice-bytes.result.now) c.args.nodes.now _ c.args.node _ _ _ _
    (stop_of c.plan_end-2.result) _ _ c.plan_end-2.ensures
    (client_lent c.args.nodes.now c.args.node c.client_mut-client.result.now c.take-2.new.node (one, c.requires)
    c.client_mut-client.ensures.value c.take-2.ensures.setup) c.take-2.ensures.takes))

pub returns-clause-clients : goal.returns-clause-clients
returns-clause-clients g c = clients_left c.args.nodes.now c.args.node c.take-2.new.node
