-- The node is looked for, the event is made and told, and then its datagram is kept.
use Rattle.rx_events.specs.Events.{IsPolled}
use Rattle.rx_script.specs.declared.outcome.PlanWhy.TheVariants as causes
use Rattle.rx_plan.specs.Finds.{node_at}
use Rattle.rx_plan.specs.Lines.{given_packet, polls_line, with_packet}
use Rattle.rx_stage.specs.Ran.{stop_of}
use Rattle.rx_plan.specs.Stages.{host_at}
use Rattle.rx_stage.proofs.Keeping.{polled_comes}
use Rattle.rx_stage.proofs.Making.{event_kept, event_lacks_as, event_stopped, found_goes, names_none}
use Rattle.rx_stage.proofs.world.World.poll_line.Goals as goal

pub returns-in_err-node-clause-plays : goal.returns-in_err-node-clause-plays
returns-in_err-node-clause-plays g c =
    names_none causes.NoNode polls_line (node_at c.args.node) _ _ c.from_residual.result
    c.in_err-node.field-0.0 _ c.from_residual.ensures c.in_err-node.ensures.found

pub returns-in_err-event-clause-plays : goal.returns-in_err-event-clause-plays
returns-in_err-event-clause-plays g c =
    found_goes causes.NoNode polls_line (node_at c.args.node) c.in_ok-node.node _ _
    (stop_of c.from_residual-in_err-event.result) _ _ c.in_ok-node.ensures.found
    (event_lacks_as c.in_ok-node.node (λ s. IsPolled)
    (λ s e t. with_packet (given_packet (host_at s c.in_ok-node.node) e) t) _ _ c.from_residual-in_err-event.result _
    c.from_residual-in_err-event.ensures)

pub returns-in_err-tell-clause-plays : goal.returns-in_err-tell-clause-plays
returns-in_err-tell-clause-plays g c =
    found_goes causes.NoNode polls_line (node_at c.args.node) c.in_ok-node.node _ _
    (stop_of c.from_residual-in_err-tell.result) _ _ c.in_ok-node.ensures.found
    (event_stopped c.in_ok-node.node (λ s. IsPolled)
    (λ s e t. with_packet (given_packet (host_at s c.in_ok-node.node) e) t) c.in_ok-event.event _ _ _ c.poll.new.self
    c.from_residual-in_err-tell.result c.in_err-tell.field-0.0 _ _ c.self.view_is c.in_ok-event.ensures.made
    (λ s shown. c.in_ok-event.ensures.event) c.in_err-tell.ensures.told c.from_residual-in_err-tell.ensures)

pub returns-clause-plays : goal.returns-clause-plays
returns-clause-plays g c =
    found_goes causes.NoNode polls_line (node_at c.args.node) c.in_ok-node.node _ _ (stop_of c.keep_packet.result) _ _
    c.in_ok-node.ensures.found
    (event_kept c.in_ok-node.node (λ s. IsPolled)
    (λ s e t. with_packet (given_packet (host_at s c.in_ok-node.node) e) t) c.in_ok-event.event _ _ c.tell.new.self _
    c.poll.new.self (stop_of c.keep_packet.result) _ _ c.self.view_is c.tell.ensures.same c.in_ok-event.ensures.made
    c.in_ok-node.ensures.there (λ s shown. c.in_ok-event.ensures.event) c.in_ok-tell.ensures.told
    (λ s t shown after. polled_comes c.args.self.now _ _ c.tell.new.self s t c.in_ok-node.node c.host-from.result
    c.in_ok-event.event c.keep_packet.new.packets.items (stop_of c.keep_packet.result) _ c.self.view_is
    c.host-from.ensures
    shown c.in_ok-node.ensures.there c.self-2.view_is after c.keep_packet.ensures))
