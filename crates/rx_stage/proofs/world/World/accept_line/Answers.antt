-- The event is made and told, and then its name is kept.
use Rattle.std.proofs.Common.{None}
use Rattle.rx_events.specs.Events.{IsAccepted}
use Rattle.rx_plan.specs.Lines.{with_accepted}
use Rattle.rx_plan.specs.Parts.{To}
use Rattle.rx_stage.proofs.Keeping.{accepted_comes}
use Rattle.rx_stage.proofs.Making.{event_kept, event_stopped, event_unkept, server_there}
use Rattle.rx_stage.proofs.world.World.accept_line.Goals as goal

pub returns-in_err-tell-clause-plays : goal.returns-in_err-tell-clause-plays
returns-in_err-tell-clause-plays g c =
    event_stopped 0 (λ s. IsAccepted) (λ s e t. To (with_accepted e t)) c.accept-event.result _ _ _
    c.accept-event.new.self c.from_residual.result c.in_err-tell.field-0.0 _ _ c.self.view_is
    c.accept-event.ensures.made
    (λ s shown. c.accept-event.ensures.event) c.in_err-tell.ensures.told c.from_residual.ensures

pub returns-in_err-keep_accepted-clause-plays : goal.returns-in_err-keep_accepted-clause-plays
returns-in_err-keep_accepted-clause-plays g c =
    event_unkept 0 (λ s. IsAccepted) (λ s e t. To (with_accepted e t)) c.accept-event.result _ _ _
    c.accept-event.new.self c.from_residual-in_err-keep_accepted.result _ _ c.self.view_is c.accept-event.ensures.made
    (server_there c.args.self.now.nodes) (λ s shown. c.accept-event.ensures.event) c.in_ok-tell.ensures.told
    c.from_residual-in_err-keep_accepted.ensures

pub returns-clause-plays : goal.returns-clause-plays
returns-clause-plays g c =
    event_kept 0 (λ s. IsAccepted) (λ s e t. To (with_accepted e t)) c.accept-event.result _ _ c.tell.new.self _
    c.accept-event.new.self None _ _ c.self.view_is c.tell.ensures.same c.accept-event.ensures.made
    (server_there c.args.self.now.nodes) (λ s shown. c.accept-event.ensures.event) c.in_ok-tell.ensures.told
    (λ s t shown after. accepted_comes _ c.tell.new.self t c.keep_accepted.new.names.items c.accept-event.result _
    c.self-2.view_is after c.in_ok-keep_accepted.ensures)
