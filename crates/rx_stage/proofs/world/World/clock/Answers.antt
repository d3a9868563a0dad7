-- The event is made, and then it is told.
use Rattle.rx_events.specs.Events.{IsClocked}
use Rattle.rx_stage.specs.Ran.{stop_of}
use Rattle.rx_stage.proofs.Making.{event_told}
use Rattle.rx_stage.proofs.world.World.clock.Goals as goal

pub returns-clause-plays : goal.returns-clause-plays
returns-clause-plays g c =
    event_told c.args.node (λ s. IsClocked c.args.now) c.clock-event.result _ _ _ c.clock-event.new.self
    (stop_of c.tell.result) _ _ c.self.view_is c.tell.ensures.same c.clock-event.ensures.made c.requires.there
    (λ s shown. c.clock-event.ensures.event) c.tell.ensures.told
