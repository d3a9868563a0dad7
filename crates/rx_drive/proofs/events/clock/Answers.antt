use Rattle.std.proofs.Common.{refl}
use Rattle.rx_events.specs.Events.{IsClocked}
use Rattle.rx_model.specs.declared.event.Event.TheVariants as events
use Rattle.rx_drive.specs.Ran.{stop_of}
use Rattle.rx_drive.proofs.Running.{ran_event}
use Rattle.rx_drive.proofs.events.clock.Goals as goal

pub returns-clause-clocks : goal.returns-clause-clocks
returns-clause-clocks g c =
    ran_event _ (g.N.Endpoint.setup c.args.node.now) (g.N.Endpoint.stands c.args.node.now)
    (g.N.Endpoint.stands c.clock.new.self) c.args.number (IsClocked c.args.now) (events.Clocked c.args.now)
    (stop_of c.tell.result) _ _ refl c.clock.ensures.answered (c.event_fits.ensures, c.tell.ensures.told)
