use Rattle.std.proofs.Common.{refl}
use Rattle.rx_events.specs.Events.{IsTaken}
use Rattle.rx_model.specs.declared.event.Event.TheVariants as events
use Rattle.rx_drive.specs.Ran.{stop_of}
use Rattle.rx_drive.proofs.Running.{ran_event}
use Rattle.rx_drive.proofs.events.take.Goals as goal

pub returns-clause-takes : goal.returns-clause-takes
returns-clause-takes g c =
    ran_event _ (g.N.Endpoint.setup c.args.node.now) (g.N.Endpoint.stands c.args.node.now)
    (g.N.Endpoint.stands c.take-got.new.self) c.args.number (IsTaken c.args.from c.args.bytes.now)
    (events.Taken c.args.from c.args.bytes.now c.take-got.result) (stop_of c.tell_taken.result) _ _ (refl, refl)
    c.take-got.ensures.answered (c.taken_fits.ensures, c.tell_taken.ensures.told)
