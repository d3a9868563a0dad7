use Rattle.std.proofs.Common.{Some, refl}
use Rattle.rx_drive.specs.Ran.{stop_of}
use Rattle.rx_model.specs.declared.event.Event.TheVariants as events
use Rattle.rx_wire_loop.proofs.Outer.{tells_noted}
use Rattle.rx_wire_loop.proofs.outside.UnlinedOutside.tell_polled.Goals as goal

pub returns-clause-told : goal.returns-clause-told
returns-clause-told g c =
    tells_noted c.args.node _ _ _ (events.Polled (Some (c.args.to, c.args.bytes.now))) (stop_of c.note_polled.result)
    c.note_polled.ensures.told refl
