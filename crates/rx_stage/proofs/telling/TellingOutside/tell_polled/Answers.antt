use Rattle.std.proofs.Common.{Some}
use Rattle.rx_drive.specs.Ran.{stop_of}
use Rattle.rx_model.specs.declared.event.Event.TheVariants as events
use Rattle.rx_wire.specs.Turns.{noted}
use Rattle.rx_stage.proofs.Outer.{tells_of}
use Rattle.rx_stage.proofs.telling.TellingOutside.tell_polled.Goals as goal

pub returns-in-Ok-clause-told : goal.returns-in-Ok-clause-told
returns-in-Ok-clause-told g c =
    tells_of _ _ _ _ _ _ (noted c.args.node (events.Polled (Some (c.args.to, c.args.bytes.now))))
    (stop_of c.put_polled.result)
    c.in-Ok.ensures.ok c.put_polled.ensures
