use Rattle.rx_drive.specs.Ran.{stop_of}
use Rattle.rx_model.specs.declared.event.Event.TheVariants as events
use Rattle.rx_wire.specs.Turns.{noted}
use Rattle.rx_stage.proofs.Outer.{tells_of}
use Rattle.rx_stage.proofs.telling.TellingOutside.tell_taken.Goals as goal

pub returns-in-Ok-clause-told : goal.returns-in-Ok-clause-told
returns-in-Ok-clause-told g c =
    tells_of _ _ _ _ _ _ (noted c.args.node (events.Taken c.args.from c.args.bytes.now c.args.got))
    (stop_of c.put_taken.result)
    c.in-Ok.ensures.ok c.put_taken.ensures
