use Rattle.rx_drive.specs.Ran.{stop_of}
use Rattle.rx_drive.proofs.Gaining.{grows_none}
use Rattle.rx_model.specs.declared.event.Event.TheVariants as events
use Rattle.rx_wire_loop.proofs.Outer.{tells_noted}
use Rattle.rx_wire_loop.proofs.outside.LinedOutside.tell_taken.Goals as goal

pub returns-clause-told : goal.returns-clause-told
returns-clause-told g c =
    tells_noted c.args.node _ _ _ (events.Taken c.args.from c.args.bytes.now c.args.got) (stop_of c.note_taken.result)
    c.note_taken.ensures.told (grows_none _)
