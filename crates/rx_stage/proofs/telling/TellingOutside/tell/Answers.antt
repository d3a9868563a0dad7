use Rattle.rx_drive.specs.Ran.{stop_of}
use Rattle.rx_model.specs.declared.event.Event.TheVariants as events
use Rattle.rx_wire.specs.Turns.{noted}
use Rattle.rx_stage.proofs.Outer.{tells_of}
use Rattle.rx_stage.proofs.telling.TellingOutside.tell.Goals as goal

pub returns-in-Ok-clause-told : goal.returns-in-Ok-clause-told
returns-in-Ok-clause-told g c =
    tells_of _ _ _ _ _ _ (noted c.args.node c.args.event.now) (stop_of c.put_line.result)
    c.in-Ok.ensures.ok c.put_line.ensures
