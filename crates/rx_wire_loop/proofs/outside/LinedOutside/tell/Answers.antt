use Rattle.rx_drive.specs.Ran.{stop_of}
use Rattle.rx_wire_loop.proofs.Outer.{tells_lined}
use Rattle.rx_wire_loop.proofs.outside.LinedOutside.tell.Goals as goal

pub returns-in-Ok-clause-told : goal.returns-in-Ok-clause-told
returns-in-Ok-clause-told g c =
    tells_lined c.args.node _ _ _ c.args.event.now _ (stop_of c.tell.result) c.in-Ok.ensures.ok c.tell.ensures
