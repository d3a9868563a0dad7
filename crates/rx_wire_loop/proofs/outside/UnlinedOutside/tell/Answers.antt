use Rattle.std.proofs.Common.{refl}
use Rattle.rx_drive.specs.Ran.{stop_of}
use Rattle.rx_wire_loop.proofs.Outer.{tells_noted}
use Rattle.rx_wire_loop.proofs.outside.UnlinedOutside.tell.Goals as goal

pub returns-clause-told : goal.returns-clause-told
returns-clause-told g c =
    tells_noted c.args.node _ _ _ c.args.event.now (stop_of c.note.result)
    c.note.ensures.told refl
