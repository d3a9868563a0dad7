use Rattle.rx_wire_loop.proofs.Running.{stopped}
use Rattle.rx_wire_loop.proofs.ports.note_none.Goals as goal

pub returns-in_err-note-clause-told : goal.returns-in_err-note-clause-told
returns-in_err-note-clause-told g c =
    rw (stopped c.from_residual.result c.in_err-note.field-0.0 c.from_residual.ensures.1) c.in_err-note.ensures.told
