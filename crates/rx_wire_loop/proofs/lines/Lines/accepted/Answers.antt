use Rattle.rx_wire_loop.proofs.lines.Lines.accepted.Goals as goal

pub returns-in-Some : goal.returns-in-Some
returns-in-Some g c = rw c.in-Some.is c.accepted_call.ensures
