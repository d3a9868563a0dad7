use Rattle.rx_packet.proofs.PutsLaws.{and_then}
use Rattle.rx_packet.proofs.write.put_window.Goals as goal

-- the four words
pub returns-clause-puts : goal.returns-clause-puts
returns-clause-puts c =
    let window = and_then c.put_u32-at-3.ensures c.put_u32.ensures in
    rw c.in-Some.is (and_then c.put_u32-at.ensures (and_then c.put_u32-at-2.ensures window))
