use Rattle.rx_packet.specs.Seen.{ack_of}
use Rattle.rx_packet.proofs.PutsLaws.{and_then, with_marks}
use Rattle.rx_packet.proofs.write.put_ack.Goals as goal

-- the parts one behind the other
pub returns-clause-puts : goal.returns-clause-puts
returns-clause-puts c =
    with_marks (ack_of c.args.ack.now) c.as_slice-marks.result.now c.as_slice-marks.ensures.value
    (and_then c.put-at.ensures (and_then c.put_u32-at.ensures (and_then c.put_u32-at-2.ensures (
    and_then c.put_u32-at-3.ensures (and_then c.put-at-2.ensures (and_then c.put_marks-at.ensures (
    and_then c.put-at-3.ensures c.put_window.ensures.puts)))))))
