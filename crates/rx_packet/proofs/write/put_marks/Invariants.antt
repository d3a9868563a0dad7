use Rattle.std.proofs.Common.{◌+◌, map, take}
use Rattle.rx_model.specs.Spelling.{mark_byte}
use Rattle.rx_packet.specs.Puts.{Puts}
use Rattle.rx_packet.proofs.write.put_marks.Given as goal

abbrev pub invariant-loop-i : goal.invariant-loop-i
invariant-loop-i l = Puts l.fn.to l.to l.at (l.at + l.i) (map mark_byte (take l.i l.marks))
