use Rattle.std.proofs.Common.{◌≡◌, ◌==◌, map, take}
use Rattle.rx_packet.proofs.read.marks_in.Given as goal

abbrev pub invariant-loop-byte : goal.invariant-loop-byte
invariant-loop-byte l = l.marks.items ≡ map (λ b. b == 1) (take l.byte-index l.bytes)
