use Rattle.std.proofs.Common.{◌≡◌, ℕ, List, ◌++◌, Ok}
use Rattle.std.specs.Slice.Iter.{chunks_rest, chunks_size}
use Rattle.hex.specs.Hex.{encode_lower}
use Rattle.rx_wire_loop.specs.Tells.{sink_tells}
use Rattle.rx_top.specs.Puts.{PutsText}
use Rattle.rx_top.proofs.ok_line.put_hex.Given as goal

-- the hex of the pieces so far was put
abbrev pub invariant-loop-piece : goal.invariant-loop-piece
invariant-loop-piece g l = record {
  next : (goal.iterator-loop-piece g).can_next l.piece-iterator;
  ends : (goal.iterator-loop-piece g).is_finite l.piece-iterator;
  size : chunks_size l.piece-iterator ≡ 16384;
  put : (done : List ℕ) × (done ++ chunks_rest l.piece-iterator ≡ l.fn.bytes)
      × PutsText (Ok tt) (encode_lower done)
      (sink_tells (g.O.Sink.told l.initial.out) (g.O.Sink.faults l.initial.out))
      (sink_tells (g.O.Sink.told l.out) (g.O.Sink.faults l.out));
}
