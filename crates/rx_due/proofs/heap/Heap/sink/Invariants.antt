use Rattle.std.proofs.Common.{◌-◌}
use Rattle.rx_due.specs.Heap.{IsOpen, IsAboveNoGreater, KeepsOthers}
use Rattle.rx_due.proofs.Levels.{Climbs}
use Rattle.rx_due.proofs.heap.Heap.sink.Given as goal

abbrev pub invariant-loop-below : goal.invariant-loop-below
invariant-loop-below g l = record {
  opens : IsOpen l.self l.place l.entry.1;
  above : IsAboveNoGreater l.self l.place l.entry;
  keeps : KeepsOthers l.fn.self l.self l.entry.1;
  climbs : Climbs 4 l.fn.hole l.place l.fn.steps l.steps;
}

abbrev pub decreases-loop-below : goal.decreases-loop-below
decreases-loop-below g l = l.self.len - l.place
