use Rattle.rx_due.specs.Heap.{IsOpen, KeepsOthers}
use Rattle.rx_due.proofs.Levels.{Climbs}
use Rattle.rx_due.proofs.heap.Heap.lift.Given as goal

abbrev pub invariant-loop-above : goal.invariant-loop-above
invariant-loop-above g l = record {
  opens : IsOpen l.self l.place l.entry.1;
  keeps : KeepsOthers l.fn.self l.self l.entry.1;
  climbs : Climbs 3 l.place l.fn.hole l.fn.steps l.steps;
}

abbrev pub decreases-loop-above : goal.decreases-loop-above
decreases-loop-above g l = l.place
