use Rattle.std.proofs.Common.{sym, subst}
use Rattle.rx_due.specs.Heap.{IsHeap}
use Rattle.rx_due.proofs.Moves.{fills}
use Rattle.rx_due.proofs.heap.Heap.settle.Goals as goal

pub returns-clause-heap : goal.returns-clause-heap
returns-clause-heap g c =
    let was = c.sink-hole.ensures in
    subst IsHeap (sym c.stand.ensures.stood)
    (fills c.sink-hole.new.self c.sink-hole.result c.args.entry was.open was.above was.below).heap
