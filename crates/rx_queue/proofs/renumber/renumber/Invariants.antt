use Rattle.std.proofs.Common.{◌≡◌, length}
use Rattle.rx_due.specs.Book.{entries_of}
use Rattle.rx_queue.proofs.Renumbering.{Renumbers}
use Rattle.rx_queue.proofs.renumber.renumber.Given as goal

abbrev pub invariant-given : goal.invariant-given
invariant-given l =
    record {
      renumbers : Renumbers l.fn.counts l.counts l.ready l.next l.count;
      room : length l.ready ≡ length l.fn.ready;
    }

abbrev pub decreases-given : goal.decreases-given
decreases-given l = entries_of l.ready
