use Rattle.rx_due.specs.Book.{entries_of}
use Rattle.rx_rules.specs.Looks.{Looks}
use Rattle.rx_node.specs.Mirrors.{Mirrors}
use Rattle.rx_node.specs.Node.{KeepsNode}
use Rattle.rx_books.specs.Books.{IsBooked}
use Rattle.rx_books.proofs.SilentCalls.{Ending}
use Rattle.rx_books.proofs.silence.end_silent.Given as goal

abbrev pub invariant-silent : goal.invariant-silent
invariant-silent g l =
    record {
      booked : IsBooked l.core l.books;
      ending : (m : Looks) → Mirrors g.C.Class.class_of l.fn.core m
          → Ending g.C.Class.class_of l.core m l.fn.steps l.steps;
      same : KeepsNode l.fn.core l.core;
    }

abbrev pub decreases-silent : goal.decreases-silent
decreases-silent g l = entries_of l.books.silences
