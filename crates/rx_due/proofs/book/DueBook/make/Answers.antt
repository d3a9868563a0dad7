use Rattle.std.proofs.Common.{arith}
use Rattle.rx_due.proofs.Seen.{book_empty}
use Rattle.rx_due.proofs.book.DueBook.make.Goals as goal

pub invariant_of-result : goal.invariant_of-result
invariant_of-result c =
    (book_empty c.in_ok-heap.heap c.args.keys (omega arith) c.in_ok-heap.ensures.entries c.in_ok-heap.ensures.places
    c.in_ok-heap.ensures.len).1

pub returns : goal.returns
returns c =
    (book_empty c.in_ok-heap.heap c.args.keys (omega arith) c.in_ok-heap.ensures.entries c.in_ok-heap.ensures.places
    c.in_ok-heap.ensures.len).0
