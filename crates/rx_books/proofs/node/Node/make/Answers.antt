use Rattle.std.proofs.Common.{◌*◌, ap, sym}
use Rattle.rx_model.specs.declared.names.Limits.{Limits}
use Rattle.rx_books.proofs.Rebooked.{booked_first}
use Rattle.rx_books.proofs.node.Node.make.Goals as goal

pub invariant_of-result : goal.invariant_of-result
invariant_of-result g c =
    booked_first c.in_ok-core.core c.in_ok-books.books (4 * c.args.limits.now.conns)
    c.in_ok-core.ensures.empty.conns.conns c.in_ok-books.ensures.ranks c.in_ok-books.ensures.silences
    (sym (ap (λ (l : Limits). 4 * l.conns) c.in_ok-core.ensures.limits))
