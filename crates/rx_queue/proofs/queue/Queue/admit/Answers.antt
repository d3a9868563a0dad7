use Rattle.std.proofs.Common.{◌<◌, ◌∙◌, ◌≡◌, None, ap, sym, length, arith}
use Rattle.std.proofs.lemmas.Bool.{false≢true}
use Rattle.rx_due.specs.Book.{moment_of}
use Rattle.rx_queue.specs.Queue.{QueueState, is_listed}
use Rattle.rx_queue.proofs.Orders.{listed_not}
use Rattle.rx_queue.proofs.Renumbering.{at_index}
use Rattle.rx_queue.proofs.queue.Queue.admit.Goals as goal

pub returns-in_default-clause-ready : goal.returns-in_default-clause-ready
returns-in_default-clause-ready c listed =
    let q = c.self.invariant in
    let room = ap (λ (s : QueueState). length s.ready) c.self.view_is in
    let low : c.args.key < length c.self.inside.counts.items = omega (arith, c.requires, room, q.room) in
    let none : moment_of c.self.inside.counts.items c.args.key ≡ None =
    at_index c.self.inside.counts.items c.args.key c.index.result.now low ∙ sym c.index.ensures ∙ c.in_default.is in
    absurd (false≢true (sym (listed_not c.self.inside.counts.items c.args.key c.self.inside.next none)
    ∙ ap (λ (s : QueueState). is_listed s c.args.key) c.self.view_is ∙ listed))
