use Rattle.std.proofs.Common.{◌<◌, ◌∙◌, ◌==◌, not, filter, ap, length, arith}
use Rattle.rx_queue.specs.Queue.{QueueState}
use Rattle.rx_queue.proofs.Orders.{order_without}
use Rattle.rx_queue.proofs.Renumbering.{apart_none, changes_set}
use Rattle.rx_queue.proofs.queue.Queue.remove_now.Goals as goal

pub returns-clause-order : goal.returns-clause-order
returns-clause-order c =
    let q = c.self.invariant in
    let room = ap (λ (s : QueueState). length s.ready) c.self.view_is in
    let low : c.args.key < length c.self.inside.counts.items = omega (arith, c.requires, room, q.room) in
    let changes = changes_set c.self.inside.counts.items c.args.key _ low in
    order_without c.self.inside.counts.items _ c.args.key c.self.inside.next q.apart
    (apart_none c.self.inside.counts.items _ c.args.key q.apart changes) changes
    ∙ ap (λ (s : QueueState). filter (λ k. not (k == c.args.key)) s.order) c.self.view_is
