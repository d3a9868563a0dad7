use Rattle.std.proofs.Common.{◌≡◌, ℕ, List, Option, Some, None, true, is_some, refl, subst}
use Rattle.rx_due.specs.Book.{moment_of}
use Rattle.rx_queue.specs.Counts.{IsQueue, order_of}
use Rattle.rx_queue.specs.Queue.{QueueState, is_listed, is_ready}
use Rattle.rx_queue.proofs.Orders.{listed_by}
use Rattle.rx_queue.proofs.queue.Queue.each_came.Goals as goal

comes : (counts ready : List (Option ℕ)) (next : ℕ) → IsQueue counts ready next → (key : ℕ) (o : Option ℕ)
    → moment_of ready key ≡ o → is_some o ≡ true
    → is_listed (record { order = order_of counts next; ready = ready }) key ≡ true
comes counts ready next q key None at is = absurd (cc (is))
comes counts ready next q key (Some n) at is =
    (let its = q.told key n at in listed_by counts key n next q.apart its (q.below key n its))

pub returns : goal.returns
returns c =
    subst (λ (s : QueueState). (key : ℕ) → is_ready s key ≡ true → is_listed s key ≡ true) c.self.view_is
    (λ key is. comes c.self.inside.counts.items c.self.inside.ready c.self.inside.next c.self.invariant key _ refl is)
