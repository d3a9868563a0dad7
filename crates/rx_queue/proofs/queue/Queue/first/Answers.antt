use Rattle.std.proofs.Common.{◌∙◌, ◌+◌, ◌-◌, ◌≡◌, ℕ, Option, Some, suc, true, is_some, ap, sym, subst, arith, refl}
use Rattle.std.specs.List.{find}
use Rattle.rx_queue.specs.Counts.{order_of}
use Rattle.rx_queue.specs.Queue.{QueueState, is_ready}
use Rattle.rx_queue.proofs.Orders.{first_found, first_none}
use Rattle.rx_queue.proofs.Renumbering.{entries_none}
use Rattle.rx_queue.proofs.queue.Queue.first.Goals as goal

pub returns-in_err-_count-clause-first : goal.returns-in_err-_count-clause-first
returns-in_err-_count-clause-first g c =
    let none = entries_none c.self.inside.ready (c.in_err-_count.ensures.empty.0 refl) in
    c.from_residual.ensures
    ∙ sym (first_none c.self.inside.ready (order_of c.self.inside.counts.items c.self.inside.next) none)
    ∙ ap (λ (s : QueueState). find (is_ready s) s.order) c.self.view_is

pub returns-clause-first : goal.returns-clause-first
returns-clause-first g c =
    let q = c.self.invariant in
    let m = c.in_ok-_count._count in
    let key = c.in_ok-_count.key in
    let least = c.in_ok-_count.ensures.least in
    let its = q.told key m least.there in
    let low = q.below key m its in
    let reach : suc (m + (c.self.inside.next - suc m)) ≡ c.self.inside.next = omega (arith, low) in
    let found = first_found c.self.inside.counts.items c.self.inside.ready key m q.apart q.told least.there
    (λ p n is. (least.least p n is).moment) (c.self.inside.next - suc m) in
    sym (subst (λ (n : ℕ). find
    (is_ready (record { order = order_of c.self.inside.counts.items n; ready = c.self.inside.ready }))
    (order_of c.self.inside.counts.items n) ≡ Some key) reach found)
    ∙ ap (λ (s : QueueState). find (is_ready s) s.order) c.self.view_is

pub returns-clause-ready : goal.returns-clause-ready
returns-clause-ready g c =
    subst (λ (s : QueueState). is_ready s c.in_ok-_count.key ≡ true) c.self.view_is
    (ap (λ (o : Option ℕ). is_some o) c.in_ok-_count.ensures.least.there)
