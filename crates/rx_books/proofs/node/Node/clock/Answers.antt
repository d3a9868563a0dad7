use Rattle.std.proofs.Common.{refl}
use Rattle.rx_books.proofs.Rebooked.{rebooked_same}
use Rattle.rx_books.proofs.node.Node.clock.Goals as goal

pub invariant_of-self : goal.invariant_of-self
invariant_of-self g c =
    rw c.clock.ensures.updates
    (rebooked_same c.self.inside.core _ c.self.inside.books c.self.invariant refl
    (λ q. record { owed = refl; end = refl }))

pub returns-clause-steps : goal.returns-clause-steps
returns-clause-steps g c = rw (← c.self.view_is) c.clock.ensures.steps
