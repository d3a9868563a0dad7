use Rattle.rx_books.proofs.Rebooked.{rebooked_same}
use Rattle.rx_books.proofs.node.Node.touch.Goals as goal

pub invariant_of-self : goal.invariant_of-self
invariant_of-self g c =
    rebooked_same c.self.inside.core c.touch.new.self c.self.inside.books c.self.invariant c.touch.ensures.same.limits
    c.touch.ensures.channels

pub returns-clause-steps : goal.returns-clause-steps
returns-clause-steps g c = rw (← c.self.view_is) c.touch.ensures.steps
