use Rattle.rx_books.proofs.Rebooked.{rebooked_same}
use Rattle.rx_books.proofs.node.Node.owe_stray.Goals as goal

pub invariant_of-self : goal.invariant_of-self
invariant_of-self g c =
    rebooked_same c.self.inside.core c.owe_stray.new.self c.self.inside.books c.self.invariant
    c.owe_stray.ensures.same.limits c.owe_stray.ensures.channels

pub returns-clause-steps : goal.returns-clause-steps
returns-clause-steps g c = rw (← c.self.view_is) c.owe_stray.ensures.steps
