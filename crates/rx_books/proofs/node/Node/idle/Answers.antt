use Rattle.std.proofs.Common.{◌∙◌, subst, sym}
use Rattle.rx_node.specs.Node.{NodeState}
use Rattle.rx_books.specs.Books.{IsBooked}
use Rattle.rx_books.proofs.node.Node.idle.Goals as goal

pub invariant_of-self : goal.invariant_of-self
invariant_of-self g c =
    subst (λ (n : NodeState). IsBooked n c.self.inside.books) (sym c.idle.ensures.same) c.self.invariant

pub returns : goal.returns
returns g c =
    record {
      longest = rw (← c.self.view_is) c.idle.ensures.longest;
      none = rw (← c.self.view_is) c.idle.ensures.none;
      same = c.idle.ensures.same ∙ c.self.view_is;
    }
