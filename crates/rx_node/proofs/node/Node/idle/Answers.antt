use Rattle.rx_node.proofs.node.Node.idle.Goals as goal

pub invariant_of-self : goal.invariant_of-self
invariant_of-self g c = rw c.idle_now.ensures.same c.self.invariant

pub returns : goal.returns
returns g c =
    record {
      longest = rw (← c.self.view_is) c.idle_now.ensures.longest;
      none = rw (← c.self.view_is) c.idle_now.ensures.none;
      same = rw c.idle_now.ensures.same c.self.view_is;
    }
