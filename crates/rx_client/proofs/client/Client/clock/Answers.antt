use Rattle.std.proofs.Common.{◌≤◌, ◌∙◌, ap, sym, subst}
use Rattle.rx_node.specs.Node.{NodeState, setup_of}
use Rattle.rx_client.proofs.Answering.{calling_on}
use Rattle.rx_client.proofs.ClientEvents.{clocked}
use Rattle.rx_client.proofs.client.Client.clock.Goals as goal

pub invariant_of-self : goal.invariant_of-self
invariant_of-self g c =
    let n = c.self.inside.node in
    let i = c.self.invariant in
    let is = c.clock.ensures.updates in
    let later = subst (λ (m : NodeState). m.moment ≤ c.args.now) (sym c.self.view_is) c.requires.later in (
      calling_on g.C.Class.class_of n c.clock.new.self _ (ap (setup_of g.C.Class.class_of) is)
          (clocked g.C.Class.class_of n c.self.inside.host c.self.inside.epoch i.1 c.clock.new.self c.args.now is later
          c.requires.now c.clock.ensures.steps) i.0,
      ap (λ (m : NodeState). m.kind) is ∙ i.1,
    )
