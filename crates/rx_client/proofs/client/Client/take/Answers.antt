use Rattle.std.proofs.Common.{◌≡◌, ap, sym, ◌∙◌}
use Rattle.rx_packet.specs.Seen.{message_of, seen}
use Rattle.rx_node.specs.Node.{setup_of}
use Rattle.rx_node.proofs.KeptKeys.{kept_setup}
use Rattle.rx_client.proofs.Answering.{calling_on}
use Rattle.rx_client.proofs.ClientEvents.{taken}
use Rattle.rx_client.proofs.client.Client.take.Goals as goal

pub invariant_of-self : goal.invariant_of-self
invariant_of-self g c =
    let n = c.self.inside.node in
    let new = c.take_message.new.node in
    let same : setup_of g.C.Class.class_of new ≡ setup_of g.C.Class.class_of n =
    kept_setup g.C.Class.class_of n new c.take_message.ensures.same in
    let i = c.self.invariant in (
      calling_on g.C.Class.class_of n new _ same
          (taken g.C.Class.class_of n c.self.inside.host c.self.inside.epoch i.1 new same c.args.from c.args.bytes.now
          (message_of c.in-Ok.head c.in-Ok.body) c.take_message.result (λ j. (c.type_inv.bytes j).fits)
          (sym (ap (λ r. seen r) c.in-Ok.is) ∙ c.read_msg.ensures.exact) c.take_message.ensures.takes) i.0,
      c.take_message.ensures.same.kind ∙ i.1,
    )

pub returns-in-Ok-clause-answered : goal.returns-in-Ok-clause-answered
returns-in-Ok-clause-answered g c =
    let n = c.self.inside.node in
    let new = c.take_message.new.node in
    let same : setup_of g.C.Class.class_of new ≡ setup_of g.C.Class.class_of n =
    kept_setup g.C.Class.class_of n new c.take_message.ensures.same in
    let i = c.self.invariant in
    rw (← c.self.view_is)
    (taken g.C.Class.class_of n c.self.inside.host c.self.inside.epoch i.1 new same c.args.from c.args.bytes.now
    (message_of c.in-Ok.head c.in-Ok.body) c.take_message.result (λ j. (c.type_inv.bytes j).fits)
    (sym (ap (λ r. seen r) c.in-Ok.is) ∙ c.read_msg.ensures.exact) c.take_message.ensures.takes)
