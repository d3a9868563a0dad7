use Rattle.std.proofs.Common.{ap, ◌∙◌, sym, subst}
use Rattle.rx_packet.specs.Seen.{message_of, seen}
use Rattle.rx_rules.specs.Setup.{IsServer}
use Rattle.rx_server.specs.Server.{ServerState}
use Rattle.rx_server.proofs.MessageSteps.{answers_bad, answers_message}
use Rattle.rx_server.proofs.TurnedSteps.{is_server}
use Rattle.rx_server.proofs.server.Server.take.Goals as goal

pub returns-in-Ok-clause-answered : goal.returns-in-Ok-clause-answered
returns-in-Ok-clause-answered g c =
    let server = subst (λ (sv : ServerState). IsServer sv.node.kind) c.self.view_is
    (is_server c.self.inside.node.kind c.self.inside.service c.self.invariant.0.server) in
    answers_message g.C.Class.class_of _ _ c.args.from c.args.bytes.now (message_of c.in-Ok.head c.in-Ok.body)
    c.take_message.result server c.take_message.ensures.same.setup (λ j. (c.type_inv.bytes j).fits)
    (sym (ap (λ r. seen r) c.in-Ok.is) ∙ c.read_msg.ensures.exact) c.take_message.ensures.judges

pub returns-in-Err-clause-answered : goal.returns-in-Err-clause-answered
returns-in-Err-clause-answered g c =
    let server = subst (λ (sv : ServerState). IsServer sv.node.kind) c.self.view_is
    (is_server c.self.inside.node.kind c.self.inside.service c.self.invariant.0.server) in
    answers_bad g.C.Class.class_of _ c.args.from c.args.bytes.now c.in-Err.bad server (λ j. (c.type_inv.bytes j).fits)
    (sym (ap (λ r. seen r) c.in-Err.is) ∙ c.read_msg.ensures.exact)
