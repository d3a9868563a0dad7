use Rattle.std.proofs.Common.{◌≡◌, true, Option, ap, refl, ◌∙◌, sym, subst}
use Rattle.rx_model.specs.declared.answers.Took.{Took}
use Rattle.rx_packet.specs.Seen.{message_of}
use Rattle.rx_rules.specs.Judging.{Facts, else_row, facts_of, server_row}
use Rattle.rx_rules.specs.Looks.{Looks}
use Rattle.rx_node.specs.Mirrors.{Mirrors}
use Rattle.rx_node.specs.Node.{setup_of}
use Rattle.rx_node.specs.Steps.{IsFound, facts_seen}
use Rattle.rx_server.specs.Server.{ServerState}
use Rattle.rx_server.proofs.server.Server.take_named.Goals as goal

pub returns-in-Some-clause-takes : goal.returns-in-Some-clause-takes
returns-in-Some-clause-takes g c =
    let class = g.C.Class.class_of in
    let m = message_of c.args.head.now c.args.body.now in
    let facts = subst (λ (sv : ServerState). (l : Looks) → Mirrors class sv.node l → facts_seen c.facts-facts.result
    ≡ record (facts_of (setup_of class sv.node) l c.args.c.now m) { has_place = true }) c.self.view_is
    c.facts-facts.ensures in
    λ l serves. c.turn_away.ensures.takes l m serves refl (sym c.requires.number)
    (λ call. ap (λ (f : Facts). server_row f call) (sym (facts l serves.mirrors)) ∙ sym (c.server_row.ensures call)
    ∙ ap (λ (o : Option Took). else_row o call) c.in-Some.is)

pub turn_away-requires-clause-found : goal.turn_away-requires-clause-found
turn_away-requires-clause-found g c =
    subst (λ (sv : ServerState). IsFound g.C.Class.class_of sv.node c.args.c.now c.channel-channel.result)
    c.self.view_is
    (c.channel-channel.ensures.found c.requires.chan)

pub take_own-requires-clause-found : goal.take_own-requires-clause-found
take_own-requires-clause-found g c =
    subst (λ (sv : ServerState). IsFound g.C.Class.class_of sv.node c.args.c.now c.channel-channel.result)
    c.self.view_is
    (c.channel-channel.ensures.found c.requires.chan)
