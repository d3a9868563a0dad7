use Rattle.std.proofs.Common.{◌≡◌, ℕ, List, Some, None, ap, ◌∙◌, sym, subst}
use Rattle.rx_model.specs.declared.names.CallName.{CallName}
use Rattle.rx_model.specs.Body as models
use Rattle.rx_packet.specs.Seen.{body_of, message_of}
use Rattle.rx_model.specs.Names.{name_of}
use Rattle.rx_rules.specs.Judging.{server_outer}
use Rattle.rx_rules.specs.Setup.{Kind, client_host}
use Rattle.rx_node.specs.Node.{setup_of}
use Rattle.rx_server.specs.Server.{IsServerOf, ServerState}
use Rattle.rx_server.proofs.MessageSteps.{judges_named, judges_outer}
use Rattle.rx_server.proofs.server.Server.take_message.Goals as goal

pub returns-in-Some-clause-judges : goal.returns-in-Some-clause-judges
returns-in-Some-clause-judges g c =
    let class = g.C.Class.class_of in
    let m = message_of c.args.head.now c.args.body.now in
    let server = subst (λ (sv : ServerState). IsServerOf sv.node.kind sv.service) c.self.view_is
    c.self.invariant.0.server in
    let index = ap (λ (s : List ℕ). (class s).index) (sym c.class.ensures) ∙ sym c.index-index.ensures in
    let challenges = ap (λ (s : List ℕ). (class s).challenges) (sym c.class-2.ensures)
    ∙ sym c.challenges-challenges.ensures in
    let outer = subst (λ (sv : ServerState). server_outer (setup_of class sv.node) sv.service m ≡ Some c.in-Some.row)
    c.self.view_is (sym (c.outer_row.ensures (setup_of class c.self.inside.node) index challenges) ∙ c.in-Some.is) in
    λ l serves. judges_outer class c.args.self.now c.turn_outer.new.self l c.args.from m server c.in-Some.row outer
    (c.turn_outer.ensures.steps l serves)

pub take_named-requires-clause-number : goal.take_named-requires-clause-number
take_named-requires-clause-number g c = ap (λ (d : CallName). d.number) (c.named.ensures.name models.Busy)

pub returns-clause-judges : goal.returns-clause-judges
returns-clause-judges g c =
    let class = g.C.Class.class_of in
    let m = message_of c.args.head.now c.args.body.now in
    let server = subst (λ (sv : ServerState). IsServerOf sv.node.kind sv.service) c.self.view_is
    c.self.invariant.0.server in
    let index = ap (λ (s : List ℕ). (class s).index) (sym c.class.ensures) ∙ sym c.index-index.ensures in
    let challenges = ap (λ (s : List ℕ). (class s).challenges) (sym c.class-2.ensures)
    ∙ sym c.challenges-challenges.ensures in
    let outer = subst (λ (sv : ServerState). server_outer (setup_of class sv.node) sv.service m ≡ None)
    c.self.view_is (sym (c.outer_row.ensures (setup_of class c.self.inside.node) index challenges) ∙ c.in_default.is) in
    let name = c.named.ensures.name (body_of c.args.body.now)
    ∙ ap (λ (k : Kind). name_of (client_host k c.args.from) m) c.kind-kind.ensures in
    let own = subst (λ (sv : ServerState). c.named.result ≡ name_of (client_host sv.node.kind c.args.from) m)
    c.self.view_is
    name in
    λ l serves. judges_named class c.args.self.now c.take_named.new.self l c.args.from m server c.named.result
    c.take_named.result own outer (c.take_named.ensures.takes l serves)
