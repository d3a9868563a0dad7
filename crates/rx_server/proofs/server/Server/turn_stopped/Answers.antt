use Rattle.std.proofs.Common.{Option, is_some, ap, ◌∙◌, sym, subst}
use Rattle.std.proofs.lemmas.Bool.{false≢true}
use Rattle.rx_model.specs.declared.answers.Took.TheVariants as tooks
use Rattle.rx_model.specs.Names.{channel_of, connection_of}
use Rattle.rx_packet.specs.Seen.{body_of}
use Rattle.rx_rules.specs.Looks.{ConnLooks}
use Rattle.rx_rules.specs.Records.{used}
use Rattle.rx_rules.specs.Setup.{IsServer}
use Rattle.rx_node.specs.Node.{setup_of}
use Rattle.rx_server.specs.Server.{ServerState}
use Rattle.rx_server.proofs.TurnedRows.{known_plain}
use Rattle.rx_server.proofs.TurnedSteps.{is_server, takes_stopped}
use Rattle.rx_server.proofs.server.Server.turn_stopped.Goals as goal

pub returns-in_default-clause-takes : goal.returns-in_default-clause-takes
returns-in_default-clause-takes g c =
    λ l m serves said number rows. absurd (false≢true
    (sym (ap (λ (o : Option ConnLooks). is_some o) (c.touched.ensures.none l serves c.in_default.is))
    ∙ known_plain (setup_of g.C.Class.class_of c.args.self.now.node) l c.args.c.now m tooks.Stopped number rows tt
    (λ is. cc (is))))

pub returns-clause-takes : goal.returns-clause-takes
returns-clause-takes g c =
    let server = subst (λ (sv : ServerState). IsServer sv.node.kind) c.self.view_is
    (is_server c.self.inside.node.kind c.self.inside.service c.self.invariant.0.server) in
    λ l m serves said number rows. takes_stopped g.C.Class.class_of _ _ l c.args.c.now m
    (body_of c.args.body.now) server
    said number rows
    (c.stop_all.ensures.steps (used (connection_of c.args.c.now) l) (channel_of c.args.c.now)
    (c.touched.ensures.steps l serves) (c.in-Some.ensures.channel l serves))
