use Rattle.std.proofs.Common.{◌≤◌, ◌<◌, ◌*◌, ◌/◌, ℕ, Option, is_some, ap, ◌∙◌, sym, subst, length}
use Rattle.std.proofs.lemmas.Bool.{false≢true}
use Rattle.rx_model.specs.declared.answers.Took.TheVariants as tooks
use Rattle.rx_model.specs.declared.names.Limits.{Limits}
use Rattle.rx_model.specs.Names.{channel_of, connection_of}
use Rattle.rx_packet.specs.Seen.{body_of}
use Rattle.rx_rules.specs.Looks.{ConnLooks}
use Rattle.rx_rules.specs.Records.{used}
use Rattle.rx_rules.specs.Setup.{IsServer}
use Rattle.rx_node.specs.Mirrors.{IsKey}
use Rattle.rx_node.specs.Node.{setup_of}
use Rattle.rx_node.proofs.OwedItems.{has_channel}
use Rattle.rx_server.specs.Server.{ServerState, Serves}
use Rattle.rx_server.proofs.Serving.{parts_stay, role_of, serving_by}
use Rattle.rx_server.proofs.TurnedRows.{known_plain}
use Rattle.rx_server.proofs.TurnedSteps.{is_server, serves_again, takes_over}
use Rattle.rx_server.proofs.server.Server.turn_over.Goals as goal

pub returns-in_default-clause-takes : goal.returns-in_default-clause-takes
returns-in_default-clause-takes g c =
    λ l m serves said number rows. absurd (false≢true
    (sym (ap (λ (o : Option ConnLooks). is_some o) (c.touched.ensures.none l serves c.in_default.is))
    ∙ known_plain (setup_of g.C.Class.class_of c.args.self.now.node) l c.args.c.now m tooks.Over number rows tt
    (λ is. cc (is))))

pub invariant_of-self : goal.invariant_of-self
invariant_of-self g c =
    let i = c.self-2.invariant.0 in
    let same = parts_stay _ _ c.owe_again.ensures.same in
    let key = subst (λ (sv : ServerState). IsKey sv.node c.in-Some.key) (sym c.self-2.view_is) c.in-Some.ensures.key in
    let it = has_channel i.looks c.in-Some.key
    (subst (λ (n : ℕ). c.in-Some.key / 4 < n) i.serves.mirrors.conns.conns key) in (
      serving_by g.C.Class.class_of _ _ _ same
          (serves_again g.C.Class.class_of _ c.owe_again.new.self i.looks it.channel (body_of c.args.body.now)
          (role_of _ _ same)
          (c.owe_again.ensures.steps i.looks it.channel i.serves.mirrors it.at) i.serves) i,
      subst (λ (k : Limits). 4 * k.conns ≤ length c.self-2.inside.firsts.ready) (sym same.limits) c.self-2.invariant.1,
    )

pub returns-clause-takes : goal.returns-clause-takes
returns-clause-takes g c =
    let server = subst (λ (sv : ServerState). IsServer sv.node.kind) c.self.view_is
    (is_server c.self.inside.node.kind c.self.inside.service c.self.invariant.0.server) in
    let same = parts_stay _ _ c.owe_again.ensures.same in
    let d = channel_of c.args.c.now in
    λ l m serves said number rows. (
    let after = used (connection_of c.args.c.now) l in
    let inner = subst (λ (sv : ServerState). Serves g.C.Class.class_of sv after) (sym c.self-2.view_is)
    (c.touched.ensures.steps l serves) in
    takes_over g.C.Class.class_of _ _ l c.args.c.now m (body_of c.args.body.now) server said number rows
    (serves_again g.C.Class.class_of _ c.owe_again.new.self after d (body_of c.args.body.now) (role_of _ _ same)
    (c.owe_again.ensures.steps after d inner.mirrors (c.in-Some.ensures.channel l serves)) inner))
