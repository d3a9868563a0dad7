use Rattle.std.proofs.Common.{◌≡◌, ◌≤◌, ◌<◌, ◌*◌, None, length, sym, subst, arith}
use Rattle.rx_model.specs.declared.names.Limits.{Limits}
use Rattle.rx_model.specs.Names.{connection_of}
use Rattle.rx_table.specs.Records.{place_of}
use Rattle.rx_node.proofs.Steps.IdleSteps.{unknown_at}
use Rattle.rx_server.specs.Server.{ServerState}
use Rattle.rx_server.proofs.Entering.{entered_next, serving_entered}
use Rattle.rx_server.proofs.Serving.{setup_role}
use Rattle.rx_server.proofs.server.Server.enter_next.Goals as goal

pub invariant_of-self : goal.invariant_of-self
invariant_of-self g c =
    let i = c.self.invariant.0 in
    let x = connection_of c.args.c.now in
    let linked = subst (λ (sv : ServerState). c.link-link.result
    ≡ record { peer = c.args.c.now.host; service = sv.service; first = 1 }) (sym c.self.view_is) c.link-link.ensures in
    let kept = c.enter.ensures.setup in
    let none = subst (λ (sv : ServerState). place_of sv.node.table x ≡ None) (sym c.self.view_is) c.requires.absent in
    let low = subst (λ (sv : ServerState). length sv.node.table.conns < sv.node.limits.conns) (sym c.self.view_is)
    c.requires.room in (
      serving_entered g.C.Class.class_of _ _ x i kept.kind kept.limits (omega (arith, c.enter.ensures.conns))
          (entered_next g.C.Class.class_of _ _ i.looks x i.server i.serves
          (unknown_at g.C.Class.class_of _ i.looks i.serves.mirrors x none) (setup_role _ _ kept) c.link-link.result
          linked low
          (λ orderly. c.enter.ensures.steps i.looks i.serves.mirrors i.serves.nonce orderly)),
      subst (λ (k : Limits). 4 * k.conns ≤ length c.self.inside.firsts.ready) (sym kept.limits) c.self.invariant.1,
    )

pub returns-clause-entered : goal.returns-clause-entered
returns-clause-entered g c =
    let i = c.self.invariant.0 in
    let x = connection_of c.args.c.now in
    let linked = subst (λ (sv : ServerState). c.link-link.result
    ≡ record { peer = c.args.c.now.host; service = sv.service; first = 1 }) (sym c.self.view_is) c.link-link.ensures in
    let kept = c.enter.ensures.setup in
    let none = subst (λ (sv : ServerState). place_of sv.node.table x ≡ None) (sym c.self.view_is) c.requires.absent in
    let low = subst (λ (sv : ServerState). length sv.node.table.conns < sv.node.limits.conns) (sym c.self.view_is)
    c.requires.room in
    rw (← c.self.view_is)
    (λ l serves. entered_next g.C.Class.class_of _ _ l x i.server serves
    (unknown_at g.C.Class.class_of _ l serves.mirrors x none) (setup_role _ _ kept) c.link-link.result linked low
    (λ orderly. c.enter.ensures.steps l serves.mirrors serves.nonce orderly))
