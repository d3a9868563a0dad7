use Rattle.std.proofs.Common.{◌≡◌, ◌≤◌, ◌*◌, None, length, sym, subst, arith}
use Rattle.rx_model.specs.declared.names.Limits.{Limits}
use Rattle.rx_model.specs.Names.{connection_of}
use Rattle.rx_table.specs.Records.{IsLongestIdle, place_of}
use Rattle.rx_node.proofs.Steps.IdleSteps.{longest_is, unknown_at}
use Rattle.rx_server.specs.Server.{ServerState}
use Rattle.rx_server.proofs.Entering.{entered_instead, serving_entered}
use Rattle.rx_server.proofs.Serving.{setup_role}
use Rattle.rx_server.proofs.server.Server.enter_instead.Goals as goal

pub invariant_of-self : goal.invariant_of-self
invariant_of-self g c =
    let i = c.self.invariant.0 in
    let x = connection_of c.args.c.now in
    let place = c.args.place in
    let linked = subst (λ (sv : ServerState). c.link-link.result
    ≡ record { peer = c.args.c.now.host; service = sv.service; first = 1 }) (sym c.self.view_is) c.link-link.ensures in
    let kept = c.replace.ensures.setup in
    let none = subst (λ (sv : ServerState). place_of sv.node.table x ≡ None) (sym c.self.view_is) c.requires.absent in
    let full = subst (λ (sv : ServerState). sv.node.limits.conns ≤ length sv.node.table.conns) (sym c.self.view_is)
    c.requires.full in
    let idle = subst (λ (sv : ServerState). IsLongestIdle sv.node.moment sv.node.table place) (sym c.self.view_is)
    c.requires.idle in
    let old = longest_is g.C.Class.class_of _ i.looks i.serves.mirrors place idle in (
      serving_entered g.C.Class.class_of _ _ x i kept.kind kept.limits (omega (arith, c.replace.ensures.conns))
          (entered_instead g.C.Class.class_of _ _ i.looks x i.server i.serves
          (unknown_at g.C.Class.class_of _ i.looks i.serves.mirrors x none) (setup_role _ _ kept) c.link-link.result
          linked place old.0
          full old.1 old.2 (λ orderly. c.replace.ensures.steps i.looks old.0 i.serves.mirrors old.1
          i.serves.nonce orderly)),
      subst (λ (k : Limits). 4 * k.conns ≤ length c.self.inside.firsts.ready) (sym kept.limits) c.self.invariant.1,
    )

pub returns-clause-entered : goal.returns-clause-entered
returns-clause-entered g c =
    let i = c.self.invariant.0 in
    let x = connection_of c.args.c.now in
    let place = c.args.place in
    let linked = subst (λ (sv : ServerState). c.link-link.result
    ≡ record { peer = c.args.c.now.host; service = sv.service; first = 1 }) (sym c.self.view_is) c.link-link.ensures in
    let kept = c.replace.ensures.setup in
    let none = subst (λ (sv : ServerState). place_of sv.node.table x ≡ None) (sym c.self.view_is) c.requires.absent in
    let full = subst (λ (sv : ServerState). sv.node.limits.conns ≤ length sv.node.table.conns) (sym c.self.view_is)
    c.requires.full in
    let idle = subst (λ (sv : ServerState). IsLongestIdle sv.node.moment sv.node.table place) (sym c.self.view_is)
    c.requires.idle in
    rw (← c.self.view_is)
    (λ l serves. (
    let old = longest_is g.C.Class.class_of _ l serves.mirrors place idle in
    entered_instead g.C.Class.class_of _ _ l x i.server serves
    (unknown_at g.C.Class.class_of _ l serves.mirrors x none) (setup_role _ _ kept) c.link-link.result linked place
    old.0 full
    old.1 old.2 (λ orderly. c.replace.ensures.steps l old.0 serves.mirrors old.1 serves.nonce orderly)))
