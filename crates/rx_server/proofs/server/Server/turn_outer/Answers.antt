use Rattle.std.proofs.Common.{◌≤◌, ◌*◌, ◌∙◌, sym, subst, length}
use Rattle.rx_model.specs.declared.names.Limits.{Limits}
use Rattle.rx_packet.specs.Seen.{body_of, message_of}
use Rattle.rx_server.proofs.MessageSteps.{serves_stray, serves_turned}
use Rattle.rx_server.proofs.Serving.{parts_stay, role_of, role_stays, serving_by}
use Rattle.rx_server.proofs.server.Server.turn_outer.Goals as goal

pub invariant_of-self : goal.invariant_of-self
invariant_of-self g c =
    let i = c.self.invariant.0 in
    let same = parts_stay _ _ c.owe_stray.ensures.same in
    let m = message_of c.args.head.now c.args.body.now in (
      serving_by g.C.Class.class_of _ _ _ same
          (serves_stray g.C.Class.class_of _ c.owe_stray.new.self i.looks c.args.from m (role_of _ _ same)
          (c.owe_stray.ensures.steps (body_of c.args.body.now) i.looks i.serves.mirrors) i.serves) i,
      subst (λ (k : Limits). 4 * k.conns ≤ length c.self.inside.firsts.ready) (sym same.limits) c.self.invariant.1,
    )

pub returns-then-owes_stray-clause-steps : goal.returns-then-owes_stray-clause-steps
returns-then-owes_stray-clause-steps g c =
    let m = message_of c.args.head.now c.args.body.now in
    let owes = sym c.owes_stray.ensures ∙ c.if-owes_stray.true in
    rw (← c.self.view_is)
    (λ l serves. serves_turned g.C.Class.class_of _ c.owe_stray.new.self l c.args.from m c.args.row owes
    (role_stays _ _ c.owe_stray.ensures.same) (c.owe_stray.ensures.steps (body_of c.args.body.now) l serves.mirrors)
    serves)
