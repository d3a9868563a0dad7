use Rattle.std.proofs.Common.{◌≡◌, ◌<◌, ◌+◌, ◌*◌, ℕ, Ok, length, refl, ◌∙◌, ap, sym, subst, arith}
use Rattle.rx_model.specs.declared.event.Event.TheVariants as events
use Rattle.rx_rules.specs.Setup.{Client}
use Rattle.rx_node.specs.Node.{NodeState, setup_of}
use Rattle.rx_node.specs.Steps.{AnswersNode}
use Rattle.rx_client.proofs.Answering.{calling_on, kept_setups}
use Rattle.rx_client.proofs.StartedCalls.{linked_some, unlinked}
use Rattle.rx_client.proofs.client.Client.connect.Goals as goal

pub enter-requires-clause-absent : goal.enter-requires-clause-absent
enter-requires-clause-absent g c =
    let n = c.self.inside.node in
    let i = c.self.invariant in
    let name = c.name-c.result in
    let next : name.cid ≡ 4 * length n.table.conns + 4 =
    c.name-c.ensures.cid ∙ ap (λ k. 4 * k + 4) c.conns-2.ensures.count in
    unlinked g.C.Class.class_of n c.self.inside.host c.self.inside.epoch i.1 _ i.0.stands.mirrors name next

pub invariant_of-self : goal.invariant_of-self
invariant_of-self g c =
    let n = c.self.inside.node in
    let i = c.self.invariant in
    let new = c.enter.new.self in
    let name = c.name-c.result in
    let same : setup_of g.C.Class.class_of new ≡ setup_of g.C.Class.class_of n =
    kept_setups g.C.Class.class_of n new c.enter.ensures.setup in
    let kind : n.kind ≡ Client name.host name.epoch =
    subst (λ (s : NodeState). s.kind ≡ Client name.host name.epoch) (sym c.self.view_is) c.name-c.ensures.kind in
    let next : name.cid ≡ 4 * length n.table.conns + 4 =
    c.name-c.ensures.cid ∙ ap (λ k. 4 * k + 4) c.conns-2.ensures.count in
    let room : length n.table.conns < n.limits.conns =
    omega (arith, c.if-conns-limits.false, c.conns.ensures.count, ap (λ l. l.conns) c.limits.ensures) in (
      calling_on g.C.Class.class_of n new _ same
          (linked_some g.C.Class.class_of n name.host name.epoch kind new same c.args.to c.args.service
          c.args.first name
          c.requires c.ranges.first.fits c.ranges.service.fits room next refl c.enter.ensures.steps) i.0,
      c.enter.ensures.setup.kind ∙ i.1,
    )

pub returns-clause-answered : goal.returns-clause-answered
returns-clause-answered g c =
    let n = c.self.inside.node in
    let new = c.enter.new.self in
    let name = c.name-c.result in
    let same : setup_of g.C.Class.class_of new ≡ setup_of g.C.Class.class_of n =
    kept_setups g.C.Class.class_of n new c.enter.ensures.setup in
    let kind : n.kind ≡ Client name.host name.epoch =
    subst (λ (s : NodeState). s.kind ≡ Client name.host name.epoch) (sym c.self.view_is) c.name-c.ensures.kind in
    let next : name.cid ≡ 4 * length n.table.conns + 4 =
    c.name-c.ensures.cid ∙ ap (λ k. 4 * k + 4) c.conns-2.ensures.count in
    let room : length n.table.conns < n.limits.conns =
    omega (arith, c.if-conns-limits.false, c.conns.ensures.count, ap (λ l. l.conns) c.limits.ensures) in
    rw (← c.self.view_is)
    (subst (λ (cid : ℕ). AnswersNode g.C.Class.class_of n new
    (events.Linked c.args.to c.args.service c.args.first (Ok cid)))
    c.name-c.ensures.cid
    (linked_some g.C.Class.class_of n name.host name.epoch kind new same c.args.to c.args.service c.args.first name
    c.requires c.ranges.first.fits c.ranges.service.fits room next refl c.enter.ensures.steps))
