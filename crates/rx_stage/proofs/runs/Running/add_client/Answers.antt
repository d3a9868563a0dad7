use Rattle.std.proofs.Common.{◌∙◌, ◌++◌, ◌∷◌, ◌+◌, [], None, ap, sym, subst}
use Rattle.rx_joint.specs.Nodes.{nodes_of}
use Rattle.rx_rules.specs.Setup.{Client, unprompted}
use Rattle.rx_plan.specs.Follows.{client_node}
use Rattle.rx_stage.specs.Showing.{AddsNode, IsCounted, has_client_room}
use Rattle.rx_stage.proofs.Beginning.{client_added, client_counted, client_late, client_refused, client_wants}
use Rattle.rx_stage.proofs.runs.Running.add_client.Goals as goal

pub returns-then-self-clause-added : goal.returns-then-self-clause-added
returns-then-self-clause-added c =
    client_late (client_node c.args.host c.args.epoch c.args.limits.now c.args.key.now) c.args.self.now c.if-self.true

pub returns-then-not-has_room-clause-added : goal.returns-then-not-has_room-clause-added
returns-then-not-has_room-clause-added c =
    client_refused
    (client_node c.args.host c.args.epoch c.args.limits.now c.args.key.now) c.args.self.now c.if-self.false
    c.requires.counted
    (ap (has_client_room c.args.limits.now c.args.self.now.slots) (sym c.clients.ensures)
    ∙ sym c.if-not-has_room.ensures)

pub returns-in_err-add_client-clause-added : goal.returns-in_err-add_client-clause-added
returns-in_err-add_client-clause-added c =
    client_wants (client_node c.args.host c.args.epoch c.args.limits.now c.args.key.now) c.args.self.now _
    c.from_residual.result c.from_residual.ensures

pub returns-clause-added : goal.returns-clause-added
returns-clause-added c =
    let n = client_node c.args.host c.args.epoch c.args.limits.now c.args.key.now in
    let old = c.args.self.now in
    let new = c.add_client.new.self in
    subst (λ w. AddsNode n old
    (record { world = w; late = old.late; slots = old.slots + c.args.limits.now.slots }) None)
    (sym c.add_client.ensures.rest)
    (client_added n old new.nodes c.if-self.false c.requires.counted
    (ap (has_client_room c.args.limits.now old.slots) (sym c.clients.ensures) ∙ sym c.if-not-has_room.ensures)
    c.add_client.ensures.stands
    (c.in_ok-add_client.ensures.nodes ∙ ap (λ class. nodes_of old.world.nodes ++ record {
      host = c.args.host;
      setup = unprompted (Client c.args.host c.args.epoch) c.args.limits.now class;
    } ∷ []) c.class_of.ensures))

pub returns-clause-counted : goal.returns-clause-counted
returns-clause-counted c =
    let n = client_node c.args.host c.args.epoch c.args.limits.now c.args.key.now in
    let old = c.args.self.now in
    let new = c.add_client.new.self in
    subst (λ w. IsCounted (record { world = w; late = old.late; slots = old.slots + c.args.limits.now.slots }))
    (sym c.add_client.ensures.rest)
    (client_counted n old new.nodes c.requires.counted
    (ap (has_client_room c.args.limits.now old.slots) (sym c.clients.ensures) ∙ sym c.if-not-has_room.ensures)
    (c.in_ok-add_client.ensures.nodes ∙ ap (λ class. nodes_of old.world.nodes ++ record {
      host = c.args.host;
      setup = unprompted (Client c.args.host c.args.epoch) c.args.limits.now class;
    } ∷ []) c.class_of.ensures))
