use Rattle.std.proofs.Common.{◌≤◌, ◌<◌, ◌*◌, ◌∙◌, ℕ, List, Option, None, ap, sym, subst, length}
use Rattle.rx_model.specs.declared.names.Limits.{Limits}
use Rattle.rx_model.specs.Names.{Channel}
use Rattle.rx_rules.specs.Life.{after_later}
use Rattle.rx_rules.specs.Life as lives
use Rattle.rx_rules.specs.Looks.{Looks, call_named, latest_name, on_life}
use Rattle.rx_rules.specs.Records.{started}
use Rattle.rx_rules.specs.Setup.{Setup}
use Rattle.rx_history.proofs.Order.Orderly.{Orderly}
use Rattle.rx_history.proofs.Room.RoomStarts.{RoomyAt}
use Rattle.rx_node.specs.Mirrors.{IsChannel, Mirrors}
use Rattle.rx_node.specs.Node.{setup_of}
use Rattle.rx_server.specs.Server.{ServerState, Serves}
use Rattle.rx_server.specs.Taking.{Opening, OpensSome}
use Rattle.rx_queue.proofs.Renumbering.{length_set}
use Rattle.rx_server.proofs.Serving.{parts_stay, parts_trans, role_of, serving_with, setup_by, there_without}
use Rattle.rx_server.proofs.OpeningSteps.{orderly_made, roomy_made, room_free, seat_free, serves_made}
use Rattle.rx_server.proofs.server.Server.open.Goals as goal

pub start-requires-clause-free : goal.start-requires-clause-free
start-requires-clause-free g c =
    let i = c.self.invariant.0 in
    let it = subst (λ (sv : ServerState). OpensSome g.C.Class.class_of sv c.args.key c.args.number) (sym c.self.view_is)
    c.requires.opens in
    λ seat there. seat_free g.C.Class.class_of _ it.looks it.channel c.args.key c.args.number it.serves
    it.at it.opening _
    (c.turn.ensures.steps it.looks it.channel it.serves.mirrors it.at) seat there

pub start-requires-clause-room : goal.start-requires-clause-room
start-requires-clause-room g c =
    let i = c.self.invariant.0 in
    let it = subst (λ (sv : ServerState). OpensSome g.C.Class.class_of sv c.args.key c.args.number) (sym c.self.view_is)
    c.requires.opens in
    subst (λ (k : Limits). c.turn.new.self.live < k.calls) (sym c.turn.ensures.same.limits)
    (room_free g.C.Class.class_of _ it.looks it.channel c.args.key c.args.number it.serves it.at it.opening _
    (c.turn.ensures.steps it.looks it.channel it.serves.mirrors it.at))

started-mirrors : (g : _) (c : goal.After-start g) (l : Looks) (ch : Channel)
    → (serves : Serves g.C.Class.class_of (record {
      node = c.self.inside.node;
      service = c.self.inside.service;
      nonce = c.self.inside.nonce;
      firsts = c.self.inside.firsts;
    }) l) → (at : IsChannel l c.args.key ch)
    → Opening (setup_of g.C.Class.class_of c.self.inside.node) l ch c.args.number
    → Mirrors g.C.Class.class_of c.start.new.self
    (started (setup_of g.C.Class.class_of c.self.inside.node) lives.Waiting (call_named ch c.args.number)
    (on_life (latest_name l ch) after_later l))
started-mirrors g c l ch serves at opening =
    let class = g.C.Class.class_of in
    let ended = on_life (latest_name l ch) after_later l in
    let same = setup_by class _ _ (parts_stay _ _ c.turn.ensures.same) in
    subst (λ (s : Setup). Orderly s (started s lives.Waiting (call_named ch c.args.number) ended)
    → RoomyAt s (started s lives.Waiting (call_named ch c.args.number) ended)
    → Mirrors class c.start.new.self (started s lives.Waiting (call_named ch c.args.number) ended)) same
    (c.start.ensures.steps ended ch (c.turn.ensures.steps l ch serves.mirrors at)
    (record { conn = at.conn; there = at.there; is = at.is }))
    (orderly_made class _ l ch c.args.key c.args.number serves at opening)
    (roomy_made class _ l ch c.args.key c.args.number serves at opening)

pub invariant_of-self : goal.invariant_of-self
invariant_of-self g c =
    let i = c.self.invariant.0 in
    let class = g.C.Class.class_of in
    let first = parts_stay _ _ c.turn.ensures.same in
    let second = parts_stay _ _ c.start.ensures.same in
    let same = parts_trans _ _ _ first second in
    let firsts = c.remove_now.new.self in
    let it = subst (λ (sv : ServerState). OpensSome g.C.Class.class_of sv c.args.key c.args.number) (sym c.self.view_is)
    c.requires.opens in (
      serving_with class _ c.start.new.self _ firsts same
          (there_without c.self.inside.node c.args.key c.self.inside.firsts.order firsts.order
          c.remove_now.ensures.order
          i.there)
          (serves_made class _ it.looks it.channel c.args.key c.args.number it.serves it.at it.opening
          c.start.new.self firsts (role_of _ _ same) c.remove_now.ensures.order c.remove_now.ensures.ready
          (started-mirrors g c it.looks it.channel it.serves it.at it.opening)) i,
      subst (λ (k : Limits). 4 * k.conns ≤ length firsts.ready) (sym same.limits)
          (subst (λ (n : ℕ). 4 * c.self.inside.node.limits.conns ≤ n)
          (sym (ap (λ (r : List (Option ℕ)). length r) c.remove_now.ensures.ready
          ∙ length_set c.self.inside.firsts.ready c.args.key None)) c.self.invariant.1),
    )

pub returns-clause-steps : goal.returns-clause-steps
returns-clause-steps g c =
    let class = g.C.Class.class_of in
    let first = parts_stay _ _ c.turn.ensures.same in
    let second = parts_stay _ _ c.start.ensures.same in
    let same = parts_trans _ _ _ first second in
    λ l ch serves at opening. (
    let inner = subst (λ (sv : ServerState). Serves class sv l) (sym c.self.view_is) serves in
    let mine = subst (λ (sv : ServerState). Opening (setup_of class sv.node) l ch c.args.number) (sym c.self.view_is)
    opening in
    rw (← c.self.view_is)
    (serves_made class _ l ch c.args.key c.args.number inner at mine c.start.new.self c.remove_now.new.self
    (role_of _ _ same) c.remove_now.ensures.order c.remove_now.ensures.ready (started-mirrors g c l ch inner at mine)))
