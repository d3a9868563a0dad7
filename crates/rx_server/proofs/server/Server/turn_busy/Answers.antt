use Rattle.std.proofs.Common.{◌≤◌, ◌<◌, ◌*◌, ◌/◌, ℕ, refl, sym, subst, length}
use Rattle.rx_model.specs.declared.answers.Took.TheVariants as tooks
use Rattle.rx_model.specs.declared.names.Limits.{Limits}
use Rattle.rx_model.specs.Names.{Channel, channel_of, connection_of}
use Rattle.rx_model.specs.declared.wire.TheConstants.{RX_CALL_DEAD}
use Rattle.rx_rules.specs.Life.{after_code}
use Rattle.rx_history.proofs.LifeFalls.{code_falls}
use Rattle.rx_rules.specs.Looks.{latest_name, on_life}
use Rattle.rx_rules.specs.After.{owing_busy}
use Rattle.rx_rules.specs.Looks.{Looks, on_channel}
use Rattle.rx_rules.specs.Setup.{IsServer}
use Rattle.rx_rules.specs.Records.{entered, used}
use Rattle.rx_node.specs.Mirrors.{IsChannel, IsKey}
use Rattle.rx_node.specs.Node.{setup_of}
use Rattle.rx_node.proofs.OwedItems.{has_channel}
use Rattle.rx_server.specs.Server.{ServerState, Serves}
use Rattle.rx_server.proofs.Serving.{parts_stay, parts_trans, role_stays, serving_by}
use Rattle.rx_server.proofs.TurnedRows.{row_waits}
use Rattle.rx_server.proofs.TurnedSteps.{is_server, serves_life, serves_owing, takes_full}
use Rattle.rx_server.proofs.server.Server.turn_busy.Goals as goal

pub returns-in_default-clause-takes : goal.returns-in_default-clause-takes
returns-in_default-clause-takes g c =
    let server = subst (λ (sv : ServerState). IsServer sv.node.kind) c.self.view_is
    (is_server c.self.inside.node.kind c.self.inside.service c.self.invariant.0.server) in
    λ l m serves number rows. takes_full g.C.Class.class_of _ _ l c.args.c.now m tooks.Busy server number rows
    (λ is. cc (is)) (c.ready.ensures.none l serves c.in_default.is) (c.ready.ensures.stays c.in_default.is) serves

-- what it then serves
behind : (g : _) (c : goal.After-owe_busy g) (l : Looks) (ch : Channel)
    → Serves g.C.Class.class_of (record {
      node = c.self-2.inside.node;
      service = c.self-2.inside.service;
      nonce = c.self-2.inside.nonce;
      firsts = c.self-2.inside.firsts;
    }) l → IsChannel l c.in-Some.key ch
    → Serves g.C.Class.class_of (record {
      node = c.owe_busy.new.self;
      service = c.self-2.inside.service;
      nonce = c.self-2.inside.nonce;
      firsts = c.self-2.inside.firsts;
    }) (on_channel ch (owing_busy c.args.c.now.number) (on_life (latest_name l ch) (after_code RX_CALL_DEAD) l))
behind g c l ch serves at =
    let class = g.C.Class.class_of in
    let broken = on_life (latest_name l ch) (after_code RX_CALL_DEAD) l in
    let first = serves_life class _ c.turn.new.self l (latest_name l ch) (after_code RX_CALL_DEAD)
    (code_falls RX_CALL_DEAD) (role_stays _ _ c.turn.ensures.same) (c.turn.ensures.steps l ch serves.mirrors at)
    serves in
    let there : IsChannel broken c.in-Some.key ch = record { conn = at.conn; there = at.there; is = at.is } in
    serves_owing class _ c.owe_busy.new.self broken ch (owing_busy c.args.c.now.number) (λ q. refl)
    (role_stays _ _ c.owe_busy.ensures.same) (c.owe_busy.ensures.steps broken ch first.mirrors there) first

pub invariant_of-self : goal.invariant_of-self
invariant_of-self g c =
    let i = c.self-2.invariant.0 in
    let same = parts_trans _ _ _ (parts_stay _ _ c.turn.ensures.same) (parts_stay _ _ c.owe_busy.ensures.same) in
    let key = subst (λ (sv : ServerState). IsKey sv.node c.in-Some.key) (sym c.self-2.view_is) c.in-Some.ensures.key in
    let it = has_channel i.looks c.in-Some.key
    (subst (λ (n : ℕ). c.in-Some.key / 4 < n) i.serves.mirrors.conns.conns key) in (
      serving_by g.C.Class.class_of _ _ _ same (behind g c i.looks it.channel i.serves it.at) i,
      subst (λ (k : Limits). 4 * k.conns ≤ length c.self-2.inside.firsts.ready) (sym same.limits) c.self-2.invariant.1,
    )

pub returns-clause-takes : goal.returns-clause-takes
returns-clause-takes g c =
    let server = subst (λ (sv : ServerState). IsServer sv.node.kind) c.self.view_is
    (is_server c.self.inside.node.kind c.self.inside.service c.self.invariant.0.server) in
    λ l m serves number rows. (
    let s = setup_of g.C.Class.class_of c.args.self.now.node in
    let x = connection_of c.args.c.now in
    let ready = c.in-Some.ensures.ready l serves in
    let inner = subst (λ (sv : ServerState). Serves g.C.Class.class_of sv (used x (entered s x l)))
    (sym c.self-2.view_is)
    ready.serves in
    record {
      answered = row_waits s l c.args.c.now m tooks.Busy number rows server ready.has;
      serves = behind g c (used x (entered s x l)) (channel_of c.args.c.now) inner ready.channel;
    })
