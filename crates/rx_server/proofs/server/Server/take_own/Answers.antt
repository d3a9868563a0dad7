use Rattle.std.proofs.Common.{◌≤◌, ◌∙◌, sym, subst}
use Rattle.rx_model.specs.declared.wire.TheConstants.{LAST_SEQ}
use Rattle.rx_model.specs.Names.{channel_of, connection_of}
use Rattle.rx_packet.specs.Seen.{message_of}
use Rattle.rx_rules.specs.Judging.{opened}
use Rattle.rx_rules.specs.Records.{entered, used}
use Rattle.rx_rules.specs.Setup.{IsServer, receiving_window}
use Rattle.rx_node.specs.Node.{setup_of}
use Rattle.rx_server.specs.Server.{ServerState, Serves}
use Rattle.rx_server.proofs.LiveSteps.{active_there}
use Rattle.rx_server.proofs.OwnSteps.{may_open, own_full, owns_opened, owns_own, serves_opened, serves_own, takes_own}
use Rattle.rx_server.proofs.OwnSteps.{window_low}
use Rattle.rx_server.proofs.TurnedSteps.{is_server}
use Rattle.rx_server.proofs.server.Server.take_own.Goals as goal

pub returns-in_default-clause-takes : goal.returns-in_default-clause-takes
returns-in_default-clause-takes g c =
    let server = subst (λ (sv : ServerState). IsServer sv.node.kind) c.self.view_is
    (is_server c.self.inside.node.kind c.self.inside.service c.self.invariant.0.server) in
    λ l serves. own_full g.C.Class.class_of _ _ l c.args.c.now (message_of c.args.head.now c.args.body.now) server
    (sym c.requires.number) (c.requires.passes l serves) (c.ready.ensures.none l serves c.in_default.is)
    (c.ready.ensures.stays c.in_default.is) serves

pub open-requires-clause-opens : goal.open-requires-clause-opens
open-requires-clause-opens g c =
    let class = g.C.Class.class_of in
    let i = c.self.invariant.0 in
    let server = subst (λ (sv : ServerState). IsServer sv.node.kind) c.self.view_is
    (is_server c.self.inside.node.kind c.self.inside.service i.server) in
    let window = subst (λ (sv : ServerState). receiving_window (setup_of class sv.node) ≤ LAST_SEQ) c.self.view_is
    (window_low class (record {
      node = c.self.inside.node;
      service = c.self.inside.service;
      nonce = c.self.inside.nonce;
      firsts = c.self.inside.firsts;
    }) i.fits) in
    let l = i.looks in
    let serves = subst (λ (sv : ServerState). Serves class sv l) c.self.view_is i.serves in
    let r = c.in-Some.ensures.ready l serves in
    let m = message_of c.args.head.now c.args.body.now in
    let above = sym (c.requires.above l serves) ∙ c.if-is_above.true in
    record {
      looks = used (connection_of c.args.c.now)
          (entered (setup_of class c.args.self.now.node) (connection_of c.args.c.now) l);
      channel = channel_of c.args.c.now;
      serves = r.serves;
      at = r.channel;
      opening = may_open class c.args.self.now c.ready.new.self l c.args.c.now m c.in-Some.key server c.requires.chan
          (sym c.requires.number) (c.requires.passes l serves) window c.ready.ensures.same.setup r above;
    }

pub take_live-requires-clause-own : goal.take_live-requires-clause-own
take_live-requires-clause-own g c =
    let class = g.C.Class.class_of in
    let i = c.self.invariant.0 in
    let server = subst (λ (sv : ServerState). IsServer sv.node.kind) c.self.view_is
    (is_server c.self.inside.node.kind c.self.inside.service i.server) in
    let window = subst (λ (sv : ServerState). receiving_window (setup_of class sv.node) ≤ LAST_SEQ) c.self.view_is
    (window_low class (record {
      node = c.self.inside.node;
      service = c.self.inside.service;
      nonce = c.self.inside.nonce;
      firsts = c.self.inside.firsts;
    }) i.fits) in
    let l = i.looks in
    let serves = subst (λ (sv : ServerState). Serves class sv l) c.self.view_is i.serves in
    let r = c.in-Some.ensures.ready l serves in
    let m = message_of c.args.head.now c.args.body.now in
    let above = sym (c.requires.above l serves) ∙ c.if-is_above.true in
    let s = setup_of class c.args.self.now.node in
    let ready = used (connection_of c.args.c.now) (entered s (connection_of c.args.c.now) l) in
    let opening = may_open class c.args.self.now c.ready.new.self l c.args.c.now m c.in-Some.key server c.requires.chan
    (sym c.requires.number) (c.requires.passes l serves) window c.ready.ensures.same.setup r above in
    record {
      looks = opened s c.args.c.now ready;
      serves = serves_opened class c.args.self.now c.ready.new.self l c.args.c.now m c.in-Some.key
          server c.requires.chan
          (sym c.requires.number) (c.requires.passes l serves) window c.ready.ensures.same.setup r c.open.new.self above
          (c.open.ensures.steps ready (channel_of c.args.c.now) r.serves r.channel opening);
      own = owns_opened class c.args.self.now c.ready.new.self l c.args.c.now m c.in-Some.key server c.requires.chan
          (sym c.requires.number) (c.requires.passes l serves) window c.ready.ensures.same.setup r above;
    }

pub returns-then-is_above-clause-takes : goal.returns-then-is_above-clause-takes
returns-then-is_above-clause-takes g c =
    let class = g.C.Class.class_of in
    let i = c.self.invariant.0 in
    let server = subst (λ (sv : ServerState). IsServer sv.node.kind) c.self.view_is
    (is_server c.self.inside.node.kind c.self.inside.service i.server) in
    let window = subst (λ (sv : ServerState). receiving_window (setup_of class sv.node) ≤ LAST_SEQ) c.self.view_is
    (window_low class (record {
      node = c.self.inside.node;
      service = c.self.inside.service;
      nonce = c.self.inside.nonce;
      firsts = c.self.inside.firsts;
    }) i.fits) in
    let m = message_of c.args.head.now c.args.body.now in
    let s = setup_of class c.args.self.now.node in
    λ l serves. (
    let r = c.in-Some.ensures.ready l serves in
    let above = sym (c.requires.above l serves) ∙ c.if-is_above.true in
    let ready = used (connection_of c.args.c.now) (entered s (connection_of c.args.c.now) l) in
    let passes = c.requires.passes l serves in
    let opening = may_open class c.args.self.now c.ready.new.self l c.args.c.now m c.in-Some.key server c.requires.chan
    (sym c.requires.number) passes window c.ready.ensures.same.setup r above in
    let inner = serves_opened class c.args.self.now c.ready.new.self l c.args.c.now m c.in-Some.key
    server c.requires.chan
    (sym c.requires.number) passes window c.ready.ensures.same.setup r c.open.new.self above
    (c.open.ensures.steps ready (channel_of c.args.c.now) r.serves r.channel opening) in
    let own = owns_opened class c.args.self.now c.ready.new.self l c.args.c.now m c.in-Some.key server c.requires.chan
    (sym c.requires.number) passes window c.ready.ensures.same.setup r above in
    let call = active_there (opened s c.args.c.now ready) c.args.c.now own.active in
    takes_own class c.args.self.now c.ready.new.self l c.args.c.now m c.in-Some.key server c.requires.chan
    (sym c.requires.number) passes window c.ready.ensures.same.setup r c.open.new.self c.take_live.new.self call.0
    c.take_live.result (c.open.ensures.same.setup ∙ c.ready.ensures.same.setup) call.1
    (c.take_live.ensures.takes (opened s c.args.c.now ready) call.0 inner own call.1))

pub take_live-requires-2-clause-own : goal.take_live-requires-2-clause-own
take_live-requires-2-clause-own g c =
    let class = g.C.Class.class_of in
    let i = c.self.invariant.0 in
    let server = subst (λ (sv : ServerState). IsServer sv.node.kind) c.self.view_is
    (is_server c.self.inside.node.kind c.self.inside.service i.server) in
    let window = subst (λ (sv : ServerState). receiving_window (setup_of class sv.node) ≤ LAST_SEQ) c.self.view_is
    (window_low class (record {
      node = c.self.inside.node;
      service = c.self.inside.service;
      nonce = c.self.inside.nonce;
      firsts = c.self.inside.firsts;
    }) i.fits) in
    let l = i.looks in
    let serves = subst (λ (sv : ServerState). Serves class sv l) c.self.view_is i.serves in
    let r = c.in-Some.ensures.ready l serves in
    let m = message_of c.args.head.now c.args.body.now in
    let below = sym (c.requires.above l serves) ∙ c.if-is_above.false in
    let s = setup_of class c.args.self.now.node in
    let ready = used (connection_of c.args.c.now) (entered s (connection_of c.args.c.now) l) in
    record {
      looks = opened s c.args.c.now ready;
      serves = serves_own class c.args.self.now c.ready.new.self l c.args.c.now m c.in-Some.key server c.requires.chan
          (sym c.requires.number) (c.requires.passes l serves) window c.ready.ensures.same.setup r
          c.ready.new.self below
          r.serves;
      own = owns_own class c.args.self.now c.ready.new.self l c.args.c.now m c.in-Some.key server c.requires.chan
          (sym c.requires.number) (c.requires.passes l serves) window c.ready.ensures.same.setup r below;
    }

pub returns-clause-takes : goal.returns-clause-takes
returns-clause-takes g c =
    let class = g.C.Class.class_of in
    let i = c.self.invariant.0 in
    let server = subst (λ (sv : ServerState). IsServer sv.node.kind) c.self.view_is
    (is_server c.self.inside.node.kind c.self.inside.service i.server) in
    let window = subst (λ (sv : ServerState). receiving_window (setup_of class sv.node) ≤ LAST_SEQ) c.self.view_is
    (window_low class (record {
      node = c.self.inside.node;
      service = c.self.inside.service;
      nonce = c.self.inside.nonce;
      firsts = c.self.inside.firsts;
    }) i.fits) in
    let m = message_of c.args.head.now c.args.body.now in
    let s = setup_of class c.args.self.now.node in
    λ l serves. (
    let r = c.in-Some.ensures.ready l serves in
    let below = sym (c.requires.above l serves) ∙ c.if-is_above.false in
    let ready = used (connection_of c.args.c.now) (entered s (connection_of c.args.c.now) l) in
    let passes = c.requires.passes l serves in
    let inner = serves_own class c.args.self.now c.ready.new.self l c.args.c.now m c.in-Some.key server c.requires.chan
    (sym c.requires.number) passes window c.ready.ensures.same.setup r c.ready.new.self below r.serves in
    let own = owns_own class c.args.self.now c.ready.new.self l c.args.c.now m c.in-Some.key server c.requires.chan
    (sym c.requires.number) passes window c.ready.ensures.same.setup r below in
    let call = active_there (opened s c.args.c.now ready) c.args.c.now own.active in
    takes_own class c.args.self.now c.ready.new.self l c.args.c.now m c.in-Some.key server c.requires.chan
    (sym c.requires.number) passes window c.ready.ensures.same.setup r c.ready.new.self c.take_live-2.new.self call.0
    c.take_live-2.result c.ready.ensures.same.setup call.1
    (c.take_live-2.ensures.takes (opened s c.args.c.now ready) call.0 inner own call.1))
