use Rattle.std.proofs.Common.{◌≡◌, ap, is_some, sym, subst, ◌∙◌}
use Rattle.rx_model.specs.declared.names.CallName.{CallName}
use Rattle.rx_model.specs.Names.{channel_of, name_of}
use Rattle.rx_packet.specs.Seen.{body_of, message_of}
use Rattle.rx_rules.specs.Setup.{Kind, client_host, named}
use Rattle.rx_node.specs.Mirrors.{IsChannel}
use Rattle.rx_node.specs.Node.{setup_of}
use Rattle.rx_client.specs.Taking.{TakesNamed, is_let_in}
use Rattle.rx_client.proofs.TakenMessages.{let_message, out_message, unset}
use Rattle.rx_client.proofs.client.taking.take_message.Goals as goal

pub take_named-requires-clause-number : goal.take_named-requires-clause-number
take_named-requires-clause-number g c =
    ap (λ (d : CallName). d.number) (c.named-c.ensures.name (body_of c.args.body.now))

pub returns-in-Some-clause-takes : goal.returns-in-Some-clause-takes
returns-in-Some-clause-takes g c =
    let n = c.args.node.now in
    let from = c.args.from in
    let msg = message_of c.args.head.now c.args.body.now in
    let own : c.named-c.result ≡ named (setup_of g.C.Class.class_of n) from msg =
    c.named-c.ensures.name (body_of c.args.body.now)
    ∙ ap (λ (k : Kind). name_of (client_host k from) msg) c.kind.ensures in
    λ l m. let_message g.C.Class.class_of n c.take_named.new.node l m from msg c.requires.client
    (unset _ c.if-head-ne0.false)
    c.take_named.result c.in-Some.key
    (subst (λ (d : CallName). IsChannel l c.in-Some.key (channel_of d)) own (c.in-Some.ensures.channel l m))
    (ap (λ (d : CallName). is_let_in (g.C.Class.class_of n.secret) l from d msg) (sym own)
    ∙ sym (c.let_in.ensures.exact l m) ∙ ap (λ o. is_some o) c.in-Some.is)
    (subst (λ (d : CallName). TakesNamed g.C.Class.class_of n c.take_named.new.node l d msg c.take_named.result) own
    (c.take_named.ensures.takes l m))

pub returns-in-None-clause-takes : goal.returns-in-None-clause-takes
returns-in-None-clause-takes g c =
    let n = c.args.node.now in
    let from = c.args.from in
    let msg = message_of c.args.head.now c.args.body.now in
    let own : c.named-c.result ≡ named (setup_of g.C.Class.class_of n) from msg =
    c.named-c.ensures.name (body_of c.args.body.now)
    ∙ ap (λ (k : Kind). name_of (client_host k from) msg) c.kind.ensures in
    λ l m. out_message g.C.Class.class_of n n l m from msg c.requires.client (unset _ c.if-head-ne0.false)
    (ap (λ (d : CallName). is_let_in (g.C.Class.class_of n.secret) l from d msg) (sym own)
    ∙ sym (c.let_in.ensures.exact l m) ∙ ap (λ o. is_some o) c.in-None.is)
