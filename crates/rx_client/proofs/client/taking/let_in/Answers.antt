use Rattle.std.proofs.Common.{◌==◌, ◌&&◌, ℕ, List, is_some, ◌∙◌, ap, sym}
use Rattle.rx_model.specs.Names.{same_host}
use Rattle.rx_packet.specs.Seen.{body_of, message_of}
use Rattle.rx_rules.specs.Judging.{is_for_clients}
use Rattle.rx_client.proofs.TakenMessages.{in_known, out_unknown}
use Rattle.rx_client.proofs.client.taking.let_in.Goals as goal

pub returns-in_err-key-clause-exact : goal.returns-in_err-key-clause-exact
returns-in_err-key-clause-exact g c =
    λ l m. ap (λ o. is_some o) c.from_residual.ensures
    ∙ out_unknown g.C.Class.class_of c.args.node.now l m c.args.c.now c.args.from
    (message_of c.args.head.now c.args.body.now)
    (c.channel.ensures.none l m c.requires c.in_err-key.was)

pub returns-then-comes_in-clause-exact : goal.returns-then-comes_in-clause-exact
returns-then-comes_in-clause-exact g c =
    let n = c.args.node.now in
    let link = c.link.result.now in
    let class = ap (λ (s : List ℕ). same_host link.peer c.args.from
    && ((c.args.head.now.index == (g.C.Class.class_of s).index)
    && is_for_clients (g.C.Class.class_of s).challenges (body_of c.args.body.now))) c.class.ensures in
    λ l m. sym c.if-comes_in.true ∙ c.comes_in.ensures ∙ class
    ∙ in_known g.C.Class.class_of n l m c.args.c.now c.args.from (message_of c.args.head.now c.args.body.now)
    c.in_ok-key.key link (c.in_ok-key.ensures.channel l m c.requires) c.link.ensures

pub returns-clause-exact : goal.returns-clause-exact
returns-clause-exact g c =
    let n = c.args.node.now in
    let link = c.link.result.now in
    let class = ap (λ (s : List ℕ). same_host link.peer c.args.from
    && ((c.args.head.now.index == (g.C.Class.class_of s).index)
    && is_for_clients (g.C.Class.class_of s).challenges (body_of c.args.body.now))) c.class.ensures in
    λ l m. sym c.if-comes_in.false ∙ c.comes_in.ensures ∙ class
    ∙ in_known g.C.Class.class_of n l m c.args.c.now c.args.from (message_of c.args.head.now c.args.body.now)
    c.in_ok-key.key link (c.in_ok-key.ensures.channel l m c.requires) c.link.ensures
