use Rattle.std.proofs.Common.{◌≡◌, ◌≤◌, ◌∙◌, take, ap, sym, subst, arith, rules}
use Rattle.rx_model.specs.Spelling.{made}
use Rattle.rx_packet.specs.Seen.{message_with_head}
use Rattle.rx_model.specs.declared.names.CallName.{CallName}
use Rattle.rx_model.specs.Body as bodies
use Rattle.rx_rules.specs.Looks.{call_named, latest_name}
use Rattle.rx_node.specs.Due.{IsItem, challenge_of}
use Rattle.rx_node.specs.Node.{setup_of}
use Rattle.rx_node.specs.declared.item.Item.{Item as CodeItem}
use Rattle.rx_node.proofs.GivenItem.{gave_latest, gave_once, has_response, sent_name}
use Rattle.rx_node.proofs.node.Node.give_item.Goals as goal

pub returns-in-Abort-clause-gives : goal.returns-in-Abort-clause-gives
returns-in-Abort-clause-gives g c =
    let wrote : take c.give_abort.result c.give_abort.new.to
    ≡ made (message_with_head c.args.head.now (bodies.Abort c.in-Abort.code)) = search rules in
    λ l i m due numbered. (
    let s = setup_of g.C.Class.class_of c.args.self.now in
    let its = subst (λ (item : CodeItem). IsItem s l due.channel item i) c.in-Abort.is due.is in
    gave_latest g.C.Class.class_of c.give_abort.new.self l c.args.head.now c.requires.seq i (latest_name l due.channel)
    (bodies.Abort c.in-Abort.code) its (take c.give_abort.result c.give_abort.new.to)
    (λ msg. c.give_abort.ensures.steps l due.channel m due.at)
    (numbered due.channel due.at) wrote)

pub returns-in-Busy-clause-gives : goal.returns-in-Busy-clause-gives
returns-in-Busy-clause-gives g c =
    λ l i m due numbered. (
    let s = setup_of g.C.Class.class_of c.args.self.now in
    let its = subst (λ (item : CodeItem). IsItem s l due.channel item i) c.in-Busy.is due.is in
    gave_once g.C.Class.class_of c.give_busy.new.self l c.args.head.now c.requires.seq i
    (call_named due.channel c.in-Busy.number) bodies.Busy its _
    (λ msg. c.give_busy.ensures.steps l due.channel m due.at) c.give_busy.ensures.written)

pub returns-in-Challenge-clause-gives : goal.returns-in-Challenge-clause-gives
returns-in-Challenge-clause-gives g c =
    λ l i m due numbered. (
    let s = setup_of g.C.Class.class_of c.args.self.now in
    let its = subst (λ (item : CodeItem). IsItem s l due.channel item i) c.in-Challenge.is due.is in
    gave_latest g.C.Class.class_of c.give_challenge.new.self l c.args.head.now c.requires.seq i
    (latest_name l due.channel) (challenge_of s l (latest_name l due.channel)) its _
    (λ msg. c.give_challenge.ensures.steps l due.channel m due.at)
    (numbered due.channel due.at) (c.give_challenge.ensures.written l due.channel m due.at))

pub returns-in-Response-clause-gives : goal.returns-in-Response-clause-gives
returns-in-Response-clause-gives g c =
    λ l i m due numbered. (
    let s = setup_of g.C.Class.class_of c.args.self.now in
    let its = has_response l due.channel i
    (subst (λ (item : CodeItem). IsItem s l due.channel item i) c.in-Response.is due.is) in
    gave_latest g.C.Class.class_of c.give_response.new.self l c.args.head.now c.requires.seq i
    (latest_name l due.channel) (bodies.Response its.bytes) its.is _
    (λ msg. c.give_response.ensures.steps l due.channel m due.at)
    (numbered due.channel due.at) (c.give_response.ensures.written l due.channel its.bytes m due.at its.owed))

pub returns-in-AckAll-clause-gives : goal.returns-in-AckAll-clause-gives
returns-in-AckAll-clause-gives g c =
    λ l i m due numbered. (
    let s = setup_of g.C.Class.class_of c.args.self.now in
    let its = subst (λ (item : CodeItem). IsItem s l due.channel item i) c.in-AckAll.is due.is in
    gave_latest g.C.Class.class_of c.give_ackall.new.self l c.args.head.now c.requires.seq i
    (latest_name l due.channel) bodies.AckAll its _ (λ msg. c.give_ackall.ensures.steps l due.channel m due.at)
    (numbered due.channel due.at) c.give_ackall.ensures.written)

pub returns-in-Sending-clause-gives : goal.returns-in-Sending-clause-gives
returns-in-Sending-clause-gives g c =
    λ l i m due numbered. (
    let s = setup_of g.C.Class.class_of c.args.self.now in
    let its = subst (λ (item : CodeItem). IsItem s l due.channel item i) c.in-Sending.is due.is in
    let now : i.rank ≤ l.now = (
    let rank : c.args.due.now.rank ≡ i.rank = due.rank in
    let moment : c.args.self.now.moment ≡ l.now = m.now in
    let low : c.args.due.now.rank ≤ c.args.self.now.moment = c.requires.now in
    omega arith) in
    c.give_sending.ensures.gives l due.channel i m due.at its now
    (numbered due.channel due.at ∙ sym (ap (λ (name : CallName). name.number) (sent_name s l due.channel i its)))
    c.requires.seq)
