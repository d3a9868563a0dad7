use Rattle.std.proofs.Common.{◌≡◌, sym, ◌∙◌, ap}
use Rattle.rx_packet.specs.Seen.{message_of}
use Rattle.rx_rules.specs.Judging.{Facts, client_row}
use Rattle.rx_client.proofs.TakenMessages.{owned_named, turned_named}
use Rattle.rx_client.proofs.client.taking.take_named.Goals as goal

pub returns-in-Some-clause-takes : goal.returns-in-Some-clause-takes
returns-in-Some-clause-takes g c =
    λ l m. turned_named g.C.Class.class_of c.args.node.now c.touch.new.self c.turn_away.new.node l m c.args.c.now
    (message_of c.args.head.now c.args.body.now) c.args.key c.requires.client (c.requires.channel l m)
    (sym c.requires.number) c.touch.ensures.steps c.in-Some.row
    (λ call. c.in-Some.ensures call ∙ ap (λ (f : Facts). client_row f call) (c.facts-facts.ensures l m))
    c.turn_away.ensures.steps

pub returns-in-None-clause-takes : goal.returns-in-None-clause-takes
returns-in-None-clause-takes g c =
    λ l m. owned_named g.C.Class.class_of c.args.node.now c.touch.new.self c.take_own.new.node l m c.args.c.now
    (message_of c.args.head.now c.args.body.now) c.args.key c.requires.client (c.requires.channel l m)
    (sym c.requires.number) c.touch.ensures.steps c.take_own.result
    (λ call. c.in-None.ensures call ∙ ap (λ (f : Facts). client_row f call) (c.facts-facts.ensures l m))
    c.touch.ensures.same c.take_own.ensures.answered c.take_own.ensures.steps

pub facts-facts-requires : goal.facts-facts-requires
facts-facts-requires g c = record { key = c.requires.key; at = c.requires.channel; absent = λ none. absurd (cc (none)) }
