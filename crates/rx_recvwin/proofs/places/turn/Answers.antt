use Rattle.std.proofs.Common.{◌≡◌, ◌++◌, ◌∷◌, Option, Some, None, ◌∙◌, ap, option_to_list}
use Rattle.rx_recvwin.specs.declared.packet.KeptPacket.{KeptPacket}
use Rattle.rx_recvwin.proofs.SlotLaws.{turn_of, turn_some, turn_none}
use Rattle.rx_recvwin.proofs.places.turn.Goals as goal

pub give-requires : goal.give-requires
give-requires c =
    let rest = c.pop_front.new.self.items in
    let is : c.args.places.now.items ≡ Some c.in-Some.held ∷ rest = (
    c.pop_front.ensures.items ∙ ap (λ (o : Option (Option KeptPacket)). option_to_list o ++ rest)
    c.unwrap-first.ensures ∙ ap (λ (o : Option KeptPacket). o ∷ rest) c.in-Some.is) in
    turn_of c.args.pool.now c.args.places.now.items rest c.in-Some.held is c.requires.holds

pub returns-in-Some-clause-keeps : goal.returns-in-Some-clause-keeps
returns-in-Some-clause-keeps c =
    let rest = c.pop_front.new.self.items in
    let is : c.args.places.now.items ≡ Some c.in-Some.held ∷ rest = (
    c.pop_front.ensures.items ∙ ap (λ (o : Option (Option KeptPacket)). option_to_list o ++ rest)
    c.unwrap-first.ensures ∙ ap (λ (o : Option KeptPacket). o ∷ rest) c.in-Some.is) in
    turn_some c.args.pool.now c.give.new.self c.args.places.now.items rest c.push_back_reserved.new.self.items
    c.in-Some.held is c.push_back_reserved.ensures.items c.give.ensures.given c.requires.holds

pub returns-in_default-clause-keeps : goal.returns-in_default-clause-keeps
returns-in_default-clause-keeps c =
    let rest = c.pop_front.new.self.items in
    let is : c.args.places.now.items ≡ None ∷ rest = (
    c.pop_front.ensures.items ∙ ap (λ (o : Option (Option KeptPacket)). option_to_list o ++ rest)
    c.unwrap-first.ensures ∙ ap (λ (o : Option KeptPacket). o ∷ rest) c.in_default.is) in
    turn_none c.args.pool.now c.args.places.now.items rest c.push_back_reserved.new.self.items is
    c.push_back_reserved.ensures.items c.requires.holds
