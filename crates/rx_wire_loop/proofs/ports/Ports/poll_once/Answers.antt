use Rattle.std.proofs.Common.{◌≡◌, ◌∙◌, List, ℕ, ap, arith, length, take}
use Rattle.rx_wire_loop.proofs.Polling.{none_in, polled_in, restored, single_in}
use Rattle.rx_wire_loop.proofs.ports.Ports.poll_once.Goals as goal

pub pass_on-requires-clause-size : goal.pass_on-requires-clause-size
pass_on-requires-clause-size g c =
    let whole : length c.poll.new.to ≡ c.self.inside.single.len =
    omega (arith, c.poll.auto.to, c.deref_mut.ensures.len) in
    (single_in (g.N.Endpoint.setup c.args.node.now) (g.N.Endpoint.stands c.args.node.now)
    (g.N.Endpoint.stands c.poll.new.self) _ c.in-Some.to c.front-datagram.result.now
    (take c.in-Some.count c.poll.new.to) (c.front-datagram.ensures ∙ ap (λ (xs : List ℕ). take c.in-Some.count xs)
    (c.deref.ensures.value ∙ restored c.self.inside.single.len c.poll.new.to c.self.inside.single.items whole))
    c.requires.behind (λ h stands. g.met.N.Endpoint.legal c.args.node.now h stands) c.requires.fits
    c.in-Some.ensures.answered).1

pub pass_on-requires-clause-single : goal.pass_on-requires-clause-single
pass_on-requires-clause-single g c =
    let whole : length c.poll.new.to ≡ c.self.inside.single.len =
    omega (arith, c.poll.auto.to, c.deref_mut.ensures.len) in
    (single_in (g.N.Endpoint.setup c.args.node.now) (g.N.Endpoint.stands c.args.node.now)
    (g.N.Endpoint.stands c.poll.new.self) _ c.in-Some.to c.front-datagram.result.now
    (take c.in-Some.count c.poll.new.to) (c.front-datagram.ensures ∙ ap (λ (xs : List ℕ). take c.in-Some.count xs)
    (c.deref.ensures.value ∙ restored c.self.inside.single.len c.poll.new.to c.self.inside.single.items whole))
    c.requires.behind (λ h stands. g.met.N.Endpoint.legal c.args.node.now h stands) c.requires.fits
    c.in-Some.ensures.answered).0

pub returns-in-Some-clause-plays : goal.returns-in-Some-clause-plays
returns-in-Some-clause-plays g c =
    let whole : length c.poll.new.to ≡ c.self.inside.single.len =
    omega (arith, c.poll.auto.to, c.deref_mut.ensures.len) in
    λ sink. polled_in c.args.self.now c.self.inside.node c.self.inside.joiner c.self.view_is _ _ _ _ _ sink _ _
    c.pass_on.new.joiner c.in-Some.to c.front-datagram.result.now (take c.in-Some.count c.poll.new.to) c.pass_on.result
    (c.front-datagram.ensures ∙ ap (λ (xs : List ℕ). take c.in-Some.count xs) (c.deref.ensures.value ∙ restored
    c.self.inside.single.len c.poll.new.to c.self.inside.single.items whole)) c.in-Some.ensures.answered
    c.pass_on.ensures.passes c.pass_on.ensures.some

pub returns-in-None-clause-plays : goal.returns-in-None-clause-plays
returns-in-None-clause-plays g c =
    λ sink. none_in c.args.self.now c.self.inside.node c.self.inside.joiner c.self.view_is _ _ _ _ _ sink _
    c.note_none.result c.in-None.ensures.answered c.note_none.ensures.told c.note_none.ensures.none
