use Rattle.std.proofs.Common.{◌+◌, ℕ, ◌∙◌, ap, sym, arith}
use Rattle.rx_rules.specs.Looks.{channel_at}
use Rattle.rx_client.proofs.NextNumbers.{first_is, first_some, next_more, next_zero, seat_number}
use Rattle.rx_client.proofs.client.Client.next_number.Goals as goal

pub returns-then-before-eq0-clause-some : goal.returns-then-before-eq0-clause-some
returns-then-before-eq0-clause-some g c =
    let some = first_some g.C.Class.class_of c.self.inside.node c.self.invariant.0 c.args.place c.link.result.now
    c.link.ensures in
    omega arith

pub returns-then-before-eq0-clause-exact : goal.returns-then-before-eq0-clause-exact
returns-then-before-eq0-clause-exact g c =
    rw (← c.self.view_is) (λ l x ch m there at. (
    let first = first_is g.C.Class.class_of c.self.inside.node l m c.args.place x there c.link.result.now
    c.link.ensures in
    let number = seat_number g.C.Class.class_of c.self.inside.node l m c.args.key ch c.seat.result.now at
    c.seat.ensures in
    first ∙ next_zero x.first (channel_at l ch).number (sym number ∙ c.if-before-eq0.true)))

pub returns-clause-exact : goal.returns-clause-exact
returns-clause-exact g c =
    rw (← c.self.view_is) (λ l x ch m there at. (
    let number = seat_number g.C.Class.class_of c.self.inside.node l m c.args.key ch c.seat.result.now at
    c.seat.ensures in
    ap (λ (k : ℕ). k + 1) number
    ∙ next_more x.first (channel_at l ch).number (λ none. c.if-before-eq0.false (number ∙ none))))
