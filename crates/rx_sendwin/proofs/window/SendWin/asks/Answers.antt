use Rattle.std.proofs.Common.{◌≡◌, ◌+◌, ◌∙◌, ◌||◌, ◌==◌, not, nat_lt, ap, subst, arith}
use Rattle.rx_rules.specs.CallItems.{prompts}
use Rattle.rx_rules.specs.Sent.{piece_at}
use Rattle.rx_sendwin.specs.Marks.{is_acked_by, flight_by}
use Rattle.rx_sendwin.specs.Window.{SendWindow, IsTied}
use Rattle.rx_sendwin.proofs.Counts.{flight_most}
use Rattle.rx_sendwin.proofs.Standing.{given_within, asks_is}
use Rattle.rx_sendwin.proofs.window.SendWin.asks.Goals as goal

pub overflow_add-self-inside : goal.overflow_add-self-inside
overflow_add-self-inside c =
    let known = is_acked_by c.self.inside.acked c.self.inside.soft.items in
    let most = flight_most known c.self.inside.given in
    let is : c.self.inside.flight ≡ flight_by known c.self.inside.given = c.self.invariant.1.in_flight in
    let given = given_within _ c.self.inside.low c.self.inside.flight c.self.invariant.1 in
    omega (arith, most, is, given)

pub returns : goal.returns
returns c =
    let w = c.args.self.now in
    let flight = c.self.inside.flight in
    let cw = c.args.cw.now in
    let last = c.is_last-last.result in
    let seq : c.self.inside.given + 1 ≡ w.given + 1 = ap (λ (v : SendWindow). v.given + 1) c.self.view_is in
    let value : c.asks.result ≡ (last || ((not (nat_lt (flight + 1) cw.window)
    || ((w.given + 1) == w.acked + w.peer_window)) || prompts cw (w.given + 1))) = (
    c.asks.ensures
    ∙ (λ i. last || ((not (c.room-fits.ensures i)
    || ((c.self.inside.given + 1) == c.self.inside.acked + c.self.inside.peer_window)) || c.prompts.ensures i))
    ∙ ap (λ (v : SendWindow). last || ((not (nat_lt (flight + 1) cw.window)
    || ((v.given + 1) == v.acked + v.peer_window)) || prompts cw (v.given + 1)))
    c.self.view_is) in
    let tied = subst (λ (v : SendWindow). IsTied v c.self.inside.low flight) c.self.view_is c.self.invariant.1 in
    λ pool s st. value ∙ asks_is pool w s c.self.inside.low flight cw last st tied
    (c.is_last-last.ensures pool s st ∙ ap (λ k. (piece_at s k).last) seq)
