use Rattle.std.proofs.Common.{◌≡◌, ◌+◌, ◌∙◌, ◌&&◌, nat_lt, nat_le, ap, subst}
use Rattle.rx_rules.specs.Sent.{counting_by}
use Rattle.rx_sendwin.specs.Window.{SendWindow, IsTied}
use Rattle.rx_sendwin.proofs.Standing.{can_give_is}
use Rattle.rx_sendwin.proofs.window.SendWin.can_give.Goals as goal

pub returns-clause-answered : goal.returns-clause-answered
returns-clause-answered c =
    let w = c.args.self.now in
    let flight = c.self.inside.flight in
    let cw = c.args.cw.now in
    let value : c.goes.result ≡ (nat_lt w.given (counting_by w.total w.shut)
    && (nat_lt flight cw.window && nat_le (w.given + 1) (w.acked + w.peer_window))) = (
    c.goes.ensures
    ∙ (λ i. nat_lt c.self.inside.given (c.counting.ensures i) && (c.room-fits.ensures i
    && nat_le (c.self.inside.given + 1) (c.self.inside.acked + c.self.inside.peer_window)))
    ∙ ap (λ (v : SendWindow). nat_lt v.given (counting_by w.total w.shut)
    && (nat_lt flight cw.window && nat_le (v.given + 1) (v.acked + v.peer_window))) c.self.view_is) in
    let tied = subst (λ (v : SendWindow). IsTied v c.self.inside.low flight) c.self.view_is c.self.invariant.1 in
    λ pool s st. value ∙ can_give_is pool w s c.self.inside.low flight cw st tied
