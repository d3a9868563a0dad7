use Rattle.std.proofs.Common.{◌∙◌, ap, sym, subst, nat_lt, cond, None}
use Rattle.rx_rules.specs.Lost.{first_lost}
use Rattle.rx_sendwin.specs.Lost.{AreLost, order_in}
use Rattle.rx_sendwin.specs.Window.{SendWindow}
use Rattle.rx_sendwin.proofs.LostStanding.{lost_of_is}
use Rattle.rx_sendwin.proofs.window.SendWin.lost_piece.Goals as goal

pub returns-in-Some-clause-answered : goal.returns-in-Some-clause-answered
returns-in-Some-clause-answered c =
    let w = c.args.self.now in
    let lost = c.self.inside.lost in
    let are = (
    subst (λ (v : SendWindow). AreLost v.acked v.given v.since v.soft (order_in v.pieces) lost)
    c.self.view_is c.self.invariant.2) in
    let late = cond (nat_lt lost.under_way c.args.cw.now.window) lost.late None in
    λ pool s st. sym (lost_of_is pool w s lost c.args.cw.now st are (sym c.recovers.ensures ∙ c.if-not-recovers.false)
    ∙ ap (λ o. first_lost o late) c.in-Some.is)

pub returns-then-room-clause-answered : goal.returns-then-room-clause-answered
returns-then-room-clause-answered c =
    let w = c.args.self.now in
    let lost = c.self.inside.lost in
    let are = (
    subst (λ (v : SendWindow). AreLost v.acked v.given v.since v.soft (order_in v.pieces) lost)
    c.self.view_is c.self.invariant.2) in
    let late = cond (nat_lt lost.under_way c.args.cw.now.window) lost.late None in
    λ pool s st. sym (lost_of_is pool w s lost c.args.cw.now st are (sym c.recovers.ensures ∙ c.if-not-recovers.false)
    ∙ ap (λ o. first_lost o late) c.in-None.is
    ∙ ap (λ b. cond b lost.late None) (sym c.room.ensures ∙ c.if-room.true))

pub returns-else-room-clause-answered : goal.returns-else-room-clause-answered
returns-else-room-clause-answered c =
    let w = c.args.self.now in
    let lost = c.self.inside.lost in
    let are = (
    subst (λ (v : SendWindow). AreLost v.acked v.given v.since v.soft (order_in v.pieces) lost)
    c.self.view_is c.self.invariant.2) in
    let late = cond (nat_lt lost.under_way c.args.cw.now.window) lost.late None in
    λ pool s st. sym (lost_of_is pool w s lost c.args.cw.now st are (sym c.recovers.ensures ∙ c.if-not-recovers.false)
    ∙ ap (λ o. first_lost o late) c.in-None.is
    ∙ ap (λ b. cond b lost.late None) (sym c.room.ensures ∙ c.if-room.false))
