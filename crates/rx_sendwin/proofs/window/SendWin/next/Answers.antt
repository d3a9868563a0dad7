use Rattle.std.proofs.Common.{◌+◌, ◌<◌, ◌≤◌, ◌∙◌, ℕ, ap, sym, subst, refl}
use Rattle.rx_sendwin.specs.Window.{SendWindow}
use Rattle.rx_sendwin.proofs.Nexts.{next_lost, next_fresh, next_due, next_waits, next_none, unless_some}
use Rattle.rx_sendwin.proofs.window.SendWin.next.Goals as goal

pub returns-in-Some-clause-answered : goal.returns-in-Some-clause-answered
returns-in-Some-clause-answered c =
    λ pool s st. (
    let lost = sym (c.lost_piece.ensures.answered pool s st) ∙ c.in-Some.is in
    next_lost c.args.now c.args.rto c.args.cw.now s c.in-Some.seq c.halves.result lost
    (c.halves.ensures pool s st lost))

pub returns-then-can_give-clause-answered : goal.returns-then-can_give-clause-answered
returns-then-can_give-clause-answered c =
    let seq = ap (λ (w : SendWindow). w.given + 1) c.self.view_is in
    λ pool s st. next_fresh c.args.now c.args.rto c.args.cw.now s (c.self.inside.given + 1) c.asks.result
    (sym (c.lost_piece.ensures.answered pool s st) ∙ unless_some c.lost_piece.result c.in_default.not-Some)
    (sym (c.can_give.ensures.answered pool s st) ∙ c.if-can_give.true) (seq ∙ ap (λ n. n + 1) st.given)
    (c.asks.ensures pool s st)

pub returns-then-giving-resend_after-clause-answered : goal.returns-then-giving-resend_after-clause-answered
returns-then-giving-resend_after-clause-answered c =
    λ pool s st. next_due c.args.now c.args.rto c.args.cw.now s c.in-Some-lowest.seq _
    (sym (c.lost_piece.ensures.answered pool s st) ∙ unless_some c.lost_piece.result c.in_default.not-Some)
    (sym (c.can_give.ensures.answered pool s st) ∙ c.if-can_give.false) (c.in-Some-lowest.ensures.seq pool s st)
    (c.in-Some-lowest.ensures.some pool s st)
    (subst (λ (wait : ℕ). c.in-Some-lowest.giving.moment + wait ≤ c.args.now) c.resend_after.ensures.value
    c.if-giving-resend_after.true)

pub returns-else-giving-resend_after-clause-answered : goal.returns-else-giving-resend_after-clause-answered
returns-else-giving-resend_after-clause-answered c =
    λ pool s st. next_waits c.args.now c.args.rto c.args.cw.now s _
    (sym (c.lost_piece.ensures.answered pool s st) ∙ unless_some c.lost_piece.result c.in_default.not-Some)
    (sym (c.can_give.ensures.answered pool s st) ∙ c.if-can_give.false) (c.in-Some-lowest.ensures.some pool s st)
    (subst (λ (wait : ℕ). c.args.now < c.in-Some-lowest.giving.moment + wait) c.resend_after.ensures.value
    c.if-giving-resend_after.false)

pub returns-in-None-clause-answered : goal.returns-in-None-clause-answered
returns-in-None-clause-answered c =
    λ pool s st. next_none c.args.now c.args.rto c.args.cw.now s
    (sym (c.lost_piece.ensures.answered pool s st) ∙ unless_some c.lost_piece.result c.in_default.not-Some)
    (sym (c.can_give.ensures.answered pool s st) ∙ c.if-can_give.false) (c.in-None.ensures.none pool s st refl)
