use Rattle.std.proofs.Common.{◌+◌, ◌∙◌, ℕ, Some, sym, ap, refl, is_some}
use Rattle.rx_sendwin.proofs.Nexts.{rank_lost, rank_fresh, rank_later, not_some}
use Rattle.rx_sendwin.proofs.window.SendWin.due.Goals as goal

pub returns-then-is_some : goal.returns-then-is_some
returns-then-is_some c = record {
  answered = λ pool s st. rank_lost c.args.rto c.args.cw.now s
      (ap is_some (sym (c.lost_piece.ensures.answered pool s st)) ∙ sym c.is_some.ensures ∙ c.if-is_some.true);
}

pub returns-then-can_give : goal.returns-then-can_give
returns-then-can_give c = record {
  answered = λ pool s st. rank_fresh c.args.rto c.args.cw.now s
      (sym (c.lost_piece.ensures.answered pool s st)
      ∙ not_some c.lost_piece.result (sym c.is_some.ensures ∙ c.if-is_some.false))
      (sym (c.can_give.ensures.answered pool s st) ∙ c.if-can_give.true);
}

pub returns-in-Some : goal.returns-in-Some
returns-in-Some c = record {
  answered = λ pool s st. ap (λ (wait : ℕ). Some (c.in-Some.giving.moment + wait)) c.resend_after.ensures.value
      ∙ sym (rank_later c.args.rto c.args.cw.now s _
      (sym (c.lost_piece.ensures.answered pool s st)
      ∙ not_some c.lost_piece.result (sym c.is_some.ensures ∙ c.if-is_some.false))
      (sym (c.can_give.ensures.answered pool s st) ∙ c.if-can_give.false) (c.in-Some.ensures.some pool s st));
}

pub returns-in-None : goal.returns-in-None
returns-in-None c = record {
  answered = λ pool s st. sym (rank_later c.args.rto c.args.cw.now s _
      (sym (c.lost_piece.ensures.answered pool s st)
      ∙ not_some c.lost_piece.result (sym c.is_some.ensures ∙ c.if-is_some.false))
      (sym (c.can_give.ensures.answered pool s st) ∙ c.if-can_give.false) (c.in-None.ensures.none pool s st refl));
}
