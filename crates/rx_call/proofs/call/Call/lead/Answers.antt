use Rattle.std.proofs.Common.{◌∙◌, ◌||◌, nat_lt, ap, sym}
use Rattle.rx_rules.specs.Sent.{held_pieces}
use Rattle.rx_call.proofs.call.Call.lead.Goals as goal

pub returns-else-unread-clause-answered : goal.returns-else-unread-clause-answered
returns-else-unread-clause-answered c =
    rw (← c.self.view_is) (λ pool k st.
    let unread = c.lead-unread.ensures.answered pool k.received st.received in
    let pieces = c.held.ensures.answered pool k.sent st.sent in
    ap (nat_lt 0) pieces ∙ ap (λ b. b || nat_lt 0 (held_pieces k.sent)) (sym c.if-unread.false ∙ unread))
