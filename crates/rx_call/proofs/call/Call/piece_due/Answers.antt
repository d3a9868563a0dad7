use Rattle.std.proofs.Common.{◌≡◌, ◌∙◌}
use Rattle.rx_sendwin.specs.Next.{least_rank}
use Rattle.rx_call.proofs.call.Call.piece_due.Goals as goal

pub returns : goal.returns
returns c =
    rw (← c.self.view_is) (λ pool k st.
    let rto : c.rto.result ≡ k.rtt.rto = c.rto.ensures.value ∙ (λ i. (st.rtt i).rto) in
    c.due.ensures.answered pool k.sent st.sent ∙ (λ i. least_rank (rto i) (st.cwnd i) k.sent))
