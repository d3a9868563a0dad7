use Rattle.std.proofs.Common.{arith}
use Rattle.rx_call.proofs.call.Call.held.Goals as goal

pub returns-clause-answered : goal.returns-clause-answered
returns-clause-answered c =
    rw (← c.self.view_is) (λ pool k st.
    let packets = c.held.ensures.answered pool k.received st.received in
    let pieces = c.held-2.ensures.answered pool k.sent st.sent in
    omega (arith, packets, pieces))
