use Rattle.std.proofs.Common.{true}
use Rattle.rx_rules.specs.Sent.{after_time}
use Rattle.rx_call.proofs.Parts.{now_sent, now_timed}
use Rattle.rx_call.proofs.call.Call.mark_late.Goals as goal

pub returns-then-up-clause-stands : goal.returns-then-up-clause-stands
returns-then-up-clause-stands c =
    rw (← c.self.view_is) (λ pool k st.
    now_timed pool _ k c.args.up true c.if-up.true
    (now_sent pool _ k c.time_up.new.self (after_time true k.sent) (c.time_up.ensures.stands pool k.sent st.sent) st))
