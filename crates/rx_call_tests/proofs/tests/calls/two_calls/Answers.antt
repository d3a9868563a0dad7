use Rattle.std.proofs.Common.{sym, subst}
use Rattle.rx_pool.specs.Held.{Holds}
use Rattle.rx_call.proofs.CallsAt.{holds_none, no_pace}
use Rattle.rx_call_tests.proofs.tests.calls.two_calls.Goals as goal

pub data-requires-clause-holds : goal.data-requires-clause-holds
data-requires-clause-holds g c =
    let pool = c.in_ok-pool.pool in
    let none = subst (λ ss. Holds pool ss) (sym c.in_ok-calls.ensures.slots) (holds_none pool) in
    c.start-3.ensures.holds pool (c.start-2.ensures.holds pool (c.start.ensures.holds pool none))

pub end-requires-clause-windows : goal.end-requires-clause-windows
end-requires-clause-windows g c =
    let none = no_pace c.in_ok-calls.calls c.in_ok-calls.ensures.empty in
    let started = c.start-3.ensures.windows (c.start-2.ensures.windows (c.start.ensures.windows none)) in
    c.data-3.ensures.windows (c.data-2.ensures.windows (c.data.ensures.windows started))
