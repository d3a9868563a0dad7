use Rattle.std.proofs.Common.{◌≡◌, ◌+◌, ◌-◌, ◌∙◌, sym, ap, arith}
use Rattle.rx_sendwin.specs.Marks.{is_acked_by, flight_by}
use Rattle.rx_sendwin.proofs.Counts.{flight_none, flight_cut}
use Rattle.rx_sendwin.proofs.marks.count_in_flight.Goals as goal

pub loop-i-init : goal.loop-i-init
loop-i-init c =
    let none = flight_none c.args.acked c.args.marks.now (c.args.acked + 0) (omega arith) in
    record { most = omega arith; so_far = omega (arith, none) }

pub returns-clause-value : goal.returns-clause-value
returns-clause-value c =
    let known = is_acked_by c.args.acked c.args.marks.now in
    let upto = c.last_known-known.result in
    let ensured = c.last_known-known.ensures in
    let end : c.args.acked + c.loop-i.i ≡ upto = (
    omega (arith, c.loop-i-test.false, c.loop-i.auto.i-end, ensured.least)) in
    let so : c.loop-i.n ≡ flight_by known upto + (c.args.given - upto) = (
    c.loop-i.invariant.so_far ∙ ap (λ k. flight_by known k + (c.args.given - upto)) end) in
    so ∙ sym (flight_cut known upto c.args.given ensured.most ensured.past)
