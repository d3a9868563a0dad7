use Rattle.std.proofs.Common.{◌≡◌, ◌<◌, ◌+◌, ◌-◌, ◌∙◌, ap, sym, arith, length, suc, Some, List, Bool, Option}
use Rattle.std.specs.Prelude.{option_and_then}
use Rattle.rx_rules.specs.Sent.{last_giving, round_trip, pieces_by}
use Rattle.rx_rules.specs.Sent as rules
use Rattle.rx_sendwin.specs.Marks.{is_acked_by, highest_by, trip_at}
use Rattle.rx_sendwin.proofs.Standing.{counting_most}
use Rattle.rx_sendwin.proofs.GivenLaws.{giving_read}
use Rattle.rx_sendwin.proofs.window.SendWin.newly.Goals as goal

pub returns-in-Some-clause-sample : goal.returns-in-Some-clause-sample
returns-in-Some-clause-sample c =
    let hs = c.self.inside.pieces.items in
    let acked = c.self.inside.acked in
    let given = c.self.inside.given in
    let tied = c.self.invariant.1 in
    let seq = c.in-Some.seq in
    let place = seq - acked - 1 in
    let held = tied.held in
    let most = tied.given_most in
    let counted = counting_most c.self.inside.total c.self.inside.shut in
    let less : place < length hs = (
    omega (arith, c.in-Some.ensures.above, c.in-Some.ensures.within, held, most, counted)) in
    let here : suc (acked + place) ≡ seq = omega (arith, c.in-Some.ensures.above) in
    let after = is_acked_by (c.args.first - 1) c.args.marks.now in
    let top : highest_by (is_acked_by acked c.self.inside.soft.items) after given ≡ Some seq = (
    ap (λ (soft : List Bool). highest_by (is_acked_by acked soft) after given) (sym c.as_slice-soft.ensures.value)
    ∙ sym c.highest_newly.ensures.value ∙ c.in-Some.is) in
    let read = giving_read hs place c.index.result.now c.index.ensures less in
    rw (← c.self.view_is) (λ pool s st. c.trip-sample.ensures
    ∙ ap (λ (o : Option rules.LastGiving). option_and_then (round_trip c.args.now) o)
    (sym read ∙ st.givings place ∙ ap (last_giving s.givings) here)
    ∙ ap (trip_at c.args.now s.givings) (sym top))
