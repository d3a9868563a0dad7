use Rattle.std.proofs.Common.{◌≡◌, ◌<◌, ◌+◌, ◌-◌, ◌∙◌, ap, sym, arith, length, suc}
use Rattle.rx_rules.specs.Lost.{is_once}
use Rattle.rx_rules.specs.Sent.{last_giving}
use Rattle.rx_sendwin.specs.Pieces.{as_giving}
use Rattle.rx_sendwin.proofs.GivenLaws.{giving_read}
use Rattle.rx_sendwin.proofs.window.SendWin.is_once.Goals as goal

pub returns-in-Some : goal.returns-in-Some
returns-in-Some c =
    let hs = c.self.inside.pieces.items in
    let may = (rw (← c.self.view_is) at c.requires) in
    let above = may.above in
    let held = may.held in
    let place = c.args.seq - c.self.inside.acked - 1 in
    let less : place < length hs = omega (arith, above, held) in
    let here : suc (c.self.inside.acked + place) ≡ c.args.seq = omega (arith, above) in
    let read = giving_read hs place c.index.result.now c.index.ensures less in
    rw (← c.self.view_is) (λ pool s st. ap is_once (sym (ap as_giving c.in-Some.is) ∙ sym read ∙ st.givings place
    ∙ ap (last_giving s.givings) here))

pub returns-in-None : goal.returns-in-None
returns-in-None c =
    let hs = c.self.inside.pieces.items in
    let may = (rw (← c.self.view_is) at c.requires) in
    let above = may.above in
    let held = may.held in
    let place = c.args.seq - c.self.inside.acked - 1 in
    let less : place < length hs = omega (arith, above, held) in
    let here : suc (c.self.inside.acked + place) ≡ c.args.seq = omega (arith, above) in
    let read = giving_read hs place c.index.result.now c.index.ensures less in
    rw (← c.self.view_is) (λ pool s st. ap is_once (sym (ap as_giving c.in-None.is) ∙ sym read ∙ st.givings place
    ∙ ap (last_giving s.givings) here))
