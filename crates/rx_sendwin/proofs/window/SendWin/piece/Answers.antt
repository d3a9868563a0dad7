use Rattle.std.proofs.Common.{◌≡◌, ◌<◌, ◌+◌, ◌-◌, ◌∙◌, ap, sym, subst, arith, length, suc, true}
use Rattle.rx_rules.specs.Sent.{payload_at}
use Rattle.rx_pool.specs.Pool.{has}
use Rattle.rx_sendwin.specs.Window.{SendWindow, piece_slots}
use Rattle.rx_sendwin.proofs.PieceLaws.{sized_at, has_at, get_seen}
use Rattle.rx_sendwin.proofs.window.SendWin.piece.Goals as goal

pub payload-requires-clause-of : goal.payload-requires-clause-of
payload-requires-clause-of c =
    let hs = c.self.inside.pieces.items in
    let place = c.args.seq - c.self.inside.acked - 1 in
    let above = (rw (← c.self.view_is) at c.requires.above) in
    let held = (rw (← c.self.view_is) at c.requires.held) in
    let less : place < length hs = omega (arith, above, held) in
    let h = c.index-held.result.now in
    let there = has_at hs place h c.index-held.ensures less in
    c.requires.holds.of h.slot (subst (λ (w : SendWindow). has h.slot (piece_slots w) ≡ true) c.self.view_is there)

pub payload-requires-clause-size : goal.payload-requires-clause-size
payload-requires-clause-size c =
    let hs = c.self.inside.pieces.items in
    let place = c.args.seq - c.self.inside.acked - 1 in
    let above = (rw (← c.self.view_is) at c.requires.above) in
    let held = (rw (← c.self.view_is) at c.requires.held) in
    let less : place < length hs = omega (arith, above, held) in
    sized_at hs place c.index-held.result.now c.index-held.ensures less c.self.invariant.1.sized

pub returns-clause-payload : goal.returns-clause-payload
returns-clause-payload c =
    let hs = c.self.inside.pieces.items in
    let place = c.args.seq - c.self.inside.acked - 1 in
    let above = (rw (← c.self.view_is) at c.requires.above) in
    let held = (rw (← c.self.view_is) at c.requires.held) in
    let less : place < length hs = omega (arith, above, held) in
    let here : suc (c.self.inside.acked + place) ≡ c.args.seq = omega (arith, above) in
    let seen = get_seen c.args.pool.now hs place c.index-held.result.now c.index-held.ensures less in
    rw (← c.self.view_is) (λ s st. c.payload.ensures ∙ sym seen ∙ st.pieces place ∙ ap (payload_at s.said) here)

pub returns-clause-last : goal.returns-clause-last
returns-clause-last c = λ s st. c.is_last.ensures c.args.pool.now s st
