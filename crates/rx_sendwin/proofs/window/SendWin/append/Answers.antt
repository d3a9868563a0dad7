use Rattle.std.proofs.Common.{◌≡◌, ◌≤◌, ◌+◌, ◌-◌, ◌/◌, ◌∙◌, length, ap, arith}
use Rattle.std.proofs.Common.{deque_len, subst, Bool, map, get_or, None, rules}
use Rattle.rx_rules.specs.Lost.{order_by}
use Rattle.rx_rules.specs.Sent.{pieces_by, counting_by}
use Rattle.rx_sendwin.specs.Lost.{order_in}
use Rattle.rx_sendwin.specs.Pieces.{giving_at}
use Rattle.rx_sendwin.proofs.LostStanding.{lost_same}
use Rattle.rx_sendwin.proofs.Payloads.{none_behind}
use Rattle.rx_sendwin.proofs.PieceLaws.{slots_count}
use Rattle.rx_sendwin.proofs.WriteLaws.{push_stands, fill_stands}
use Rattle.rx_sendwin.proofs.window.SendWin.append.Goals as goal

pub invariant_of-self : goal.invariant_of-self
invariant_of-self c = (
  search rules,
  search rules,
  lost_same c.self.inside.acked c.self.inside.given c.self.inside.since c.self.inside.soft.items
      (order_in c.self.inside.pieces.items) (order_in c.push_piece.new.pieces.items) c.self.inside.lost
      (λ i. ap order_by (none_behind (map giving_at c.self.inside.pieces.items)
      (map giving_at c.push_piece.new.pieces.items) i c.push_piece.ensures.givings)) c.self.invariant.2,
)

pub invariant_of-self-else-at-eq0 : goal.invariant_of-self-else-at-eq0
invariant_of-self-else-at-eq0 c = (
  search rules,
  search rules,
  lost_same c.self.inside.acked c.self.inside.given c.self.inside.since c.self.inside.soft.items
      (order_in c.self.inside.pieces.items) (order_in c.fill_piece.new.pieces.items) c.self.inside.lost
      (λ i. ap (λ gs. order_by (get_or gs i None)) c.fill_piece.ensures.givings) c.self.invariant.2,
)

pub returns-then-at-eq0-clause-stands : goal.returns-then-at-eq0-clause-stands
returns-then-at-eq0-clause-stands c =
    let unshut = (rw (← c.self.view_is) at c.requires.unshut) in
    let held : c.self.inside.acked + length c.self.inside.pieces.items ≡ (c.self.inside.total + 1411) / 1412 = (
    c.self.invariant.1.held ∙ ap (pieces_by c.self.inside.total) unshut) in
    let piece = (rw (← c.self.view_is) at c.requires.piece) in
    rw (← c.self.view_is) (λ s st. push_stands c.args.pool.now c.push_piece.new.pool _ s c.args.chunk.now
    c.push_piece.new.pieces.items st c.push_piece.ensures.seen c.push_piece.ensures.givings
    (omega (arith, held, c.if-at-eq0.true)) (omega (arith, piece)))

pub returns-else-at-eq0-clause-stands : goal.returns-else-at-eq0-clause-stands
returns-else-at-eq0-clause-stands c =
    let unshut = (rw (← c.self.view_is) at c.requires.unshut) in
    let held : c.self.inside.acked + length c.self.inside.pieces.items ≡ (c.self.inside.total + 1411) / 1412 = (
    c.self.invariant.1.held ∙ ap (pieces_by c.self.inside.total) unshut) in
    let piece = (rw (← c.self.view_is) at c.requires.piece) in
    let len = c.self.inside.pieces.ok.0 in
    let sent : c.self.inside.given ≤ (c.self.inside.total - 1) / 1412 = (
    subst (λ (b : Bool). c.self.inside.given ≤ counting_by c.self.inside.total b) unshut
    c.self.invariant.1.given_most) in
    let acked = c.self.invariant.1.acked_most in
    let place = deque_len c.self.inside.pieces - 1 in
    rw (← c.self.view_is) (λ s st. fill_stands c.args.pool.now c.fill_piece.new.pool _ s c.args.chunk.now
    c.fill_piece.new.pieces.items place st c.fill_piece.ensures.seen c.fill_piece.ensures.givings
    (omega (arith, held, len, sent, acked, c.if-at-eq0.false))
    (omega (arith, held, len, sent, acked, c.if-at-eq0.false))
    (omega (arith, held, len, sent, acked, piece, c.if-at-eq0.false)))

pub returns-then-at-eq0-clause-held : goal.returns-then-at-eq0-clause-held
returns-then-at-eq0-clause-held c =
    let unshut = (rw (← c.self.view_is) at c.requires.unshut) in
    let piece = (rw (← c.self.view_is) at c.requires.piece) in
    let held : c.self.inside.acked + length c.self.inside.pieces.items ≡ (c.self.inside.total + 1411) / 1412 = (
    c.self.invariant.1.held ∙ ap (pieces_by c.self.inside.total) unshut) in
    let size = slots_count c.push_piece.new.pieces.items in
    omega (
      arith,
      held,
      size,
      c.self.inside.pieces.ok.0,
      c.push_piece.new.pieces.ok.0,
      c.push_piece.ensures.len,
      c.if-at-eq0.true,
      c.requires.some,
      piece,
    )

pub returns-else-at-eq0-clause-held : goal.returns-else-at-eq0-clause-held
returns-else-at-eq0-clause-held c =
    let unshut = (rw (← c.self.view_is) at c.requires.unshut) in
    let piece = (rw (← c.self.view_is) at c.requires.piece) in
    let held : c.self.inside.acked + length c.self.inside.pieces.items ≡ (c.self.inside.total + 1411) / 1412 = (
    c.self.invariant.1.held ∙ ap (pieces_by c.self.inside.total) unshut) in
    let size = slots_count c.fill_piece.new.pieces.items in
    omega (
      arith,
      held,
      size,
      c.self.inside.pieces.ok.0,
      c.fill_piece.new.pieces.ok.0,
      c.fill_piece.ensures.len,
      c.if-at-eq0.false,
      c.requires.some,
      piece,
    )
