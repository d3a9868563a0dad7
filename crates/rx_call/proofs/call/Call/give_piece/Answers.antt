use Rattle.std.proofs.Common.{ap, sym, subst, arith, length}
use Rattle.rx_sendwin.specs.Window.{SendWindow, CanBeSent}
use Rattle.rx_sendwin.proofs.PieceLaws.{slots_count}
use Rattle.rx_call.specs.declared.giving.Giving.TheVariants as givings
use Rattle.rx_call.specs.Standing.{EndOfCall}
use Rattle.rx_call.proofs.Parts.{piece_given}
use Rattle.rx_call.proofs.call.Call.give_piece.Goals as goal

pub sent-requires-clause-piece : goal.sent-requires-clause-piece
sent-requires-clause-piece c =
    subst (λ (w : SendWindow). CanBeSent w c.args.piece.seq) (ap (λ (e : EndOfCall). e.sent) (sym c.self-2.view_is))
    (c.mark_late.ensures.piece c.args.piece.seq
    (subst (λ (w : SendWindow). CanBeSent w c.args.piece.seq) (sym c.slow.ensures.sent) c.requires.piece))

pub returns-clause-result : goal.returns-clause-result
returns-clause-result c =
    rw (← c.self.view_is) (λ pool k st.
    ap (λ b. givings.Piece c.args.piece.seq c.args.piece.asks b) (c.is_last-last.ensures pool k.sent st.sent))

pub returns-clause-stands : goal.returns-clause-stands
returns-clause-stands c =
    λ pool k st up half.
    let timed = (rw (← c.self-2.view_is) at c.mark_late.ensures.stands pool _ (c.slow.ensures.stands pool k st)) in
    piece_given pool _ k c.sent.new.self c.args.now c.args.piece.seq c.args.piece.up c.args.piece.half up half timed
    (c.sent.ensures.stands pool _ timed.sent)

pub returns-clause-held : goal.returns-clause-held
returns-clause-held c =
    let may : CanBeSent c.self-2.inside.sent c.args.piece.seq = (
    subst (λ (w : SendWindow). CanBeSent w c.args.piece.seq) (ap (λ (e : EndOfCall). e.sent) (sym c.self-2.view_is))
    (c.mark_late.ensures.piece c.args.piece.seq
    (subst (λ (w : SendWindow). CanBeSent w c.args.piece.seq) (sym c.slow.ensures.sent) c.requires.piece))) in
    let above = may.above in
    let held = may.held in
    let before = slots_count c.self-2.inside.sent.pieces in
    let after = slots_count c.sent.new.self.pieces in
    let same = ap length c.sent.ensures.slots in
    λ pool k st.
    let timed = (rw (← c.self-2.view_is) at c.mark_late.ensures.stands pool _ (c.slow.ensures.stands pool k st)) in
    let was = timed.sent.acked in
    let is = (c.sent.ensures.stands pool _ timed.sent).acked in
    record {
      above = omega (arith, above, was, is);
      within = omega (arith, held, was, is, before, after, same);
    }
