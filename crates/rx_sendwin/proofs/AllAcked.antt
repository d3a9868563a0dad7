-- All pieces are acknowledged.
use Rattle.std.proofs.Common.{◌≡◌, ◌≤◌, ◌+◌, ◌-◌, Bool, false, ℕ, suc}
use Rattle.std.proofs.Common.{List, []}
use Rattle.std.proofs.Common.{length, get_or, drop, sym, ap, subst, ◌∙◌, arith}
use Rattle.std.proofs.lemmas.List.{length-drop}
use Rattle.rx_model.specs.declared.wire.TheConstants.{MAX_WINDOW}
use Rattle.rx_rules.specs.Sent.{Sent, pieces_by}
use Rattle.rx_rules.specs.Sent.{after_all}
use Rattle.rx_pool.specs.Pool.{Slots}
use Rattle.rx_sendwin.specs.declared.piece.HeldPiece.{HeldPiece}
use Rattle.rx_sendwin.specs.Marks.{leading_marks}
use Rattle.rx_sendwin.specs.Pieces.{AllSized, AllTimed}
use Rattle.rx_sendwin.specs.Window.{SendWindow, StandsSent, IsTied}
use Rattle.rx_sendwin.proofs.Counts.{flight_none}
use Rattle.rx_sendwin.proofs.Standing.{pieces_is}
use Rattle.rx_sendwin.proofs.Acknowledging.{dropped_stands, sized_drop, timed_drop}

-- ---- all pieces are acknowledged

pub all_tied : (w : SendWindow) (low flight : ℕ) (soft : List Bool) (pieces : List HeldPiece) → IsTied w low flight →
    w.given ≡ pieces_by w.total w.shut → soft ≡ [] → pieces ≡ drop (length w.pieces) w.pieces →
    IsTied (record w { acked = w.given; soft = soft; pieces = pieces }) 0 0
all_tied w low flight soft pieces tied all soft_is is =
    let none = length-drop (length w.pieces) w.pieces in
    let size : length pieces ≡ 0 = ap length is ∙ none ∙ omega arith in
    record {
      least = tied.least;
      most = tied.most;
      held = omega (arith, size, all);
      within = omega (arith, size);
      filling = λ lt. absurd (omega (arith, lt, size));
      fits = tied.fits;
      given_most = tied.given_most;
      acked_most = omega arith;
      quiet = λ i past. ap (λ ms. get_or ms i false) soft_is;
      lowest = sym (ap leading_marks soft_is);
      in_flight = sym (flight_none w.given soft w.given (omega arith));
      sized = subst AllSized (sym is) (sized_drop (length w.pieces) w.pieces tied.sized);
      timed = subst AllTimed (sym is) (timed_drop (length w.pieces) w.pieces tied.timed);
      marks = subst (λ ms. length ms ≤ MAX_WINDOW) (sym soft_is) (omega arith);
      peer = tied.peer;
      orders = tied.orders;
      since = tied.since;
    }

module _ (old new : Slots) (w : SendWindow) (s : Sent) (low flight : ℕ) (soft : List Bool) (pieces : List HeldPiece)
  where
    pub all_stands : StandsSent old w s → IsTied w low flight → w.given ≡ pieces_by w.total w.shut
        → new.bytes ≡ old.bytes
        → soft ≡ [] → pieces ≡ drop (length w.pieces) w.pieces
        → StandsSent new (record w { acked = w.given; soft = soft; pieces = pieces }) (after_all s)
    all_stands st tied all same soft_is is =
        let held = tied.held in
        let least = tied.acked_most in
        let quiet : (i : ℕ) → get_or soft i false ≡ s.soft (suc (w.given + i)) = (λ i.
        let j = w.given - w.acked + i in
        let at : w.acked + j ≡ w.given + i = omega (arith, least) in
        ap (λ ms. get_or ms i false) soft_is ∙ sym (tied.quiet j (omega (arith, least))) ∙ st.soft j
        ∙ ap (λ k. s.soft (suc k)) at) in
        let after : SendWindow = record w { acked = w.given; soft = soft; pieces = pieces } in
        subst (λ (k : ℕ). StandsSent new after (record s { acked = k })) (all ∙ pieces_is old w s st)
        (dropped_stands old new w s w.given (length w.pieces) w.peer_window soft pieces s.soft s.peer_window st
        (omega (arith, held, all)) same is quiet st.peer)
