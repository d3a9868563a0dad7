use Rattle.std.proofs.Common.{◌∙◌, ap, sym}
use Rattle.rx_call.specs.Choosing.{first_ack, least_piece, piece_sending, chosen_by}
use Rattle.rx_call.specs.Standing.{view_of, owed_ack}
use Rattle.rx_call.proofs.Firsts.{next_is, ack_given, piece_first, ack_first, ack_later, ack_alone}
use Rattle.rx_call.proofs.call.Call.next_ack.Goals as goal

pub returns-then-ack-now : goal.returns-then-ack-now
returns-then-ack-now c =
    let client = c.args.self.now.client in
    λ pool k left st.
    let ack = (λ i. first_ack client (sym st.spoke i) (sym st.owed i)) ∙ sym c.in_ok-ack.ensures in
    next_is (view_of c.args.self.now left c.args.now) k
    ∙ (λ i. chosen_by (ack_given c.args.now (least_piece k) (ack i)) (piece_sending c.args.now k))
    ∙ ap (λ o. chosen_by o (piece_sending c.args.now k))
    (ack_later c.args.now (least_piece k) (owed_ack c.in_ok-ack.ack) c.if-ack-now.true)

pub returns-then-rank-ack : goal.returns-then-rank-ack
returns-then-rank-ack c =
    let client = c.args.self.now.client in
    λ pool k left st.
    let ack = (λ i. first_ack client (sym st.spoke i) (sym st.owed i)) ∙ sym c.in_ok-ack.ensures in
    let piece = sym (c.piece_due.ensures pool k st) ∙ c.in-Some.is in
    next_is (view_of c.args.self.now left c.args.now) k
    ∙ (λ i. chosen_by (ack_given c.args.now (piece i) (ack i)) (piece_sending c.args.now k))
    ∙ ap (λ o. chosen_by o (piece_sending c.args.now k))
    (piece_first c.args.now c.in-Some.rank (owed_ack c.in_ok-ack.ack) c.if-rank-ack.true)

pub returns-else-rank-ack : goal.returns-else-rank-ack
returns-else-rank-ack c =
    let client = c.args.self.now.client in
    λ pool k left st.
    let ack = (λ i. first_ack client (sym st.spoke i) (sym st.owed i)) ∙ sym c.in_ok-ack.ensures in
    let piece = sym (c.piece_due.ensures pool k st) ∙ c.in-Some.is in
    next_is (view_of c.args.self.now left c.args.now) k
    ∙ (λ i. chosen_by (ack_given c.args.now (piece i) (ack i)) (piece_sending c.args.now k))
    ∙ ap (λ o. chosen_by o (piece_sending c.args.now k))
    (ack_first c.args.now c.in-Some.rank (owed_ack c.in_ok-ack.ack) c.if-ack-now.false c.if-rank-ack.false)

pub returns-in-None : goal.returns-in-None
returns-in-None c =
    let client = c.args.self.now.client in
    λ pool k left st.
    let ack = (λ i. first_ack client (sym st.spoke i) (sym st.owed i)) ∙ sym c.in_ok-ack.ensures in
    let piece = sym (c.piece_due.ensures pool k st) ∙ c.in-None.is in
    next_is (view_of c.args.self.now left c.args.now) k
    ∙ (λ i. chosen_by (ack_given c.args.now (piece i) (ack i)) (piece_sending c.args.now k))
    ∙ ap (λ o. chosen_by o (piece_sending c.args.now k))
    (ack_alone c.args.now (owed_ack c.in_ok-ack.ack) c.if-ack-now.false)
