use Rattle.std.proofs.Common.{◌≡◌, ◌∙◌, ℕ, Some, None, ap, sym}
use Rattle.rx_call.specs.Choosing.{first_ack, least_piece}
use Rattle.rx_call.specs.Standing.{owed_of}
use Rattle.rx_call.proofs.Firsts.{due_is, lesser_rank, rank_alone}
use Rattle.rx_call.proofs.call.Call.due.Goals as goal

pub returns-in-Some-piece_due : goal.returns-in-Some-piece_due
returns-in-Some-piece_due c =
    λ pool k st.
    let client = c.args.self.now.client in
    let ack : first_ack client k.spoke k.owed_ack ≡ owed_of (Some c.in-Some.ack) = (
    (λ i. first_ack client (sym st.spoke i) (sym st.owed i)) ∙ sym c.first_ack.ensures ∙ ap owed_of c.in-Some.is) in
    let piece = sym (c.piece_due.ensures pool k st) ∙ c.in-Some-piece_due.is in
    ap (λ (n : ℕ). Some n) c.min.ensures ∙ sym (due_is client k ∙ (λ i. lesser_rank (piece i) (ack i)))

pub returns-in-None-piece_due : goal.returns-in-None-piece_due
returns-in-None-piece_due c =
    λ pool k st.
    let client = c.args.self.now.client in
    let ack : first_ack client k.spoke k.owed_ack ≡ owed_of (Some c.in-Some.ack) = (
    (λ i. first_ack client (sym st.spoke i) (sym st.owed i)) ∙ sym c.first_ack.ensures ∙ ap owed_of c.in-Some.is) in
    let piece = sym (c.piece_due.ensures pool k st) ∙ c.in-None-piece_due.is in
    sym (due_is client k ∙ (λ i. lesser_rank (piece i) (ack i)))

pub returns-in-None : goal.returns-in-None
returns-in-None c =
    λ pool k st.
    let client = c.args.self.now.client in
    let none : first_ack client k.spoke k.owed_ack ≡ None = (
    (λ i. first_ack client (sym st.spoke i) (sym st.owed i)) ∙ sym c.first_ack.ensures ∙ ap owed_of c.in-None.is) in
    c.piece_due-in-None.ensures pool k st
    ∙ sym (due_is client k ∙ ap (lesser_rank (least_piece k)) none ∙ rank_alone (least_piece k))
