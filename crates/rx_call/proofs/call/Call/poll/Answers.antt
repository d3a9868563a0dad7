use Rattle.std.proofs.Common.{◌≡◌, ◌-◌, ◌∙◌, ap, sym, subst, Some, None, Option}
use Rattle.rx_rules.specs.CallItems as items
use Rattle.rx_rules.specs.CallItems.{next_sending}
use Rattle.rx_rules.specs.Owing.{owed_for_given}
use Rattle.rx_rules.specs.Sent.{piece_at}
use Rattle.rx_sendwin.specs.Next.{next_piece}
use Rattle.rx_sendwin.specs.declared.next.NextPiece.{NextPiece}
use Rattle.rx_call.specs.declared.giving.Giving.TheVariants as givings
use Rattle.rx_call.specs.declared.giving.Giving.{Giving}
use Rattle.rx_call.specs.declared.owing.OwedAck.{OwedAck}
use Rattle.rx_call.specs.Choosing.{chosen_by, piece_sending}
use Rattle.rx_call.specs.Standing.{giving_of, slots_of, owed_of, view_of, HoldsGiven}
use Rattle.rx_call.proofs.Parts.{ack_told, given_one}
use Rattle.rx_call.proofs.Pieces.{next_told, told, IsTold}
use Rattle.rx_call.proofs.call.Call.poll.Goals as goal

pub returns-in-Some-clause-answered : goal.returns-in-Some-clause-answered
returns-in-Some-clause-answered c = λ pool k left st. sym (ap (giving_of k) (c.in-Some.ensures pool k left st))

pub returns-in-Some-clause-stands : goal.returns-in-Some-clause-stands
returns-in-Some-clause-stands c =
    λ pool k left st.
    let here = (rw (← c.self.view_is) at st) in
    let tells = c.tells_hole.ensures pool k st in
    let silent = c.saturating_sub-silent.ensures ∙ (λ i. c.args.now - here.heard i) in
    let owed = (
    c.owe_for_given-self-inside.ensures
    ∙ (λ i. owed_for_given c.args.now (tells i) (silent i))) in
    given_one pool _ k c.args.now _ _ (c.in-Some.ensures pool k left st) (ack_told pool _ k c.args.now _ owed here)

pub returns-in-Some-clause-slots : goal.returns-in-Some-clause-slots
returns-in-Some-clause-slots c = ap slots_of c.self.view_is

pub returns-in_err-piece-clause-answered : goal.returns-in_err-piece-clause-answered
returns-in_err-piece-clause-answered c =
    λ pool k left st.
    let now = c.args.now in
    let here = (rw (← c.self.view_is) at st) in
    let rto : c.rto.result ≡ k.rtt.rto = c.rto.ensures.value ∙ (λ i. (here.rtt i).rto) in
    let window = (
    c.next.ensures.answered pool k.sent here.sent ∙ (λ i. next_piece now (rto i) (here.cwnd i) k.sent)) in
    let all : next_sending (view_of c.args.self.now left now) k ≡ None = (
    c.next_ack.ensures pool k left st
    ∙ ap (λ (o : Option OwedAck). chosen_by (owed_of o) (piece_sending now k)) c.in_default.is
    ∙ (next_told now k).0 ∙ ap told (sym window ∙ c.in_err-piece.was)) in
    c.from_residual.ensures ∙ ap (giving_of k) (sym all)

pub returns-in_err-piece-clause-stands : goal.returns-in_err-piece-clause-stands
returns-in_err-piece-clause-stands c =
    λ pool k left st.
    let now = c.args.now in
    let here = (rw (← c.self.view_is) at st) in
    let rto : c.rto.result ≡ k.rtt.rto = c.rto.ensures.value ∙ (λ i. (here.rtt i).rto) in
    let window = (
    c.next.ensures.answered pool k.sent here.sent ∙ (λ i. next_piece now (rto i) (here.cwnd i) k.sent)) in
    let all : next_sending (view_of c.args.self.now left now) k ≡ None = (
    c.next_ack.ensures pool k left st
    ∙ ap (λ (o : Option OwedAck). chosen_by (owed_of o) (piece_sending now k)) c.in_default.is
    ∙ (next_told now k).0 ∙ ap told (sym window ∙ c.in_err-piece.was)) in
    given_one pool _ k now _ None all st

pub returns-clause-answered : goal.returns-clause-answered
returns-clause-answered c =
    λ pool k left st.
    let now = c.args.now in
    let here = (rw (← c.self.view_is) at st) in
    let rto : c.rto.result ≡ k.rtt.rto = c.rto.ensures.value ∙ (λ i. (here.rtt i).rto) in
    let window = (
    c.next.ensures.answered pool k.sent here.sent ∙ (λ i. next_piece now (rto i) (here.cwnd i) k.sent)) in
    let p = c.in_ok-piece.piece in
    let all : next_sending (view_of c.args.self.now left now) k ≡ Some (items.Piece p.seq p.again) = (
    c.next_ack.ensures pool k left st
    ∙ ap (λ (o : Option OwedAck). chosen_by (owed_of o) (piece_sending now k)) c.in_default.is
    ∙ (next_told now k).0 ∙ ap told (sym window ∙ c.in_ok-piece.was)) in
    let right = (
    subst (λ (n : Option NextPiece). IsTold k.cwnd k.sent n) (sym window ∙ c.in_ok-piece.was) (next_told now k).1) in
    let last = (piece_at k.sent p.seq).last in
    ap (λ (g : Giving). Some g) (c.give_piece.ensures.result pool k st)
    ∙ ap (λ b. Some (givings.Piece p.seq b last)) right.0 ∙ ap (giving_of k) (sym all)

pub returns-clause-stands : goal.returns-clause-stands
returns-clause-stands c =
    λ pool k left st.
    let now = c.args.now in
    let here = (rw (← c.self.view_is) at st) in
    let rto : c.rto.result ≡ k.rtt.rto = c.rto.ensures.value ∙ (λ i. (here.rtt i).rto) in
    let window = (
    c.next.ensures.answered pool k.sent here.sent ∙ (λ i. next_piece now (rto i) (here.cwnd i) k.sent)) in
    let p = c.in_ok-piece.piece in
    let all : next_sending (view_of c.args.self.now left now) k ≡ Some (items.Piece p.seq p.again) = (
    c.next_ack.ensures pool k left st
    ∙ ap (λ (o : Option OwedAck). chosen_by (owed_of o) (piece_sending now k)) c.in_default.is
    ∙ (next_told now k).0 ∙ ap told (sym window ∙ c.in_ok-piece.was)) in
    let right = (
    subst (λ (n : Option NextPiece). IsTold k.cwnd k.sent n) (sym window ∙ c.in_ok-piece.was) (next_told now k).1) in
    given_one pool _ k now _ _ all (c.give_piece.ensures.stands pool k st right.1 right.2)

pub returns-clause-held : goal.returns-clause-held
returns-clause-held c =
    λ pool k st. subst (λ (g : Giving). HoldsGiven c.give_piece.new.self (Some g))
    (sym (c.give_piece.ensures.result pool k st))
    (c.give_piece.ensures.held pool k st)
