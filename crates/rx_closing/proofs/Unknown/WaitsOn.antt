-- A round in which a client heard nothing of a call that its server doesn't know as the round begins, and gave no piece
-- of it: the round ended within 4,000 ms of the moment since which the client gave none.
use Rattle.std.proofs.Common.{◌≡◌, ◌<◌, ◌≤◌, ◌+◌, ℕ, zero, suc, true, false, List, Option, None, refl, ap, sym, subst}
use Rattle.std.proofs.Common.{◌∙◌, inl, inr, arith}
use Rattle.std.proofs.lemmas.Bool.{cases_lt}
use Rattle.rx_model.specs.declared.names.CallName.{CallName}
use Rattle.rx_rules.specs.CallItems.{Piece, Sending}
use Rattle.rx_rules.specs.CallLooks.{CallLooks}
use Rattle.rx_rules.specs.Looks.{CallRecord}
use Rattle.rx_rules.specs.Received.{nothing_received}
use Rattle.rx_rules.specs.Sent.{Giving, Sent, counting_of, given_of, greatest_given, lowest_of}
use Rattle.rx_rules.specs.Setup.{is_client}
use Rattle.rx_history.specs.Sides.{Node, moment}
use Rattle.rx_history.proofs.Moments.{now-side}
use Rattle.rx_between.specs.Acknowledged.{AreTrue, received_by, sent_by}
use Rattle.rx_between.proofs.Marks.{front_reaches}
use Rattle.rx_jobs.specs.Handlers.{Handlers}
use Rattle.rx_script.specs.declared.plan.Numbered.{Numbered}
use Rattle.rx_plan.specs.Answering.{AreServable}
use Rattle.rx_plan.specs.Stages.{Stage}
use Rattle.rx_rounds.proofs.Rounded.{RoundMade}
use Rattle.rx_closing.proofs.Ends.BothEnds.{GivenBy, IsFit}
use Rattle.rx_closing.proofs.Ends.FrozenPolls.{SameSending, has_piece, polls_same, same_lowest}
use Rattle.rx_closing.proofs.Ends.FrozenRound.{SameTurn, turn_same}
use Rattle.rx_closing.proofs.Ends.NextGiven.{again_there}
use Rattle.rx_closing.proofs.Ends.Resting.{none_flying, none_left}
use Rattle.rx_closing.proofs.Ends.Speaks.{polls_leave, turn_hears}
use Rattle.rx_closing.proofs.Far.FarBounds.{call_agrees}
use Rattle.rx_closing.proofs.Frame.{served_in}
use Rattle.rx_closing.proofs.Living.RoundOnes.{RoundOnes}
use Rattle.rx_closing.proofs.Rounds.SceneEnds.{client_fits_at}
use Rattle.rx_closing.proofs.Steps.{GivesOut, TurnsOn}
use Rattle.rx_closing.proofs.Unknown.UnservedMeet.{IsAsked}
use Rattle.rx_closing.proofs.Working.ClientRound.{at, client_later, counts, fit_over, gave, waits}
use Rattle.rx_closing.proofs.Working.ClientRound as here
use Rattle.rx_closing.proofs.Working.EndRounds.{RoundFor, ones, seen_polls}

-- a call of a client that heard something at a moment or later and gave no piece since it, at a moment within 4,000 ms
pub record Waits (since now : ℕ) (x : CallLooks) : Type 0 where
  pub heard : since ≤ x.heard
  pub later : since ≤ now
  pub near : now ≤ since + 4000
  pub counts : 1 ≤ counting_of x.sent
  pub known : (j : ℕ) → 1 ≤ j → j ≤ given_of x.sent → GivenBy since x.sent.givings j

module _ (g : Handlers) (ls : List Numbered) (servable : AreServable g) (cs : List CallName) (c : CallName) (k : ℕ)
    (client server : Node) (s t : Stage) (r : RoundMade g s t) (i : RoundFor g ls cs c k client server s t r)
    (a : IsAsked c k client s) (b : IsAsked c k client t) where
  abbrev now_s : ℕ
  now_s = moment (suc k) s.history

  abbrev one : RoundOnes c k client server g s t r
  one = ones g ls servable cs c k client server s t r i

  -- where it heard something in the round, it waits since its beginning
  pub waits_begin : now_s ≤ b.call.looks.heard → Waits now_s (moment (suc k) t.history) b.call.looks
  waits_begin heard =
      record {
        heard = heard;
        later = (let own = client_later g ls servable cs c k client server s t r i a b in omega (arith, own));
        near = (let own = client_later g ls servable cs c k client server s t r i a b in let short = i.settles.short in
            omega (arith, own, short));
        counts = counts g ls servable cs c k client server s t r i a b;
        known = (fit_over g ls servable cs c k client server s t r i a b).known;
      }

  abbrev out : List Sending
  out = (gave g ls servable cs c k client server s t r i a b).worked.sendings

  abbrev end : CallLooks
  end = (gave g ls servable cs c k client server s t r i a b).worked.end

  module _ (since : ℕ) (w : Waits since now_s a.call.looks) (none : served_in c server s ≡ None) where
    gives : GivesOut client.setup now_s a.call.looks out
        (seen_polls g ls servable cs c k client server s t r i).asks end
    gives = (gave g ls servable cs c k client server s t r i a b).worked.gives

    fit : IsFit now_s a.call.looks
    fit =
        subst (λ (n : ℕ). IsFit n a.call.looks) (now-side client.setup (suc k) s.history)
        (client_fits_at c k client server s one.begins a.call a.there)

    truth : AreTrue a.call.looks.sent nothing_received
    truth =
        subst (λ (o : Option CallRecord). AreTrue a.call.looks.sent (received_by o)) none
        (subst (λ (o : Option CallRecord). AreTrue (sent_by o) (received_by (served_in c server s))) a.there
        (call_agrees s.nodes s.history one.begins.world one.begins.kept (suc k) client server c
        one.begins.client_there one.begins.client_is one.begins.server_there).request_true)

    module _ (piece : has_piece out ≡ false)
        (quiet : (at g ls servable cs c k client server s t r i a b).delivered.call.looks ≡ end) where
      -- a piece is in flight
      flying : lowest_of a.call.looks.sent ≤ given_of a.call.looks.sent
      flying =
          elim (cases_lt (given_of a.call.looks.sent) (lowest_of a.call.looks.sent)) as
          (λ e. lowest_of a.call.looks.sent ≤ given_of a.call.looks.sent) [
            | inl below ↦ absurd (let reaches = front_reaches a.call.looks.sent nothing_received truth in
                let acked = fit.acked in
                let all : a.call.looks.sent.acked ≡ given_of a.call.looks.sent = omega (arith, below, reaches, acked) in
                let left = none_left client.setup now_s a.call.looks end out
                (seen_polls g ls servable cs c k client server s t r i).asks gives piece fit all in
                let some = w.counts in
                omega (arith, below, reaches, left, some))
            | inr there ↦ omega (arith, there)
          ]

      -- the round began within 4,000 ms
      soon : now_s < since + 4000
      soon =
          elim (cases_lt now_s (since + 4000)) as (λ e. now_s < since + 4000) [
            | inl early ↦ early
            | inr late ↦ absurd (let below = none_flying client.setup now_s since a.call.looks end out
                (seen_polls g ls servable cs c k client server s t r i).asks gives piece fit w.known late in
                let there = flying in
                omega (arith, below, there))
          ]

      turns : TurnsOn now_s end b.call.looks
      turns =
          subst (λ (x : CallLooks). TurnsOn now_s x b.call.looks) quiet
          (here.turn g ls servable cs c k client server s t r i a b)

      same : SameTurn end b.call.looks
      same = turn_same now_s end b.call.looks turns

      polled_same : SameSending a.call.looks end
      polled_same =
          polls_same client.setup now_s a.call.looks out (seen_polls g ls servable cs c k client server s t r i).asks
          end gives piece

      givings : b.call.looks.sent.givings ≡ a.call.looks.sent.givings
      givings = same.givings ∙ ap (λ (x : Sent). x.givings) polled_same.sent

      top : given_of b.call.looks.sent ≡ given_of a.call.looks.sent
      top = ap (λ (gs : List Giving). greatest_given gs) givings

      heard_is : b.call.looks.heard ≡ a.call.looks.heard
      heard_is =
          (turn_hears now_s end b.call.looks turns).heard
          ∙ (polls_leave client.setup now_s a.call.looks out
          (seen_polls g ls servable cs c k client server s t r i).asks end gives).heard

      known_on : (j : ℕ) → 1 ≤ j → j ≤ given_of b.call.looks.sent → GivenBy since b.call.looks.sent.givings j
      known_on j low high =
          subst (λ (gs : List Giving). GivenBy since gs j) (sym givings)
          (w.known j low (let as_many = top in omega (arith, high, as_many)))

      lowest : lowest_of b.call.looks.sent ≡ lowest_of a.call.looks.sent
      lowest =
          same_lowest b.call.looks.sent a.call.looks.sent
          (same.acked ∙ ap (λ (x : Sent). x.acked) polled_same.sent)
          (same.soft ∙ ap (λ (x : Sent). x.soft) polled_same.sent) top

      -- and ended within 4,000 ms
      near_on : moment (suc k) t.history ≤ since + 4000
      near_on = of i.settles.time refl
        where
          of : (m : ℕ) → i.settles.time ≡ m → moment (suc k) t.history ≤ since + 4000
          of zero is =
              (let own = client_later g ls servable cs c k client server s t r i a b in let early = soon in
              omega (arith, own, is, early))
          of (suc m) is =
              (let own = client_later g ls servable cs c k client server s t r i a b in
              let low = lowest in let most = top in let there = flying in
              let before = known_on (lowest_of b.call.looks.sent) (omega arith) (omega (arith, low, most, there)) in
              let fits = fit_over g ls servable cs c k client server s t r i a b in
              let ahead = waits g ls servable cs c k client server s t r i a b (omega (arith, is))
              (record {
                rank = before.last.moment + b.call.looks.rtt.rto;
                sending = Piece (lowest_of b.call.looks.sent) true;
              })
              (again_there (is_client client.setup.kind) b.call.looks before.last fits.steady before.is) in
              let by = before.by in let rto = fits.soon in
              omega (arith, own, ahead, by, rto))

      pub waits_on : Waits since (moment (suc k) t.history) b.call.looks
      waits_on =
          record {
            heard = (let as_before = heard_is in let before = w.heard in omega (arith, as_before, before));
            later = (let up = client_later g ls servable cs c k client server s t r i a b in let before = w.later in
                omega (arith, up, before));
            near = near_on;
            counts = counts g ls servable cs c k client server s t r i a b;
            known = known_on;
          }
