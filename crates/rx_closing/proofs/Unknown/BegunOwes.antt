-- A call that its server doesn't know behind the deliveries of a round isn't known behind the round; and where it began
-- there by a piece and works there behind the round, its server owes an answer that is due within 100 ms.
use Rattle.std.proofs.Common.{◌≡◌, ◌+◌, ◌++◌, ℕ, zero, suc, true, false, List, [], ◌∷◌, Option, Some, None, refl, sym}
use Rattle.std.proofs.Common.{subst, ◌∙◌, arith}
use Rattle.std.specs.Prelude.{slice_get}
use Rattle.rx_model.specs.declared.names.CallName.{CallName}
use Rattle.rx_model.specs.declared.wire.TheConstants.{ACK_DELAY_MS}
use Rattle.rx_model.specs.Message.{Message}
use Rattle.rx_rules.specs.Judging.{is_data}
use Rattle.rx_rules.specs.Life.{is_active}
use Rattle.rx_rules.specs.Looks.{CallRecord, Looks}
use Rattle.rx_rules.specs.Setup.{FitsSetup}
use Rattle.rx_history.specs.Sides.{Node, moment}
use Rattle.rx_history.proofs.Moments.{now-side}
use Rattle.rx_law.proofs.World.{if-some}
use Rattle.rx_jobs.specs.Handlers.{Handlers}
use Rattle.rx_script.specs.declared.plan.Numbered.{Numbered}
use Rattle.rx_plan.specs.Answering.{AreServable}
use Rattle.rx_plan.specs.Stages.{Stage}
use Rattle.rx_plan.proofs.Driven.{seen}
use Rattle.rx_plan.proofs.Followed.{IsFollowed}
use Rattle.rx_rounds.proofs.Rounded.{RoundMade}
use Rattle.rx_closing.specs.Living.{looks_of}
use Rattle.rx_closing.proofs.Callers.CallersHold.{round_followed}
use Rattle.rx_closing.proofs.Callers.CallersLeave.{served_stays}
use Rattle.rx_closing.proofs.Ends.FitAlways.{fresh_fit}
use Rattle.rx_closing.proofs.Ends.HeardSoon.{OwesBy}
use Rattle.rx_closing.proofs.Ends.SaysPieces.{Tail, speaks_tail}
use Rattle.rx_closing.proofs.Ends.Speaks.{DueBy, polls_speak, takes_hear, turn_hears}
use Rattle.rx_closing.proofs.Far.AtWork.{AtWork, IsServing, ends_of, one_record, served_then, serves_of, worked_from}
use Rattle.rx_closing.proofs.Far.FarStands.{served_further}
use Rattle.rx_closing.proofs.Frame.{IsPlain, served_in}
use Rattle.rx_closing.proofs.Living.RoundOnes.{AddsOver, RoundOnes, adds_over}
use Rattle.rx_closing.proofs.Messages.Opening.{begun_record}
use Rattle.rx_closing.proofs.Rounds.Chains.{RoundAdds, round_adds}
use Rattle.rx_closing.proofs.Rounds.RoundMoments.{MomentsStay, moments_stay}
use Rattle.rx_closing.proofs.Rounds.Settles.{settles_call}
use Rattle.rx_closing.proofs.Server.ServerScene.{scene_serves, scene_turn}
use Rattle.rx_closing.proofs.Server.ServerTurn.{ServedTurn, served_lingers, served_quits, served_works}
use Rattle.rx_closing.proofs.Server.ServerTurn as turned
use Rattle.rx_closing.proofs.Server.TurnHere.{server_turns}
use Rattle.rx_closing.proofs.Steps.{TakesIn}
use Rattle.rx_closing.proofs.Unknown.UnservedMeet.{IsAsked}
use Rattle.rx_closing.proofs.Unknown.WaitsOn.{Waits}
use Rattle.rx_closing.proofs.Working.ClientRound.{client_later, gave, hushed, server_later}
use Rattle.rx_closing.proofs.Working.EndRounds.{RoundFor, ones, seen_polls}
use Rattle.rx_closing.proofs.Working.PassesOf.{sifted_none}

module _ (g : Handlers) (ls : List Numbered) (servable : AreServable g) (cs : List CallName) (c : CallName) (k : ℕ)
    (client server : Node) (s t : Stage) (r : RoundMade g s t) (i : RoundFor g ls cs c k client server s t r) where
  abbrev one : RoundOnes c k client server g s t r
  one = ones g ls servable cs c k client server s t r i

  adds : RoundAdds g s t r
  adds = round_adds g s t r

  over : AddsOver g s t r
  over = adds_over g s t r

  stay : MomentsStay g s t r
  stay = moments_stay g s t r

  abbrev follows : IsFollowed g ls (seen r.delivered)
  follows = (round_followed g ls s t r i.held).delivered

  -- the server's record stays behind the dispatcher's turn
  served_over : served_in c server t ≡ served_in c server r.served
  served_over =
      settles_call r.polled.given r.called t i.settles 0 server one.called.server_there c
      ∙ served_stays c server r.served r.called r.calls_are

  -- a call that isn't known behind the deliveries isn't known behind the round
  pub none_over : served_in c server r.delivered ≡ None → served_in c server t ≡ None
  none_over none =
      served_over
      ∙ of (scene_turn g ls c k client server r.delivered one.delivered follows servable r.served r.serves_are)
    where
      no : {A : Type 0} (x : CallRecord) → served_in c server r.delivered ≡ Some x → A
      no x some = absurd (let both : ◌≡◌ {A = Option CallRecord} None (Some x) = sym none ∙ some in cc (both))

      of : ServedTurn g server (scene_serves g ls c k client server r.delivered one.delivered follows) c
          r.delivered r.served → served_in c server r.served ≡ None
      of (turned.served_stays same idle first others) = same ∙ none
      of (served_works x f u rests) = no x u.was
      of (served_quits x f code was broke is now_ turns others) = no x was
      of (served_lingers x code was broke same before behind is waits_ less ended) = no x was

  module _ (a : IsAsked c k client s) (b : IsAsked c k client t) (since : ℕ)
      (w : Waits since (moment (suc k) s.history) a.call.looks) (front back : List Message) (piece : Message)
      (are : (seen_polls g ls servable cs c k client server s t r i).asks ≡ front ++ piece ∷ back)
      (data_ : is_data piece.body ≡ true) (x : CallRecord) (there : served_in c server r.delivered ≡ Some x)
      (takes : is_active x.life ≡ true → TakesIn server.setup (looks_of r.polled.stage 0 server).now
      (begun_record server.setup c (looks_of r.polled.stage 0 server).now).looks (piece ∷ back) x.looks)
      (work : AtWork c k client server t) where
    abbrev l : Looks
    l = looks_of r.polled.stage 0 server

    fits : FitsSetup server.setup
    fits =
        if-some (slice_get t.nodes 0) server (λ m. FitsSetup m.setup) i.over.server_there
        (i.over.world.sides.nodes_are.fits 0)

    steady : server.setup.prompt ≡ false
    steady = (if-some (slice_get t.nodes 0) server IsPlain i.over.server_there (i.over.plain 0)).unprompted

    now_l : l.now ≡ moment 0 s.history
    now_l = now-side server.setup 0 r.polled.stage.history ∙ stay.polled 0

    -- it works behind the deliveries
    works : is_active x.life ≡ true
    works =
        worked_from x work.served (served_in c server r.delivered) (served_in c server t) there work.served_is
        (served_further c k client server t i.over r.delivered over.delivered.more over.delivered.is) work.works

    tail : Tail (piece ∷ back)
    tail =
        (let gives = (gave g ls servable cs c k client server s t r i a b).worked in
        speaks_tail gives.sendings (seen_polls g ls servable cs c k client server s t r i).asks front back piece
        (polls_speak client.setup (moment (suc k) s.history) a.call.looks gives.sendings
        (seen_polls g ls servable cs c k client server s t r i).asks gives.end gives.gives) are data_)

    -- something was given
    some : r.polled.given ≡ [] → ⊥
    some none =
        more front
        (sym are ∙ sifted_none _ _ _ _ r.polled.given (seen_polls g ls servable cs c k client server s t r i).asks
        ((seen_polls g ls servable cs c k client server s t r i).asked
        (hushed g ls servable cs c k client server s t r i a b)) none)
      where
        more : (ms : List Message) → ms ++ piece ∷ back ≡ [] → ⊥
        more [] is = absurd (let no : ◌≡◌ {A = List Message} (piece ∷ back) [] = is in cc (no))
        more (m ∷ ms) is =
            absurd (let no : ◌≡◌ {A = List Message} (m ∷ (ms ++ piece ∷ back)) [] = is in cc (no))

    due : DueBy (moment 0 s.history + ACK_DELAY_MS) x.looks.owed_ack
    due =
        (let hears = takes_hear server.setup l.now (begun_record server.setup c l.now).looks tail.sendings
        (piece ∷ back) x.looks (takes works) tail.speaks (fresh_fit server.setup l.now fits steady) in
        subst (λ (n : ℕ). DueBy (n + ACK_DELAY_MS) x.looks.owed_ack) now_l (hears.piece tail.piece))

    -- ---- behind the turns

    at_delivered : IsServing c server r.delivered
    at_delivered = record { call = x; there = there; works = works }

    at_served : IsServing c server r.served
    at_served =
        served_then c k client server t i.over r.delivered r.served adds.served over.served
        (adds.served_nodes ∙ sym adds.nodes) at_delivered (serves_of c k client server t work)

    due_over : DueBy (moment 0 s.history + ACK_DELAY_MS) work.served.looks.owed_ack
    due_over =
        subst (λ (q : CallRecord). DueBy (moment 0 s.history + ACK_DELAY_MS) q.looks.owed_ack)
        (one_record at_served.call work.served (served_in c server t) (served_over ∙ at_served.there) work.served_is)
        ((turn_hears (looks_of r.delivered 0 server).now x.looks at_served.call.looks
        (server_turns g ls servable c k client server r.delivered r.served one.delivered one.served follows
        r.serves_are x at_served.call there works at_served.there)).due (moment 0 s.history + ACK_DELAY_MS) due)

    -- the clocks stay
    still : i.settles.time ≡ 0
    still = of i.settles.time refl
      where
        of : (n : ℕ) → i.settles.time ≡ n → n ≡ 0
        of zero is = refl
        of (suc n) is = absurd (some (i.settles.moves (omega (arith, is))))

    -- it owes an answer
    pub begun_owes : OwesBy (since + 1900) (ends_of c k client server t work)
    begun_owes =
        (let first = client_later g ls servable cs c k client server s t r i a b in
        let second = server_later g ls servable cs c k client server s t r i a b in
        let none = still in
        let near = w.near in let by = due_over.by in
        record {
          answers = record {
            owed = due_over.owed;
            is = due_over.is;
            soon = omega (arith, first, second, none, near, by);
          };
          within = omega (arith, first, none, near);
        })
