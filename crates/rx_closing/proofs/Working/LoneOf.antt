-- A round as one end of a call has it whose other end gives nothing: it hears nothing, whatever other calls live.
use Rattle.std.proofs.Common.{◌≡◌, ◌+◌, ℕ, suc, Bool, true, false, List, [], ap, sym, subst, ◌∙◌, refl, arith}
use Rattle.rx_model.specs.declared.names.CallName.{CallName}
use Rattle.rx_model.specs.Message.{Message}
use Rattle.rx_rules.specs.CallLooks.{CallLooks}
use Rattle.rx_rules.specs.Life.{is_active}
use Rattle.rx_rules.specs.Setup.{Setup}
use Rattle.rx_history.specs.Sides.{Node, moment}
use Rattle.rx_history.proofs.Moments.{now-side}
use Rattle.rx_script.specs.declared.plan.Numbered.{Numbered}
use Rattle.rx_jobs.specs.Handlers.{Handlers}
use Rattle.rx_plan.specs.Answering.{AreServable}
use Rattle.rx_plan.specs.Stages.{Stage}
use Rattle.rx_rounds.proofs.Rounded.{RoundMade}
use Rattle.rx_closing.specs.Living.{looks_of}
use Rattle.rx_closing.proofs.Ends.BothEnds.{IsFit, Stood}
use Rattle.rx_closing.proofs.Ends.LoneEnd.{Lone, LoneRound}
use Rattle.rx_closing.proofs.Far.AtWork.{IsServing}
use Rattle.rx_closing.proofs.Frame.{OneOf}
use Rattle.rx_closing.proofs.Polls.Polled.{IsHushed, RestsAt}
use Rattle.rx_closing.proofs.Polls.PolledEnds.{end_rested, hushed_active}
use Rattle.rx_closing.proofs.Rounds.RoundMoments.{MomentsStay, moments_stay}
use Rattle.rx_closing.proofs.Rounds.SceneEnds.{client_fits_at, server_fits_at}
use Rattle.rx_closing.proofs.Rounds.Settles.{settles_moment}
use Rattle.rx_closing.proofs.Steps.{TakesIn, TurnsOn, takes_none, takes_one}
use Rattle.rx_closing.proofs.Unknown.UnservedMeet.{IsAsked}
use Rattle.rx_closing.proofs.Working.EndRounds.{AskedRound, EndRound, RoundFor, ServedRound, asked_round, gave_none_of}
use Rattle.rx_closing.proofs.Working.EndRounds.{ones, out_none, seen_polls, served_round}
use Rattle.rx_closing.proofs.Working.PassesOf.{sifted_none}

-- an end that takes nothing
pub taken_none : (s : Setup) (now : ℕ) (a b : CallLooks) (ms : List Message) → TakesIn s now a ms b → ms ≡ [] → b ≡ a
taken_none s now a b ms (takes_none k) none = refl
taken_none s now a b ms (takes_one k f m xs v got view row sense rest) none = absurd cc

-- an end and its clock
abbrev pub lone : CallLooks → ℕ → Lone
lone k now = record { end = k; now = now }

module _ (g : Handlers) (ls : List Numbered) (servable : AreServable g) (cs : List CallName) (c : CallName) (k : ℕ)
    (client server : Node) (s t : Stage) (r : RoundMade g s t) (i : RoundFor g ls cs c k client server s t r) where
  abbrev asks : List Message
  asks = (seen_polls g ls servable cs c k client server s t r i).asks

  abbrev answers : List Message
  answers = (seen_polls g ls servable cs c k client server s t r i).answers

  -- the round; it gives nothing of the call where nothing was given, and where it gives nothing, nothing of the call
  -- was said
  pub record LoneOf (setup : Setup) (e f : Lone) : Type 0 where
    pub round : LoneRound setup true e f
    pub quiet : r.polled.given ≡ [] → round.out ≡ []
    pub loud : round.out ≡ [] → (asks ≡ []) × (answers ≡ [])

  still : MomentsStay g s t r
  still = moments_stay g s t r

  at_called : OneOf c k client server r.called
  at_called = (ones g ls servable cs c k client server s t r i).called

  begins : OneOf c k client server s
  begins = (ones g ls servable cs c k client server s t r i).begins

  -- an end's round in which it takes nothing
  as_lone : (setup : Setup) (now time later : ℕ) (a b : CallLooks) (gave took : List Message)
      → (q : EndRound setup now a b gave took) → took ≡ [] → later ≡ now + time → Stood a b → IsFit now a
      → (l : LoneRound setup true (lone a now) (lone b later)) × (l.out ≡ q.out)
  as_lone setup now time later a b gave took q none at stood fit = (
    record {
      time = time;
      out = q.out;
      gave = gave;
      polled = q.polled;
      gives = q.gives;
      turn = subst (λ (y : CallLooks). TurnsOn now y b)
          (taken_none setup now q.polled q.taken took q.takes none) q.turn;
      now = at;
      stood = stood;
      fit = fit;
      pieces = λ no. absurd (let never : ◌≡◌ {A = Bool} true false = no in cc (never));
    },
    refl,
  )

  -- its client's
  pub lone_asked : (a : IsAsked c k client s) (b : IsAsked c k client t) → Stood a.call.looks b.call.looks
      → RestsAt c (looks_of s 0 server) → IsHushed c (looks_of s 0 server)
      → LoneOf client.setup (lone a.call.looks (moment (suc k) s.history))
      (lone b.call.looks (moment (suc k) t.history))
  lone_asked a b stood rests hushed =
      record {
        round = made.0;
        quiet = λ none.
            made.1
            ∙ out_none client.setup (moment (suc k) s.history) a.call.looks q.end.polled q.end.out asks q.end.gives
            (asked_none none);
        loud = λ none. (
          gave_none_of client.setup (moment (suc k) s.history) a.call.looks q.end.polled q.end.out asks q.end.gives
              (sym made.1 ∙ none),
          silent,
        );
      }
    where
      q : AskedRound g ls servable cs c k client server s t r i a b
      q = asked_round g ls servable cs c k client server s t r i a b hushed

      silent : answers ≡ []
      silent =
          (end_rested server.setup c c.host _ _ _ _ _ _ answers rests
          (seen_polls g ls servable cs c k client server s t r i).server_end).0

      later : moment (suc k) t.history ≡ moment (suc k) s.history + i.settles.time
      later =
          (let x = still.called (suc k) in
          let y = settles_moment r.polled.given r.called t i.settles (suc k) client at_called.client_there in
          omega (arith, x, y))

      made : (l : LoneRound client.setup true (lone a.call.looks (moment (suc k) s.history))
          (lone b.call.looks (moment (suc k) t.history))) × (l.out ≡ q.end.out)
      made =
          as_lone client.setup (moment (suc k) s.history) i.settles.time (moment (suc k) t.history) a.call.looks
          b.call.looks asks answers q.end silent later stood
          (subst (λ (n : ℕ). IsFit n a.call.looks) (now-side client.setup (suc k) s.history)
          (client_fits_at c k client server s begins a.call a.there))

      asked_none : r.polled.given ≡ [] → asks ≡ []
      asked_none none =
          sifted_none _ _ _ _ r.polled.given asks
          ((seen_polls g ls servable cs c k client server s t r i).asked
          (hushed_active c k client server s begins (suc k) client begins.client_there a.call a.there
          (ap is_active a.calling))) none

  -- its server's
  pub lone_served : (a : IsServing c server s) (b : IsServing c server t) → Stood a.call.looks b.call.looks
      → RestsAt c (looks_of s (suc k) client) → IsHushed c (looks_of s (suc k) client)
      → LoneOf server.setup (lone a.call.looks (moment 0 s.history)) (lone b.call.looks (moment 0 t.history))
  lone_served a b stood rests hushed =
      record {
        round = made.0;
        quiet = λ none.
            made.1
            ∙ out_none server.setup (moment 0 s.history) a.call.looks q.end.polled q.end.out answers q.end.gives
            (answered_none none);
        loud = λ none. (
          silent,
          gave_none_of server.setup (moment 0 s.history) a.call.looks q.end.polled q.end.out answers q.end.gives
              (sym made.1 ∙ none),
        );
      }
    where
      q : ServedRound g ls servable cs c k client server s t r i a b
      q = served_round g ls servable cs c k client server s t r i a b hushed

      silent : asks ≡ []
      silent =
          (end_rested client.setup c server.host _ _ _ _ _ _ asks rests
          (seen_polls g ls servable cs c k client server s t r i).client_end).0

      later : moment 0 t.history ≡ moment 0 s.history + i.settles.time
      later =
          (let x = still.called 0 in
          let y = settles_moment r.polled.given r.called t i.settles 0 server at_called.server_there in
          omega (arith, x, y))

      made : (l : LoneRound server.setup true (lone a.call.looks (moment 0 s.history))
          (lone b.call.looks (moment 0 t.history))) × (l.out ≡ q.end.out)
      made =
          as_lone server.setup (moment 0 s.history) i.settles.time (moment 0 t.history) a.call.looks b.call.looks
          answers asks q.end silent later stood
          (subst (λ (n : ℕ). IsFit n a.call.looks) (now-side server.setup 0 s.history)
          (server_fits_at c k client server s begins a.call a.there))

      answered_none : r.polled.given ≡ [] → answers ≡ []
      answered_none none =
          sifted_none _ _ _ _ r.polled.given answers
          ((seen_polls g ls servable cs c k client server s t r i).answered
          (hushed_active c k client server s begins 0 server begins.server_there a.call a.there a.works)) none
