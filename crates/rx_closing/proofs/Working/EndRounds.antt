-- A round as one end of a call has it that works there as the round begins and as it ends, whatever other calls live:
-- the end is polled out, takes what the other end gave, and has its turn, behind which it is drained.
use Rattle.std.proofs.Common.{◌≡◌, ◌<◌, ◌≤◌, ℕ, suc, false, true, List, [], ◌∷◌, Some, ap, sym, subst, ◌∙◌, refl, arith}
use Rattle.std.proofs.Common.{length, Bool}
use Rattle.rx_model.specs.declared.event.Event.{Event}
use Rattle.rx_model.specs.declared.names.CallName.{CallName}
use Rattle.rx_model.specs.declared.names.Host.{Host}
use Rattle.rx_model.specs.Message.{Message}
use Rattle.rx_model.specs.Names.{connection_of}
use Rattle.rx_rules.specs.CallItems.{Sending}
use Rattle.rx_rules.specs.CallLooks.{CallLooks}
use Rattle.rx_rules.specs.Life.{is_active}
use Rattle.rx_rules.specs.Looks.{CallRecord, call_at}
use Rattle.rx_rules.specs.Records.{is_silent}
use Rattle.rx_rules.specs.Sent.{counting_of, pieces_of}
use Rattle.rx_rules.specs.Setup.{Setup}
use Rattle.rx_rules.specs.After.{looks}
use Rattle.rx_history.specs.Sides.{Node, moment, side}
use Rattle.rx_history.proofs.Moments.{now-side}
use Rattle.rx_law.specs.Worlds.{Datagram}
use Rattle.rx_script.specs.declared.plan.Numbered.{Numbered}
use Rattle.rx_jobs.specs.Handlers.{Handlers}
use Rattle.rx_plan.specs.Answering.{AreServable}
use Rattle.rx_plan.specs.Stages.{Stage}
use Rattle.rx_plan.proofs.Driven.{seen}
use Rattle.rx_plan.proofs.Followed.{Asks, IsFollowed, followed}
use Rattle.rx_plan.proofs.QuietEvents.{AreServed}
use Rattle.rx_progress.specs.Moving.{IsDrained}
use Rattle.rx_rounds.proofs.Rounded.{RoundMade}
use Rattle.rx_closing.specs.Living.{looks_of}
use Rattle.rx_closing.proofs.Callers.CallersHold.{round_followed}
use Rattle.rx_closing.proofs.Callers.CallersLeave.{served_stays}
use Rattle.rx_closing.proofs.Callers.SceneTurn.{AskedLeft, asked_turn, asks_on, has_ended}
use Rattle.rx_closing.proofs.Conns.PlanLinks.{linked_round}
use Rattle.rx_closing.proofs.Conns.PlanPeers.{AreLinked}
use Rattle.rx_closing.proofs.Ends.BothEnds.{IsFit}
use Rattle.rx_closing.proofs.Far.AtWork.{IsServing, RoundAsks, RoundServes, one_record, round_asks, round_serves}
use Rattle.rx_closing.proofs.Far.FarStands.{scene_fed}
use Rattle.rx_closing.proofs.Frame.{Crowd, IsKept, OneOf, asked_in, served_in}
use Rattle.rx_closing.proofs.Living.Crowds.{RoundCrowds, round_crowds}
use Rattle.rx_closing.proofs.Living.LifeBetween.{server_anew_at}
use Rattle.rx_closing.proofs.Living.LivesOn.{delivered_life}
use Rattle.rx_closing.proofs.Living.RoundOnes.{AddsOver, RoundOnes, adds_over, round_ones}
use Rattle.rx_closing.proofs.Messages.BothTake.{client_takes, server_takes}
use Rattle.rx_closing.proofs.Messages.TakesAll.{IsNotFor}
use Rattle.rx_closing.proofs.Polls.OnePoll.{ConnIs}
use Rattle.rx_closing.proofs.Polls.Polled.{EndPolled, EndWorked, IsHushed, RoundPolled, WorksAt}
use Rattle.rx_closing.proofs.Polls.PolledEnds.{end_was, round_polled}
use Rattle.rx_closing.proofs.Rounds.Chains.{RoundAdds, round_adds}
use Rattle.rx_closing.proofs.Rounds.RoundCarries.{RoundCarried}
use Rattle.rx_closing.proofs.Rounds.RoundMoments.{MomentsStay, moments_stay}
use Rattle.rx_closing.proofs.Rounds.SceneEnds.{client_fits_at}
use Rattle.rx_closing.proofs.Rounds.Settles.{Settles, settles_call}
use Rattle.rx_closing.proofs.Server.TurnHere.{client_stays, server_drained, server_turns}
use Rattle.rx_closing.proofs.Steps.{GivesOut, TakesIn, TurnsOn, gives_none, gives_one}
use Rattle.rx_closing.proofs.Unknown.UnservedMeet.{IsAsked}
use Rattle.rx_closing.proofs.Working.WorkMeet.{ServesFor, scene_for, work_conn}
use Rattle.rx_closing.proofs.Far.FarBounds.{counting_low}

-- ---- one end

-- it is polled until it has nothing to give, takes these one after another, and has its turn
pub record EndRound (s : Setup) (now : ℕ) (a b : CallLooks) (gave took : List Message) : Type 0 where
  pub out : List Sending
  pub polled : CallLooks
  pub gives : GivesOut s now a out gave polled
  pub taken : CallLooks
  pub takes : TakesIn s now polled took taken
  pub turn : TurnsOn now taken b

-- nothing is given where no message is, and no message where nothing is
pub out_none : (s : Setup) (now : ℕ) (a b : CallLooks) (out : List Sending) (gave : List Message)
    → GivesOut s now a out gave b → gave ≡ [] → out ≡ []
out_none s now a b out gave (gives_none k idle) none = refl
out_none s now a b out gave (gives_one k f x m xs ms next given rest) none =
    absurd (let no : m ∷ ms ≡ [] = none in cc (no))

pub gave_none_of : (s : Setup) (now : ℕ) (a b : CallLooks) (out : List Sending) (gave : List Message)
    → GivesOut s now a out gave b → out ≡ [] → gave ≡ []
gave_none_of s now a b out gave (gives_none k idle) none = refl
gave_none_of s now a b out gave (gives_one k f x m xs ms next given rest) none =
    absurd (let no : x ∷ xs ≡ [] = none in cc (no))

-- a record that works before the polls and behind them
pub record Gave (s : Setup) (c : CallName) (peer : Host) (service now : ℕ) (from : Host) (h later : List Event)
    (ds : List Datagram) (ms : List Message) (a f : CallRecord) : Type 0 where
  pub awake : is_silent (looks s h).now a ≡ false
  pub worked : EndWorked s c peer service now from a later ds ms
  pub is : f.looks ≡ worked.end

module _ (s : Setup) (c : CallName) (peer : Host) (service now : ℕ) (from : Host) (h later : List Event)
    (ds : List Datagram) (ms : List Message) (a f : CallRecord) where
  -- what the polls of its node make of an active call
  pub gave_of : (looks s h).now ≡ now → call_at (looks s h) c ≡ Some a → call_at (looks s later) c ≡ Some f
      → is_active f.life ≡ true → EndPolled s c peer service now from h later ds ms
      → Gave s c peer service now from h later ds ms a f
  gave_of at there behind works polled =
      (let w = end_was s c peer service now from h later ds ms at f behind works polled in
      let same : w.call ≡ a = one_record w.call a (call_at (looks s h) c) w.works.there there in
      by w.call same w.works w.left w.is)
    where
      by : (q : CallRecord) → q ≡ a → WorksAt c (looks s h) q
          → (e : EndWorked s c peer service now from q later ds ms) → f ≡ record q { looks = e.end }
          → Gave s c peer service now from h later ds ms a f
      by q same works_ e is_ =
          subst (λ (x : CallRecord). Gave s c peer service now from h later ds ms x f) same
          (record { awake = works_.awake; worked = e; is = ap (λ (x : CallRecord). x.looks) is_ })

-- ---- a round

-- what is known of it for a call: at its end the call is one of the stage; as it begins no calls live but some, with
-- room for them, at nodes that follow their lines; and how its clocks move
pub record RoundFor (g : Handlers) (ls : List Numbered) (cs : List CallName) (c : CallName) (k : ℕ)
    (client server : Node) (s t : Stage) (r : RoundMade g s t) : Type 0 where
  pub over : OneOf c k client server t
  pub crowd : Crowd cs s
  pub held : IsFollowed g ls (seen s)
  pub links : AreServed s.nodes s.history
  pub linked : AreLinked s
  pub settles : Settles r.polled.given r.called t

module _ (g : Handlers) (ls : List Numbered) (servable : AreServable g) (cs : List CallName) (c : CallName) (k : ℕ)
    (client server : Node) (s t : Stage) (r : RoundMade g s t) (i : RoundFor g ls cs c k client server s t r) where
  pub ones : RoundOnes c k client server g s t r
  ones = round_ones c k client server g s t r i.over

  pub serves : ServesFor server
  serves = scene_for c k client server s ones.begins

  conn : ConnIs (looks_of s (suc k) client) (connection_of c) server.host serves.service
  conn = work_conn c k client server s ones.begins serves i.links i.linked

  -- what the polls gave of the call
  pub seen_polls : RoundPolled c k client server server.host serves.service s r.polled
  seen_polls = round_polled c k client server s r.polled ones.begins r.polls_are server.host serves.service conn

  abbrev mid : Stage
  mid = r.polled.stage

  carried : RoundCarried g (Asks g ls) (IsFollowed g ls) (followed g ls) s t r
  carried = round_followed g ls s t r i.held

  kept : IsKept s.nodes t
  kept = subst (λ (ns : List Node). IsKept ns t) (round_adds g s t r).nodes i.over.kept

  crowds : RoundCrowds cs s i.crowd g t r
  crowds = round_crowds cs s i.crowd g t r kept

  still : MomentsStay g s t r
  still = moments_stay g s t r

  adds : RoundAdds g s t r
  adds = round_adds g s t r

  back : AddsOver g s t r
  back = adds_over g s t r

  linked_t : AreLinked t
  linked_t = (linked_round g s t r i.linked).over

  delivered_nodes : r.delivered.nodes ≡ t.nodes
  delivered_nodes = adds.delivered_nodes ∙ sym adds.nodes

  -- ---- the client's end

  module _ (a : IsAsked c k client s) (b : IsAsked c k client t) where
    at_client : RoundAsks c k client server g s t r
    at_client = round_asks c k client server g s t r i.over a b

    gave_c : Gave client.setup c server.host serves.service (moment (suc k) s.history) client.host
        (side (suc k) s.history) (side (suc k) mid.history) seen_polls.by_client seen_polls.asks a.call
        at_client.polled.call
    gave_c =
        gave_of client.setup c server.host serves.service (moment (suc k) s.history) client.host
        (side (suc k) s.history) (side (suc k) mid.history) seen_polls.by_client seen_polls.asks a.call
        at_client.polled.call (now-side client.setup (suc k) s.history) a.there at_client.polled.there
        (ap is_active at_client.polled.calling) seen_polls.client_end

    takes_c : IsHushed c (looks_of s 0 server)
        → TakesIn client.setup (moment (suc k) s.history) gave_c.worked.end seen_polls.answers
        at_client.delivered.call.looks
    takes_c hushed =
        subst (λ (n : ℕ). TakesIn client.setup n gave_c.worked.end seen_polls.answers at_client.delivered.call.looks)
        gave_c.worked.moment
        (subst (λ (x : CallLooks). TakesIn client.setup (looks_of mid (suc k) client).now x seen_polls.answers
        at_client.delivered.call.looks) gave_c.is
        (client_takes c k client server t i.over serves.service serves.nonces serves.is mid r.delivered
        back.delivered delivered_nodes r.polled.given r.delivers_are linked_t seen_polls.its (IsNotFor client c)
        (λ d is. is) seen_polls.answers (seen_polls.answered hushed) at_client.polled.call at_client.delivered.call
        at_client.polled.there (ap is_active at_client.polled.calling) at_client.delivered.there
        (at_client.delivered.calling ∙ sym at_client.polled.calling)))

    few : at_client.served.call.looks.sent.acked ≤ pieces_of at_client.served.call.looks.sent
    few =
        (let q : CallRecord = at_client.served.call in
        let fit : IsFit (looks_of r.served (suc k) client).now q.looks =
        client_fits_at c k client server r.served ones.served q at_client.served.there in
        let low = counting_low (length q.looks.sent.said) q.looks.sent.shut in
        let acked = fit.acked in
        let counts = fit.counts in
        omega (arith, low, acked, counts))

    -- what its caller makes of it
    record Turned : Type 0 where
      turns : TurnsOn (looks_of r.served (suc k) client).now at_client.served.call.looks at_client.called.call.looks
      drained : IsDrained at_client.called.call.looks.received
      counts : at_client.called.call.looks.sent.shut ≡ false
          → at_client.called.call.looks.sent.acked < counting_of at_client.called.call.looks.sent

    turned_c : Turned
    turned_c =
        of (asked_turn c k client server cs g ls r.served r.called at_client.served.call ones.served crowds.served
        carried.served at_client.served.there at_client.served.calling few r.calls_are).left
      where
        one : (f : CallRecord) → asked_in c k client r.called ≡ Some f → f ≡ at_client.called.call
        one f is = one_record f at_client.called.call (asked_in c k client r.called) is at_client.called.there

        of : {request : List ℕ}
            → AskedLeft c k client server request (looks_of r.served (suc k) client).now
            at_client.served.call.looks r.called → Turned
        of (asks_on f is life turns none part drained all counts) =
            (let same : f ≡ at_client.called.call = one f is in
            record {
              turns = subst (λ (x : CallRecord). TurnsOn (looks_of r.served (suc k) client).now
                  at_client.served.call.looks x.looks) same turns;
              drained = subst (λ (x : CallRecord). IsDrained x.looks.received) same drained;
              counts = subst (λ (x : CallRecord). x.looks.sent.shut ≡ false
                  → x.looks.sent.acked < counting_of x.looks.sent) same counts;
            })
        of (has_ended f end is life turns) =
            absurd (let never : ◌≡◌ {A = Bool} true false = sym (ap is_active at_client.called.calling)
            ∙ ap (λ (x : CallRecord). is_active x.life) (sym (one f is)) ∙ ap is_active life in cc (never))

    -- behind the callers' turn its record stays
    called_same : at_client.called.call ≡ b.call
    called_same =
        one_record at_client.called.call b.call (asked_in c k client t)
        (settles_call r.polled.given r.called t i.settles (suc k) client ones.called.client_there c
        ∙ at_client.called.there)
        b.there

    -- before it the dispatcher's leaves it
    served_same_c : at_client.served.call ≡ at_client.delivered.call
    served_same_c =
        one_record at_client.served.call at_client.delivered.call (asked_in c k client r.served) at_client.served.there
        (client_stays g c k client r.delivered r.served r.serves_are ∙ at_client.delivered.there)

    turn_c : TurnsOn (moment (suc k) s.history) at_client.delivered.call.looks b.call.looks
    turn_c =
        subst (λ (n : ℕ). TurnsOn n at_client.delivered.call.looks b.call.looks)
        (now-side client.setup (suc k) r.served.history ∙ still.served (suc k))
        (subst (λ (x : CallRecord). TurnsOn (looks_of r.served (suc k) client).now x.looks b.call.looks) served_same_c
        (subst (λ (x : CallRecord). TurnsOn (looks_of r.served (suc k) client).now at_client.served.call.looks x.looks)
        called_same turned_c.turns))

    -- all of it
    pub record AskedRound : Type 0 where
      pub end : EndRound client.setup (moment (suc k) s.history) a.call.looks b.call.looks seen_polls.asks
          seen_polls.answers
      pub awake : is_silent (looks_of s (suc k) client).now a.call ≡ false
      pub drained : IsDrained b.call.looks.received
      pub counts : b.call.looks.sent.shut ≡ false → b.call.looks.sent.acked < counting_of b.call.looks.sent

    pub asked_round : IsHushed c (looks_of s 0 server) → AskedRound
    asked_round hushed =
        record {
          end = record {
            out = gave_c.worked.sendings;
            polled = gave_c.worked.end;
            gives = gave_c.worked.gives;
            taken = at_client.delivered.call.looks;
            takes = takes_c hushed;
            turn = turn_c;
          };
          awake = gave_c.awake;
          drained = subst (λ (x : CallRecord). IsDrained x.looks.received) called_same turned_c.drained;
          counts = subst (λ (x : CallRecord). x.looks.sent.shut ≡ false
              → x.looks.sent.acked < counting_of x.looks.sent) called_same turned_c.counts;
        }

    -- what it gives, and its turn, whatever it takes
    pub record AskedGives : Type 0 where
      pub out : List Sending
      pub polled : CallLooks
      pub gives : GivesOut client.setup (moment (suc k) s.history) a.call.looks out seen_polls.asks polled
      pub at : RoundAsks c k client server g s t r
      pub is : at.polled.call.looks ≡ polled
      pub turn : TurnsOn (moment (suc k) s.history) at.delivered.call.looks b.call.looks

    pub asked_gives : AskedGives
    asked_gives =
        record {
          out = gave_c.worked.sendings;
          polled = gave_c.worked.end;
          gives = gave_c.worked.gives;
          at = at_client;
          is = gave_c.is;
          turn = turn_c;
        }

  -- ---- the server's end

  module _ (a : IsServing c server s) (b : IsServing c server t) where
    at_server : RoundServes c k client server g s t r
    at_server = round_serves c k client server g s t r i.over a b

    gave_s : Gave server.setup c c.host seen_polls.its (moment 0 s.history) server.host (side 0 s.history)
        (side 0 mid.history) seen_polls.by_server seen_polls.answers a.call at_server.polled.call
    gave_s =
        gave_of server.setup c c.host seen_polls.its (moment 0 s.history) server.host (side 0 s.history)
        (side 0 mid.history) seen_polls.by_server seen_polls.answers a.call at_server.polled.call
        (now-side server.setup 0 s.history) a.there at_server.polled.there at_server.polled.works seen_polls.server_end

    same_life : at_server.delivered.call.life ≡ at_server.polled.call.life
    same_life =
        delivered_life server 0 c (scene_fed c k client server r.delivered ones.delivered).server_fits r.polled.given
        mid r.delivered ones.polled.server_there r.delivers_are
        (scene_fed c k client server r.delivered ones.delivered).server_legal
        (server_anew_at c k client server r.delivered ones.delivered) at_server.polled.call at_server.delivered.call
        at_server.polled.there at_server.delivered.there at_server.delivered.works

    takes_s : IsHushed c (looks_of s (suc k) client)
        → TakesIn server.setup (moment 0 s.history) gave_s.worked.end seen_polls.asks
        at_server.delivered.call.looks
    takes_s hushed =
        subst (λ (n : ℕ). TakesIn server.setup n gave_s.worked.end seen_polls.asks at_server.delivered.call.looks)
        gave_s.worked.moment
        (subst (λ (x : CallLooks). TakesIn server.setup (looks_of mid 0 server).now x seen_polls.asks
        at_server.delivered.call.looks) gave_s.is
        (server_takes c k client server t i.over serves.service serves.nonces serves.is mid r.delivered back.delivered
        delivered_nodes r.polled.given r.delivers_are (IsNotFor server c) (λ d is. is) seen_polls.asks
        (seen_polls.asked hushed) at_server.polled.call at_server.delivered.call at_server.polled.there
        at_server.polled.works at_server.delivered.there same_life))

    -- the callers' turn leaves its record, and so does the end of the round
    served_same_s : at_server.served.call ≡ b.call
    served_same_s =
        one_record at_server.served.call b.call (served_in c server t)
        (settles_call r.polled.given r.called t i.settles 0 server ones.called.server_there c
        ∙ served_stays c server r.served r.called r.calls_are ∙ at_server.served.there)
        b.there

    turn_s : TurnsOn (moment 0 s.history) at_server.delivered.call.looks b.call.looks
    turn_s =
        subst (λ (n : ℕ). TurnsOn n at_server.delivered.call.looks b.call.looks)
        (now-side server.setup 0 r.delivered.history ∙ still.delivered 0)
        (subst (λ (x : CallRecord). TurnsOn (looks_of r.delivered 0 server).now at_server.delivered.call.looks x.looks)
        served_same_s
        (server_turns g ls servable c k client server r.delivered r.served ones.delivered ones.served
        carried.delivered r.serves_are at_server.delivered.call at_server.served.call at_server.delivered.there
        at_server.delivered.works at_server.served.there))

    -- all of it
    pub record ServedRound : Type 0 where
      pub end : EndRound server.setup (moment 0 s.history) a.call.looks b.call.looks seen_polls.answers seen_polls.asks
      pub awake : is_silent (looks_of s 0 server).now a.call ≡ false
      pub drained : IsDrained b.call.looks.received

    pub served_round : IsHushed c (looks_of s (suc k) client) → ServedRound
    served_round hushed =
        record {
          end = record {
            out = gave_s.worked.sendings;
            polled = gave_s.worked.end;
            gives = gave_s.worked.gives;
            taken = at_server.delivered.call.looks;
            takes = takes_s hushed;
            turn = turn_s;
          };
          awake = gave_s.awake;
          drained = subst (λ (x : CallRecord). IsDrained x.looks.received) served_same_s
              (server_drained g ls servable c k client server r.delivered r.served ones.delivered ones.served
              carried.delivered r.serves_are at_server.delivered.call at_server.served.call
              at_server.delivered.there at_server.delivered.works at_server.served.there at_server.served.works);
        }
