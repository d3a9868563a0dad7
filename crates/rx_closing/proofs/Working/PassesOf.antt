-- A round as both ends of a call have it that is at work at both as the round begins and as it ends, whatever other
-- calls live: each takes what the other gave.
use Rattle.std.proofs.Common.{◌≡◌, ◌+◌, ◌<◌, ◌≤◌, ℕ, suc, false, List, [], Some, ap, sym, subst, ◌∙◌, refl, arith}
use Rattle.std.specs.Prelude.{slice_get}
use Rattle.rx_model.specs.declared.names.CallName.{CallName}
use Rattle.rx_model.specs.declared.names.Host.{Host}
use Rattle.rx_model.specs.declared.wire.TheConstants.{ACK_PING, PING_MS}
use Rattle.rx_model.specs.Message.{Message}
use Rattle.rx_rules.specs.CallItems.{Ack, CallItem, call_items}
use Rattle.rx_rules.specs.Life.{is_active}
use Rattle.rx_rules.specs.Records.{is_silent}
use Rattle.rx_rules.specs.Rules.{Legal}
use Rattle.rx_rules.specs.Sent.{counting_of}
use Rattle.rx_rules.specs.Setup.{FitsSetup, is_client}
use Rattle.rx_history.specs.Sides.{Node, moment, side}
use Rattle.rx_history.proofs.Moments.{now-side}
use Rattle.rx_law.proofs.World.{if-some}
use Rattle.rx_law.specs.Worlds.{Datagram}
use Rattle.rx_script.specs.declared.plan.Numbered.{Numbered}
use Rattle.rx_jobs.specs.Handlers.{Handlers}
use Rattle.rx_plan.specs.Answering.{AreServable}
use Rattle.rx_plan.specs.Stages.{Stage}
use Rattle.rx_progress.specs.Moving.{IsDrained}
use Rattle.rx_between.proofs.Each.EachItem.{In}
use Rattle.rx_rounds.proofs.Rounded.{RoundMade}
use Rattle.rx_closing.specs.Living.{looks_of}
use Rattle.rx_closing.proofs.Ends.BothEnds.{IsFit, Round, Stood}
use Rattle.rx_closing.proofs.Ends.HeardSoon.{LiveRound}
use Rattle.rx_closing.proofs.Far.AtWork.{AtWork, RoundFront, asks_of, ends_of, round_front, serves_of}
use Rattle.rx_closing.proofs.Frame.{OneOf, asked_in, served_in}
use Rattle.rx_closing.proofs.Messages.Sifted.{Sifted, sifts_none, sifts_other, sifts_own}
use Rattle.rx_closing.proofs.Polls.DueWaits.{ack_there, call_waits, ping_there}
use Rattle.rx_closing.proofs.Polls.Polled.{IsHushed}
use Rattle.rx_closing.proofs.Polls.PolledEnds.{hushed_active}
use Rattle.rx_closing.proofs.Rounds.RoundAwake.{awake_between}
use Rattle.rx_closing.proofs.Rounds.RoundMoments.{MomentsStay, moments_stay}
use Rattle.rx_closing.proofs.Rounds.SceneEnds.{client_fits_at, client_kind, ends_linked, server_fits_at}
use Rattle.rx_closing.proofs.Rounds.Settles.{settles_call, settles_moment}
use Rattle.rx_closing.proofs.Steps.{Passes}
use Rattle.rx_closing.proofs.Working.EndRounds.{AskedRound, RoundFor, ServedRound, asked_round, gave_none_of, ones}
use Rattle.rx_closing.proofs.Working.EndRounds.{out_none, seen_polls, served_round}

-- among no datagrams no message is
pub sifted_none : (Own : Message → Type 0) (Else : Datagram → Type 0) (from to : Host) (ds : List Datagram)
    (ms : List Message) → Sifted Own Else from to ds ms → ds ≡ [] → ms ≡ []
sifted_none Own Else from to ds ms sifts_none none = refl
sifted_none Own Else from to ds ms (sifts_own bytes m xs ys reads own rest) none = absurd cc
sifted_none Own Else from to ds ms (sifts_other d xs ys else_ rest) none = absurd cc

module _ (g : Handlers) (ls : List Numbered) (servable : AreServable g) (cs : List CallName) (c : CallName) (k : ℕ)
    (client server : Node) (s t : Stage) (r : RoundMade g s t) (i : RoundFor g ls cs c k client server s t r)
    (w : AtWork c k client server s) (x : AtWork c k client server t) where
  hushed_c : IsHushed c (looks_of s (suc k) client)
  hushed_c =
      hushed_active c k client server s w.scene (suc k) client w.scene.client_there w.asked w.asked_is
      (ap is_active w.calls)

  hushed_s : IsHushed c (looks_of s 0 server)
  hushed_s = hushed_active c k client server s w.scene 0 server w.scene.server_there w.served w.served_is w.works

  asked : AskedRound g ls servable cs c k client server s t r i (asks_of c k client server s w)
      (asks_of c k client server t x)
  asked =
      asked_round g ls servable cs c k client server s t r i (asks_of c k client server s w)
      (asks_of c k client server t x) hushed_s

  served : ServedRound g ls servable cs c k client server s t r i (serves_of c k client server s w)
      (serves_of c k client server t x)
  served =
      served_round g ls servable cs c k client server s t r i (serves_of c k client server s w)
      (serves_of c k client server t x) hushed_c

  abbrev asks : List Message
  asks = (seen_polls g ls servable cs c k client server s t r i).asks

  abbrev answers : List Message
  answers = (seen_polls g ls servable cs c k client server s t r i).answers

  -- behind it both ends are drained, and a piece counts that isn't acknowledged where the request isn't shut
  pub drained_asked : IsDrained x.asked.looks.received
  drained_asked = asked.drained

  pub drained_served : IsDrained x.served.looks.received
  drained_served = served.drained

  pub counts_asked : x.asked.looks.sent.shut ≡ false → x.asked.looks.sent.acked < counting_of x.asked.looks.sent
  counts_asked = asked.counts

  -- neither is silent as it begins
  pub awake_asked : is_silent (looks_of s (suc k) client).now w.asked ≡ false
  awake_asked = asked.awake

  pub awake_served : is_silent (looks_of s 0 server).now w.served ≡ false
  awake_served = served.awake

  -- neither gives anything where nothing was given
  none_out : r.polled.given ≡ [] → (asked.end.out ≡ []) × (served.end.out ≡ [])
  none_out none = (
    out_none client.setup (moment (suc k) s.history) w.asked.looks asked.end.polled asked.end.out asks asked.end.gives
        (sifted_none _ _ _ _ r.polled.given asks
        ((seen_polls g ls servable cs c k client server s t r i).asked hushed_c) none),
    out_none server.setup (moment 0 s.history) w.served.looks served.end.polled served.end.out answers served.end.gives
        (sifted_none _ _ _ _ r.polled.given answers
        ((seen_polls g ls servable cs c k client server s t r i).answered hushed_s) none),
  )

  none_said : asked.end.out ≡ [] → served.end.out ≡ [] → (asks ≡ []) × (answers ≡ [])
  none_said none_c none_s = (
    gave_none_of client.setup (moment (suc k) s.history) w.asked.looks asked.end.polled asked.end.out asks
        asked.end.gives none_c,
    gave_none_of server.setup (moment 0 s.history) w.served.looks served.end.polled served.end.out answers
        served.end.gives none_s,
  )

  -- ---- the round

  pub passes : Passes client.setup server.setup (moment (suc k) s.history) (moment 0 s.history) w.asked.looks
      w.served.looks x.asked.looks x.served.looks i.settles.time
  passes =
      record {
        out_c = asked.end.out;
        gave_c = asks;
        kc1 = asked.end.polled;
        gives_c = asked.end.gives;
        out_s = served.end.out;
        gave_s = answers;
        ks1 = served.end.polled;
        gives_s = served.end.gives;
        ks2 = served.end.taken;
        takes_s = served.end.takes;
        kc2 = asked.end.taken;
        takes_c = asked.end.takes;
        turn_s = served.end.turn;
        turn_c = asked.end.turn;
        moves = λ some. none_out (i.settles.moves some);
      }

  still : MomentsStay g s t r
  still = moments_stay g s t r

  at_called : OneOf c k client server r.called
  at_called = (ones g ls servable cs c k client server s t r i).called

  client_later : moment (suc k) t.history ≡ moment (suc k) s.history + i.settles.time
  client_later =
      (let a = still.called (suc k) in
      let b = settles_moment r.polled.given r.called t i.settles (suc k) client at_called.client_there in
      omega (arith, a, b))

  server_later : moment 0 t.history ≡ moment 0 s.history + i.settles.time
  server_later =
      (let a = still.called 0 in
      let b = settles_moment r.polled.given r.called t i.settles 0 server at_called.server_there in
      omega (arith, a, b))

  fit_c : IsFit (moment (suc k) s.history) w.asked.looks
  fit_c =
      subst (λ (n : ℕ). IsFit n w.asked.looks) (now-side client.setup (suc k) s.history)
      (client_fits_at c k client server s w.scene w.asked w.asked_is)

  fit_s : IsFit (moment 0 s.history) w.served.looks
  fit_s =
      subst (λ (n : ℕ). IsFit n w.served.looks) (now-side server.setup 0 s.history)
      (server_fits_at c k client server s w.scene w.served w.served_is)

  -- ---- no clock passes what is due

  front : RoundFront g s t r
  front = round_front g s t r

  there_c : asked_in c k client r.called ≡ Some x.asked
  there_c =
      sym (settles_call r.polled.given r.called t i.settles (suc k) client at_called.client_there c) ∙ x.asked_is

  there_s : served_in c server r.called ≡ Some x.served
  there_s = sym (settles_call r.polled.given r.called t i.settles 0 server at_called.server_there c) ∙ x.served_is

  waits_c : 0 < i.settles.time → (e : CallItem)
      → In e (call_items (is_client client.setup.kind) x.asked.looks)
      → moment (suc k) s.history + i.settles.time ≤ e.rank
  waits_c some e own =
      (let stays = still.called (suc k) in
      let low = call_waits r.called (suc k) client i.settles.time at_called.client_there (i.settles.least some) some
      (if-some (slice_get r.called.nodes (suc k)) client (λ m. FitsSetup m.setup) at_called.client_there
      (at_called.world.sides.nodes_are.fits (suc k)))
      (if-some (slice_get r.called.nodes (suc k)) client (λ m. Legal m.setup (side (suc k) r.called.history))
      at_called.client_there (at_called.world.sides.legal (suc k))) c x.asked there_c (ap is_active x.calls)
      (awake_between c k client server s r.called at_called front.called.more front.called.is (suc k) client
      at_called.client_there (still.called (suc k)) w.asked x.asked w.asked_is (ap is_active w.calls) awake_asked
      there_c) e own in
      omega (arith, stays, low))

  waits_s : 0 < i.settles.time → (e : CallItem)
      → In e (call_items (is_client server.setup.kind) x.served.looks)
      → moment 0 s.history + i.settles.time ≤ e.rank
  waits_s some e own =
      (let stays = still.called 0 in
      let low = call_waits r.called 0 server i.settles.time at_called.server_there (i.settles.least some) some
      (if-some (slice_get r.called.nodes 0) server (λ m. FitsSetup m.setup) at_called.server_there
      (at_called.world.sides.nodes_are.fits 0))
      (if-some (slice_get r.called.nodes 0) server (λ m. Legal m.setup (side 0 r.called.history))
      at_called.server_there (at_called.world.sides.legal 0)) c x.served there_s x.works
      (awake_between c k client server s r.called at_called front.called.more front.called.is 0 server
      at_called.server_there (still.called 0) w.served x.served w.served_is w.works awake_served there_s) e own in
      omega (arith, stays, low))

  -- ---- as both ends have it

  -- where the client's end was drained; it gives nothing of the call where nothing was given, and where it gives
  -- nothing, nothing of the call was said
  pub record LiveOf : Type 0 where
    pub round : LiveRound client.setup server.setup (ends_of c k client server s w) (ends_of c k client server t x)
    pub quiet : r.polled.given ≡ [] → (round.passes.out_c ≡ []) × (round.passes.out_s ≡ [])
    pub loud : round.passes.out_c ≡ [] → round.passes.out_s ≡ [] → (asks ≡ []) × (answers ≡ [])
    pub time_is : round.time ≡ i.settles.time

  pub live_of : IsDrained w.asked.looks.received → LiveOf
  unfolding passes
  live_of drained =
      record {
        round = record {
          time = i.settles.time;
          passes = passes;
          client_now = client_later;
          server_now = server_later;
          client_fit = fit_c;
          server_fit = fit_s;
          drained = drained;
          pinged = λ some. waits_c some
              (record { rank = x.asked.looks.spoke + PING_MS; sending = Ack ACK_PING 0 })
              (ping_there (is_client client.setup.kind) x.asked (client_kind c k client server s w.scene));
          client_owed = λ some o is. waits_c some (record { rank = o.rank; sending = Ack o.reason o.serial })
              (ack_there (is_client client.setup.kind) x.asked o is);
          server_owed = λ some o is. waits_s some (record { rank = o.rank; sending = Ack o.reason o.serial })
              (ack_there (is_client server.setup.kind) x.served o is);
        };
        quiet = none_out;
        loud = none_said;
        time_is = refl;
      }

  -- where no number of either end moved and both were drained
  pub record RoundOf : Type 0 where
    pub round : Round client.setup server.setup (ends_of c k client server s w) (ends_of c k client server t x)
    pub quiet : r.polled.given ≡ [] → (round.passes.out_c ≡ []) × (round.passes.out_s ≡ [])
    pub loud : round.passes.out_c ≡ [] → round.passes.out_s ≡ [] → (asks ≡ []) × (answers ≡ [])

  pub round_of : Stood w.asked.looks x.asked.looks → Stood w.served.looks x.served.looks
      → IsDrained w.asked.looks.received → IsDrained w.served.looks.received → RoundOf
  unfolding passes
  round_of stood_c stood_s drained_c drained_s =
      record {
        round = record {
          time = i.settles.time;
          passes = passes;
          client_now = client_later;
          server_now = server_later;
          client_stood = stood_c;
          server_stood = stood_s;
          client_fit = fit_c;
          server_fit = fit_s;
          linked = ends_linked c k client server s w.scene w.asked w.served w.asked_is w.served_is drained_c drained_s;
        };
        quiet = none_out;
        loud = none_said;
      }
