-- A round as the client of a call has it that lives there as the round begins and as it ends, whatever its server has
-- of it: what the client gave, that it heard something now or nothing, and that no clock passed what it owes.
use Rattle.std.proofs.Common.{◌≡◌, ◌⊎◌, ◌<◌, ◌≤◌, ◌+◌, ℕ, zero, suc, Bool, true, false, List, Some, refl, ap, sym}
use Rattle.std.proofs.Common.{subst, ◌∙◌, inl, inr, ⊎_elim, arith, length}
use Rattle.std.specs.Prelude.{slice_get}
use Rattle.rx_model.specs.declared.names.CallName.{CallName}
use Rattle.rx_model.specs.declared.wire.TheConstants.{ACK_DELAY_MS}
use Rattle.rx_rules.specs.CallItems.{Ack, CallItem, call_items}
use Rattle.rx_rules.specs.CallLooks.{CallLooks}
use Rattle.rx_rules.specs.Life.{is_active}
use Rattle.rx_rules.specs.Looks.{CallRecord}
use Rattle.rx_rules.specs.Owing.{Owed}
use Rattle.rx_rules.specs.Rules.{Legal}
use Rattle.rx_rules.specs.Sent.{counting_by, counting_of, pieces_by, pieces_of}
use Rattle.rx_rules.specs.Setup.{FitsSetup, is_client}
use Rattle.rx_history.specs.Sides.{Node, moment, side}
use Rattle.rx_history.proofs.Moments.{now-side}
use Rattle.rx_law.proofs.World.{if-some}
use Rattle.rx_script.specs.declared.plan.Numbered.{Numbered}
use Rattle.rx_jobs.specs.Handlers.{Handlers}
use Rattle.rx_plan.specs.Answering.{AreServable}
use Rattle.rx_plan.specs.Stages.{Stage}
use Rattle.rx_plan.proofs.Followed.{Asks, IsFollowed, followed}
use Rattle.rx_progress.specs.Moving.{IsDrained}
use Rattle.rx_between.proofs.Each.EachItem.{In}
use Rattle.rx_rounds.proofs.Rounded.{RoundMade}
use Rattle.rx_closing.specs.Living.{call_lives_at, looks_of}
use Rattle.rx_closing.proofs.Callers.CallersHold.{round_followed}
use Rattle.rx_closing.proofs.Callers.SceneTurn.{AskedLeft, asked_turn, asks_on, has_ended}
use Rattle.rx_closing.proofs.Ends.BothEnds.{IsFit}
use Rattle.rx_closing.proofs.Ends.HeardSoon.{Lively}
use Rattle.rx_closing.proofs.Ends.Speaks.{polls_leave, turn_hears}
use Rattle.rx_closing.proofs.Far.AtWork.{AtWork, RoundAsks, RoundFront, ends_of, one_record, round_asks, round_front}
use Rattle.rx_closing.proofs.Far.FarStands.{scene_fed}
use Rattle.rx_closing.proofs.Frame.{IsKept, asked_in}
use Rattle.rx_closing.proofs.Living.Crowds.{RoundCrowds, round_crowds}
use Rattle.rx_closing.proofs.Living.LifeBetween.{client_anew_at}
use Rattle.rx_closing.proofs.Living.RoundOnes.{RoundOnes}
use Rattle.rx_closing.proofs.Messages.HeardOrSame.{HeardCall, HeardOr, heard_or_same}
use Rattle.rx_closing.proofs.Polls.DueWaits.{ack_there, call_waits}
use Rattle.rx_closing.proofs.Polls.Polled.{IsHushed, RoundPolled}
use Rattle.rx_closing.proofs.Polls.PolledEnds.{hushed_active}
use Rattle.rx_closing.proofs.Rounds.Chains.{round_adds}
use Rattle.rx_closing.proofs.Rounds.PingNear.{ping_near}
use Rattle.rx_closing.proofs.Rounds.RoundAwake.{awake_between}
use Rattle.rx_closing.proofs.Rounds.RoundCarries.{RoundCarried}
use Rattle.rx_closing.proofs.Rounds.RoundMoments.{MomentsStay, moments_stay}
use Rattle.rx_closing.proofs.Rounds.SceneEnds.{client_fits_at}
use Rattle.rx_closing.proofs.Rounds.Settles.{settles_call, settles_moment}
use Rattle.rx_closing.proofs.Server.TurnHere.{client_stays}
use Rattle.rx_closing.proofs.Steps.{TurnsOn}
use Rattle.rx_closing.proofs.Unknown.UnservedMeet.{IsAsked}
use Rattle.rx_closing.proofs.Working.EndRounds.{Gave, RoundFor, gave_of, ones, seen_polls, serves}
use Rattle.rx_closing.proofs.Working.WorkMeet.{ServesFor}
use Rattle.rx_closing.proofs.Far.FarBounds.{counting_low}

-- ---- a round

module _ (g : Handlers) (ls : List Numbered) (servable : AreServable g) (cs : List CallName) (c : CallName) (k : ℕ)
    (client server : Node) (s t : Stage) (r : RoundMade g s t) (i : RoundFor g ls cs c k client server s t r)
    (a : IsAsked c k client s) (b : IsAsked c k client t) where
  abbrev one : RoundOnes c k client server g s t r
  one = ones g ls servable cs c k client server s t r i

  abbrev for_it : ServesFor server
  for_it = serves g ls servable cs c k client server s t r i

  abbrev its_polls : RoundPolled c k client server server.host for_it.service s r.polled
  its_polls = seen_polls g ls servable cs c k client server s t r i

  -- the moment at which the round begins at the client
  abbrev pub now_s : ℕ
  now_s = moment (suc k) s.history

  -- the call at the stages within
  pub at : RoundAsks c k client server g s t r
  at = round_asks c k client server g s t r i.over a b

  pub hushed : IsHushed c (looks_of s (suc k) client)
  hushed =
      hushed_active c k client server s one.begins (suc k) client one.begins.client_there a.call a.there
      (ap is_active a.calling)

  -- what it gave
  pub gave : Gave client.setup c server.host for_it.service now_s client.host (side (suc k) s.history)
      (side (suc k) r.polled.stage.history) its_polls.by_client its_polls.asks a.call at.polled.call
  gave =
      gave_of client.setup c server.host for_it.service now_s client.host (side (suc k) s.history)
      (side (suc k) r.polled.stage.history) its_polls.by_client its_polls.asks a.call at.polled.call
      (now-side client.setup (suc k) s.history) a.there at.polled.there (ap is_active at.polled.calling)
      its_polls.client_end

  still : MomentsStay g s t r
  still = moments_stay g s t r

  carried : RoundCarried g (Asks g ls) (IsFollowed g ls) (followed g ls) s t r
  carried = round_followed g ls s t r i.held

  kept : IsKept s.nodes t
  kept = subst (λ (ns : List Node). IsKept ns t) (round_adds g s t r).nodes i.over.kept

  crowds : RoundCrowds cs s i.crowd g t r
  crowds = round_crowds cs s i.crowd g t r kept

  -- ---- what it heard

  delivered : HeardCall (looks_of r.polled.stage (suc k) client).now at.polled.call (asked_in c k client r.delivered)
  delivered =
      heard_or_same client (suc k) c (scene_fed c k client server r.delivered one.delivered).client_fits r.polled.given
      r.polled.stage r.delivered one.polled.client_there r.delivers_are
      (scene_fed c k client server r.delivered one.delivered).client_legal
      (client_anew_at c k client server r.delivered one.delivered) at.polled.call at.polled.there

  -- it heard something, or it is as the polls left it
  pub heard_then : HeardOr now_s gave.worked.end at.delivered.call.looks
  heard_then =
      subst (λ (x : CallLooks). HeardOr now_s x at.delivered.call.looks) gave.is
      (subst (λ (n : ℕ). HeardOr n at.polled.call.looks at.delivered.call.looks)
      (now-side client.setup (suc k) r.polled.stage.history ∙ still.polled (suc k))
      (subst (λ (x : CallRecord). HeardOr (looks_of r.polled.stage (suc k) client).now at.polled.call.looks x.looks)
      (one_record delivered.call at.delivered.call (asked_in c k client r.delivered) delivered.there
      at.delivered.there) delivered.heard))

  -- ---- its turn

  few : at.served.call.looks.sent.acked ≤ pieces_of at.served.call.looks.sent
  few =
      (let q : CallRecord = at.served.call in
      let fit : IsFit (looks_of r.served (suc k) client).now q.looks =
      client_fits_at c k client server r.served one.served q at.served.there in
      let low = counting_low (length q.looks.sent.said) q.looks.sent.shut in
      let acked = fit.acked in
      let counts = fit.counts in
      omega (arith, low, acked, counts))

  record Turned : Type 0 where
    turns : TurnsOn (looks_of r.served (suc k) client).now at.served.call.looks at.called.call.looks
    drained : IsDrained at.called.call.looks.received
    counts : at.called.call.looks.sent.shut ≡ false
        → at.called.call.looks.sent.acked < counting_of at.called.call.looks.sent

  turned : Turned
  turned =
      of (asked_turn c k client server cs g ls r.served r.called at.served.call one.served crowds.served
      carried.served at.served.there at.served.calling few r.calls_are).left
    where
      it_is : (f : CallRecord) → asked_in c k client r.called ≡ Some f → f ≡ at.called.call
      it_is f is = one_record f at.called.call (asked_in c k client r.called) is at.called.there

      of : {request : List ℕ} → AskedLeft c k client server request (looks_of r.served (suc k) client).now
          at.served.call.looks r.called → Turned
      of (asks_on f is life turns none part drained all counts) =
          (let same : f ≡ at.called.call = it_is f is in
          record {
            turns = subst (λ (x : CallRecord). TurnsOn (looks_of r.served (suc k) client).now
                at.served.call.looks x.looks) same turns;
            drained = subst (λ (x : CallRecord). IsDrained x.looks.received) same drained;
            counts = subst (λ (x : CallRecord). x.looks.sent.shut ≡ false
                → x.looks.sent.acked < counting_of x.looks.sent) same counts;
          })
      of (has_ended f end is life turns) =
          absurd (let never : ◌≡◌ {A = Bool} true false = sym (ap is_active at.called.calling)
          ∙ ap (λ (x : CallRecord). is_active x.life) (sym (it_is f is)) ∙ ap is_active life in cc (never))

  -- behind it its record stays
  called_same : at.called.call ≡ b.call
  called_same =
      one_record at.called.call b.call (asked_in c k client t)
      (settles_call r.polled.given r.called t i.settles (suc k) client one.called.client_there c ∙ at.called.there)
      b.there

  -- before it the dispatcher's leaves it
  served_same : at.served.call ≡ at.delivered.call
  served_same =
      one_record at.served.call at.delivered.call (asked_in c k client r.served) at.served.there
      (client_stays g c k client r.delivered r.served r.serves_are ∙ at.delivered.there)

  pub turn : TurnsOn now_s at.delivered.call.looks b.call.looks
  turn =
      subst (λ (n : ℕ). TurnsOn n at.delivered.call.looks b.call.looks)
      (now-side client.setup (suc k) r.served.history ∙ still.served (suc k))
      (subst (λ (x : CallRecord). TurnsOn (looks_of r.served (suc k) client).now x.looks b.call.looks) served_same
      (subst (λ (x : CallRecord). TurnsOn (looks_of r.served (suc k) client).now at.served.call.looks x.looks)
      called_same turned.turns))

  pub drained : IsDrained b.call.looks.received
  drained = subst (λ (x : CallRecord). IsDrained x.looks.received) called_same turned.drained

  -- a piece counts
  pub counts : 1 ≤ counting_of b.call.looks.sent
  counts =
      of b.call.looks.sent.shut refl
      (subst (λ (x : CallRecord). x.looks.sent.shut ≡ false → x.looks.sent.acked < counting_of x.looks.sent)
      called_same turned.counts)
    where
      of : (q : Bool) → b.call.looks.sent.shut ≡ q
          → (b.call.looks.sent.shut ≡ false → b.call.looks.sent.acked < counting_of b.call.looks.sent)
          → 1 ≤ counting_of b.call.looks.sent
      of false open_ more = (let low = more open_ in omega (arith, low))
      of true shut more =
          (let all : counting_of b.call.looks.sent ≡ pieces_by (length b.call.looks.sent.said) true =
          ap (λ (q : Bool). counting_by (length b.call.looks.sent.said) q) shut in omega (arith, all))

  -- it heard now, or as before
  pub heard_over : (b.call.looks.heard ≡ now_s) ⊎ ((at.delivered.call.looks ≡ gave.worked.end)
      × (b.call.looks.heard ≡ a.call.looks.heard))
  heard_over =
      ⊎_elim
      (λ (same : at.delivered.call.looks ≡ gave.worked.end). inr (
        same,
        (turn_hears now_s at.delivered.call.looks b.call.looks turn).heard
            ∙ ap (λ (x : CallLooks). x.heard) same
            ∙ (polls_leave client.setup now_s a.call.looks gave.worked.sendings its_polls.asks gave.worked.end
            gave.worked.gives).heard,
      ))
      (λ (heard : at.delivered.call.looks.heard ≡ now_s).
      inl ((turn_hears now_s at.delivered.call.looks b.call.looks turn).heard ∙ heard)) heard_then

  -- ---- the clocks

  -- they are later by one time
  pub client_later : moment (suc k) t.history ≡ now_s + i.settles.time
  client_later =
      (let stays = still.called (suc k) in
      let at_ = settles_moment r.polled.given r.called t i.settles (suc k) client one.called.client_there in
      omega (arith, stays, at_))

  pub server_later : moment 0 t.history ≡ moment 0 s.history + i.settles.time
  server_later =
      (let stays = still.called 0 in
      let at_ = settles_moment r.polled.given r.called t i.settles 0 server one.called.server_there in
      omega (arith, stays, at_))

  front : RoundFront g s t r
  front = round_front g s t r

  there_called : asked_in c k client r.called ≡ Some b.call
  there_called =
      sym (settles_call r.polled.given r.called t i.settles (suc k) client one.called.client_there c) ∙ b.there

  -- nothing that it owes was due before
  pub waits : 0 < i.settles.time → (e : CallItem) → In e (call_items (is_client client.setup.kind) b.call.looks)
      → now_s + i.settles.time ≤ e.rank
  waits some e own =
      (let stays = still.called (suc k) in
      let low = call_waits r.called (suc k) client i.settles.time one.called.client_there (i.settles.least some) some
      (if-some (slice_get r.called.nodes (suc k)) client (λ m. FitsSetup m.setup) one.called.client_there
      (one.called.world.sides.nodes_are.fits (suc k)))
      (if-some (slice_get r.called.nodes (suc k)) client (λ m. Legal m.setup (side (suc k) r.called.history))
      one.called.client_there (one.called.world.sides.legal (suc k))) c b.call there_called (ap is_active b.calling)
      (awake_between c k client server s r.called one.called front.called.more front.called.is (suc k) client
      one.called.client_there (still.called (suc k)) a.call b.call a.there (ap is_active a.calling) gave.awake
      there_called) e own in
      omega (arith, stays, low))

  -- what it has fits the moment at which the round began
  pub fit_over : IsFit now_s b.call.looks
  fit_over =
      subst (λ (n : ℕ). IsFit n b.call.looks) (now-side client.setup (suc k) r.called.history ∙ still.called (suc k))
      (client_fits_at c k client server r.called one.called b.call there_called)

  -- ---- lively

  -- where it heard of the call in the round
  pub lively_begins : call_lives_at s c (suc k) client ≡ true → call_lives_at t c (suc k) client ≡ true
      → (x : AtWork c k client server t) → x.asked ≡ b.call → now_s ≤ b.call.looks.heard
      → Lively (ends_of c k client server t x)
  lively_begins lived lives x same since =
      record {
        near = (let near = ping in let own = spoke_is in omega (arith, near, own));
        owed = λ o is. owed o (ap (λ (q : CallRecord). q.looks.owed_ack) (sym same) ∙ is) i.settles.time refl;
        answered = inl (let own = spoke_is in let low = fit_over.spoke in let heard = heard_is in
            omega (arith, own, low, since, heard));
        within = (let near = ping in let low = fit_over.spoke in let heard = heard_is in
            omega (arith, near, low, since, heard));
      }
    where
      ping : moment (suc k) t.history ≤ b.call.looks.spoke + 2000
      ping = ping_near c k client server g s t r i.over lived lives b.call b.there

      spoke_is : x.asked.looks.spoke ≡ b.call.looks.spoke
      spoke_is = ap (λ (q : CallRecord). q.looks.spoke) same

      heard_is : x.asked.looks.heard ≡ b.call.looks.heard
      heard_is = ap (λ (q : CallRecord). q.looks.heard) same

      owed : (o : Owed) → b.call.looks.owed_ack ≡ Some o → (n : ℕ) → i.settles.time ≡ n
          → (o.rank ≤ x.asked.looks.heard + ACK_DELAY_MS)
          × (moment (suc k) t.history ≤ x.asked.looks.heard + ACK_DELAY_MS)
      owed o is zero none =
          (let low = fit_over.low o is in let now = client_later in let heard = heard_is in
          (omega (arith, low, since, heard), omega (arith, now, none, since, heard)))
      owed o is (suc n) some =
          (let low = fit_over.low o is in let now = client_later in let heard = heard_is in
          let ahead = waits (omega (arith, some)) (record { rank = o.rank; sending = Ack o.reason o.serial })
          (ack_there (is_client client.setup.kind) b.call o is) in
          (omega (arith, low, since, heard), omega (arith, now, ahead, low, since, heard)))
