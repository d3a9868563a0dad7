-- A call that lives at its client and that its server is done with has ended at its client 4,000 ms later, whatever
-- other calls live: its client gives something within 2,000 ms, the server owes its code for that, and gives it in the
-- next round.
use Rattle.std.proofs.Common.{◌≡◌, ◌+◌, ◌≤◌, ◌++◌, ℕ, zero, suc, Bool, true, false, List, [], ◌∷◌, Option, Some, None}
use Rattle.std.proofs.Common.{Ok, inl, inr, refl, ap, sym, subst, ◌∙◌, is_some, arith}
use Rattle.rx_model.specs.declared.answers.End.{End}
use Rattle.rx_model.specs.declared.event.Event.{Event}
use Rattle.rx_model.specs.declared.names.CallName.{CallName}
use Rattle.rx_model.specs.declared.names.Host.{Host}
use Rattle.rx_model.specs.Message.{Message}
use Rattle.rx_model.specs.Reading.{reading_of}
use Rattle.rx_rules.specs.After.{looks}
use Rattle.rx_rules.specs.CallLooks.{CallLooks}
use Rattle.rx_rules.specs.Life.{is_active}
use Rattle.rx_rules.specs.Looks.{CallRecord, call_at}
use Rattle.rx_rules.specs.Rules.{Legal}
use Rattle.rx_history.specs.Sides.{Node, moment, side}
use Rattle.rx_history.specs.Streams.{end_by, end_of_life}
use Rattle.rx_history.proofs.Moments.{now-side}
use Rattle.rx_law.specs.Worlds.{Datagram}
use Rattle.rx_script.specs.declared.plan.Numbered.{Numbered}
use Rattle.rx_jobs.specs.Handlers.{Handlers}
use Rattle.rx_plan.specs.Answering.{AreServable}
use Rattle.rx_plan.specs.Stages.{Stage}
use Rattle.rx_between.specs.Agreed.{HasEnded}
use Rattle.rx_between.proofs.Each.EachItem.{In}
use Rattle.rx_rounds.proofs.Rounded.{RoundMade}
use Rattle.rx_closing.specs.Living.{looks_of}
use Rattle.rx_closing.proofs.Ends.FrozenPolls.{polls_quiet}
use Rattle.rx_closing.proofs.Ends.FrozenRound.{turn_same}
use Rattle.rx_closing.proofs.Ends.RoomLaws.{active_lives}
use Rattle.rx_closing.proofs.Far.AtWork.{RoundAsks, RoundFront, one_record, round_asks, round_front, worked_before}
use Rattle.rx_closing.proofs.Far.FarGrows.{FurtherOf}
use Rattle.rx_closing.proofs.Far.FarStands.{scene_fed, served_further}
use Rattle.rx_closing.proofs.Frame.{OneOf, asked_in, served_in}
use Rattle.rx_closing.proofs.Living.LifeBetween.{client_anew_at}
use Rattle.rx_closing.proofs.Living.RoundOnes.{RoundOnes}
use Rattle.rx_closing.proofs.Messages.Rows.{IsLast}
use Rattle.rx_closing.proofs.Messages.Sifted.{IsOwn, Sifted, sifts_none, sifts_other, sifts_own}
use Rattle.rx_closing.proofs.Messages.SpokeSame.{SameSpoke, delivered_spoke}
use Rattle.rx_closing.proofs.Messages.TakesAll.{IsNotFor}
use Rattle.rx_closing.proofs.Messages.TellsOver.{tells_round}
use Rattle.rx_closing.proofs.Polls.PolledEnds.{hushed_active}
use Rattle.rx_closing.proofs.Rounds.Chains.{Adds, RoundAdds, round_adds, round_more}
use Rattle.rx_closing.proofs.Rounds.Clocks.{round_clock}
use Rattle.rx_closing.proofs.Rounds.KnowsRound.{knows_later, polled_awake}
use Rattle.rx_closing.proofs.Rounds.PingNear.{ping_near}
use Rattle.rx_closing.proofs.Rounds.RoundMoments.{MomentsStay, moments_stay}
use Rattle.rx_closing.proofs.Rounds.RoundsOf.{FirstFor, RoundsOf, begins_asked, begins_one, first_for}
use Rattle.rx_closing.proofs.Rounds.SceneEnds.{client_fits_at}
use Rattle.rx_closing.proofs.Rounds.SpokeHolds.{heard_rises}
use Rattle.rx_closing.proofs.Telling.AbortComes.{abort_ends}
use Rattle.rx_closing.proofs.Telling.AbortOwed.{Owing}
use Rattle.rx_closing.proofs.Telling.DoneCode.{done_code}
use Rattle.rx_closing.proofs.Unknown.UnservedMeet.{IsAsked}
use Rattle.rx_closing.proofs.Working.EndRounds.{AskedGives, RoundFor, asked_gives, ones, out_none, seen_polls, serves}
use Rattle.rx_closing.proofs.Owing.AllBare.{none_of}
use Rattle.rx_law.proofs.Law.{side-split}

-- ---- what was said

-- a datagram that says one of the messages
record SaysOne (Own : Message → Type 0) (from to : Host) (ds : List Datagram) : Type 0 where
  said : Datagram
  there : In said ds
  message : Message
  reads : reading_of said.bytes ≡ Ok message
  own : Own message
  from_is : said.from ≡ from
  to_is : said.to ≡ to

says_one : (Own : Message → Type 0) (Else : Datagram → Type 0) (from to : Host) (ds : List Datagram)
    (ms : List Message) (m : Message) (rest : List Message) → Sifted Own Else from to ds ms → ms ≡ m ∷ rest
    → SaysOne Own from to ds
says_one Own Else from to ds ms m rest sifts_none is = absurd cc
says_one Own Else from to ds ms m rest (sifts_own bytes n es ns reads own others) is =
    record {
      said = record { from = from; to = to; bytes = bytes };
      there = inl refl;
      message = n;
      reads = reads;
      own = own;
      from_is = refl;
      to_is = refl;
    }
says_one Own Else from to ds ms m rest (sifts_other d es ns other others) is =
    (let f = says_one Own Else from to es ns m rest others is in
    record {
      said = f.said;
      there = inr f.there;
      message = f.message;
      reads = f.reads;
      own = f.own;
      from_is = f.from_is;
      to_is = f.to_is;
    })

-- ---- a server that is done with the call

pub record IsDone (c : CallName) (server : Node) (v : Stage) : Type 0 where
  pub call : CallRecord
  pub there : served_in c server v ≡ Some call
  pub idle : is_active call.life ≡ false

done_on : (y : CallRecord) (o : Option CallRecord) → FurtherOf (Some y) o → is_active y.life ≡ false
    → (f : CallRecord) × (o ≡ Some f) × (is_active f.life ≡ false)
done_on y None further idle = absurd further
done_on y (Some f) further idle = (f, refl, of (is_active f.life) refl)
  where
    of : (b : Bool) → is_active f.life ≡ b → is_active f.life ≡ false
    of false is = is
    of true works =
        absurd (let no : ◌≡◌ {A = Bool} true false =
        sym (worked_before y.life f.life further.life works) ∙ idle in cc (no))

-- it stays so
pub done_later : (c : CallName) (k : ℕ) (client server : Node) (s t : Stage) → OneOf c k client server t
    → Adds s.history t.history → IsDone c server s → IsDone c server t
done_later c k client server s t one grown d =
    (let f = done_on d.call (served_in c server t)
    (subst (λ (o : Option CallRecord). FurtherOf o (served_in c server t)) d.there
    (served_further c k client server t one s grown.more grown.is)) d.idle in
    record { call = f.0; there = f.1; idle = f.2 })

module _ (g : Handlers) (ls : List Numbered) (servable : AreServable g) (cs : List CallName) (c : CallName) (k : ℕ)
    (client server : Node) where
  -- ---- one round

  module _ (s t : Stage) (r : RoundMade g s t) (i : RoundFor g ls cs c k client server s t r) (a : IsAsked c k client s)
      (b : IsAsked c k client t) where
    abbrev asks : List Message
    asks = (seen_polls g ls servable cs c k client server s t r i).asks

    w : AskedGives g ls servable cs c k client server s t r i a b
    w = asked_gives g ls servable cs c k client server s t r i a b

    o : RoundOnes c k client server g s t r
    o = ones g ls servable cs c k client server s t r i

    adds : RoundAdds g s t r
    adds = round_adds g s t r

    front : RoundFront g s t r
    front = round_front g s t r

    -- where it says nothing its client spoke as before
    pub quiet_spoke : asks ≡ [] → b.call.looks.spoke ≡ a.call.looks.spoke
    quiet_spoke none =
        (turn_same (moment (suc k) s.history) w.at.delivered.call.looks b.call.looks w.turn).spoke
        ∙ delivered
        ∙ ap (λ (x : CallLooks). x.spoke) w.is
        ∙ ap (λ (x : CallLooks). x.spoke)
        (polls_quiet client.setup (moment (suc k) s.history) a.call.looks w.out asks w.polled w.gives
        (out_none client.setup (moment (suc k) s.history) a.call.looks w.polled w.out asks w.gives none))
      where
        delivered : w.at.delivered.call.looks.spoke ≡ w.at.polled.call.looks.spoke
        delivered =
            (let q : SameSpoke w.at.polled.call (asked_in c k client r.delivered) =
            delivered_spoke client (suc k) c (scene_fed c k client server r.delivered o.delivered).client_fits
            r.polled.given r.polled.stage r.delivered o.polled.client_there r.delivers_are
            (scene_fed c k client server r.delivered o.delivered).client_legal
            (client_anew_at c k client server r.delivered o.delivered) w.at.polled.call w.at.polled.there in
            ap (λ (x : CallRecord). x.looks.spoke)
            (one_record w.at.delivered.call q.call (asked_in c k client r.delivered) w.at.delivered.there q.there)
            ∙ q.spoke)

    -- where it says something its server owes a code, once it is done with the call
    module _ (d : IsDone c server s) where
      done_p : IsDone c server r.polled.stage
      done_p = done_later c k client server s r.polled.stage o.polled front.polled d

      done_d : IsDone c server r.delivered
      done_d = done_later c k client server s r.delivered o.delivered front.delivered d

      heard : w.at.polled.call.looks.heard ≤ w.at.delivered.call.looks.heard
      heard =
          (let own : side (suc k) r.delivered.history
          ≡ side (suc k) adds.delivered.more ++ side (suc k) r.polled.stage.history =
          ap (side (suc k)) adds.delivered.is ∙ side-split (suc k) adds.delivered.more r.polled.stage.history in
          let on = heard_rises client.setup (side (suc k) adds.delivered.more) (side (suc k) r.polled.stage.history) c
          w.at.polled.call (scene_fed c k client server r.delivered o.delivered).client_fits
          (subst (Legal client.setup) own (scene_fed c k client server r.delivered o.delivered).client_legal)
          w.at.polled.there in
          let same : on.call ≡ w.at.delivered.call =
          one_record on.call w.at.delivered.call (asked_in c k client r.delivered)
          (ap (λ (h : List Event). call_at (looks client.setup h) c) own ∙ on.there) w.at.delivered.there in
          subst (λ (q : CallRecord). w.at.polled.call.looks.heard ≤ q.looks.heard) same on.heard)

      last : IsLast (looks_of r.delivered 0 server) c done_d.call
      last =
          (let still : MomentsStay g s t r = moments_stay g s t r in
          let p0 = still.polled 0 in
          let d0 = still.delivered 0 in
          let pk = still.polled (suc k) in
          let dk = still.delivered (suc k) in
          knows_later c k client server g s t r o.begins r.delivered o.delivered adds.delivered.more adds.delivered.is
          (omega (arith, p0, d0)) (omega (arith, pk, dk)) w.at.polled.call w.at.delivered.call done_d.call
          (ap is_active w.at.polled.calling)
          (polled_awake s r.polled r.polls_are (suc k) client o.begins.client_there c w.at.polled.call
          w.at.polled.there)
          w.at.delivered.there
          (active_lives w.at.delivered.call.life (ap is_active w.at.delivered.calling)) heard done_d.there)

      pub said_owes : (m : Message) (rest : List Message) → asks ≡ m ∷ rest → Owing c (looks_of t 0 server)
      said_owes m rest is =
          (let v = serves g ls servable cs c k client server s t r i in
          let f : SaysOne (IsOwn client.setup c v.service) client.host server.host r.polled.given =
          says_one (IsOwn client.setup c v.service)
          (IsNotFor server c) client.host server.host r.polled.given asks m rest
          ((seen_polls g ls servable cs c k client server s t r i).asked
          (hushed_active c k client server s o.begins (suc k) client o.begins.client_there a.call a.there
          (ap is_active a.calling))) is in
          let code = done_code c k client server r.polled.stage o.polled w.at.polled.call done_p.call w.at.polled.there
          w.at.polled.calling done_p.there done_p.idle in
          tells_round c k client server g s t r i.over v.service v.nonces v.is f.said f.there
          (record { message = f.message; reads = f.reads; own = f.own; from = f.from_is; to = f.to_is }) done_p.call
          done_p.there done_p.idle code.0 code.1 last.number)

  -- ---- rounds one after another

  abbrev Rounds : ℕ → Stage → Stage → Type 0
  Rounds n s t = RoundsOf g ls cs c k client server n s t

  -- where its server owes its code there is no further one
  owed_last : (n : ℕ) (s t : Stage) → Rounds n s t → Owing c (looks_of s 0 server) → s ≡ t
  owed_last zero s t all owing = none_of g s t all.chain
  owed_last (suc n) s t all owing =
      (let f = first_for g ls cs c k client server n s t all in
      let a = begins_asked g ls cs c k client server (suc n) s t all in
      let b = begins_asked g ls cs c k client server n f.between t f.rest in
      let m : RoundAsks c k client server g s f.between f.round =
      round_asks c k client server g s f.between f.round f.for_.over a b in
      let ended : HasEnded (asked_in c k client f.round.delivered) =
      abort_ends c k client server g s f.between f.round f.for_.over all.linked owing
      (ap (λ (x : Option CallRecord). is_some x) a.there) in
      absurd (let no : ◌≡◌ {A = Option End} None (Some ended.end) =
      sym (ap end_by m.delivered.there ∙ ap end_of_life m.delivered.calling) ∙ ended.at in cc (no)))

  -- its client spoke no later than this
  abbrev SpokeBy : ℕ → Stage → Type 0
  SpokeBy most v = (x : CallRecord) → asked_in c k client v ≡ Some x → x.looks.spoke ≤ most

  done_step : (most n : ℕ) (s t : Stage) → Rounds (suc n) s t → (f : FirstFor g ls cs c k client server n s t)
      → IsDone c server s → SpokeBy most s → moment (suc k) s.history ≤ most + 2000
      → (IsDone c server f.between → SpokeBy most f.between → moment (suc k) f.between.history ≤ most + 2000
      → moment (suc k) t.history ≤ most + 4000) → moment (suc k) t.history ≤ most + 4000
  done_step most n s t all f d spoke near again = by (asks s f.between f.round f.for_ a b) refl
    where
      a : IsAsked c k client s
      a = begins_asked g ls cs c k client server (suc n) s t all

      b : IsAsked c k client f.between
      b = begins_asked g ls cs c k client server n f.between t f.rest

      by : (ms : List Message) → asks s f.between f.round f.for_ a b ≡ ms → moment (suc k) t.history ≤ most + 4000
      by [] none =
          (let same = quiet_spoke s f.between f.round f.for_ a b none in
          let first = spoke a.call a.there in
          let soon = ping_near c k client server g s f.between f.round f.for_.over all.living f.living b.call b.there in
          again (done_later c k client server s f.between f.for_.over (round_more g s f.between f.round) d)
          (λ x there. (let one : b.call ≡ x = one_record b.call x (asked_in c k client f.between) b.there there in
          let at = ap (λ (q : CallRecord). q.looks.spoke) one in
          omega (arith, at, same, first)))
          (omega (arith, soon, same, first)))
      by (m ∷ rest) is =
          (let last : f.between ≡ t =
          owed_last n f.between t f.rest (said_owes s f.between f.round f.for_ a b d m rest is) in
          let at = ap (λ (v : Stage). moment (suc k) v.history) last in
          let clock = round_clock c k client server g s f.between f.round f.for_.over all.living f.living (suc k) in
          omega (arith, at, clock, near))

  done_from : (most n : ℕ) (s t : Stage) → Rounds n s t → IsDone c server s → SpokeBy most s
      → moment (suc k) s.history ≤ most + 2000 → moment (suc k) t.history ≤ most + 4000
  done_from most zero s t all d spoke near =
      (let at = ap (λ (v : Stage). moment (suc k) v.history) (none_of g s t all.chain) in omega (arith, at, near))
  done_from most (suc n) s t all d spoke near =
      (let f = first_for g ls cs c k client server n s t all in
      done_step most n s t all f d spoke near
      (λ d_ spoke_ near_. done_from most n f.between t f.rest d_ spoke_ near_))

  -- from a stage at which its server is done with it, the client's clock goes on for 4,000 ms at most while the call
  -- lives there
  pub done_late : (n : ℕ) (s t : Stage) → Rounds n s t → IsDone c server s
      → moment (suc k) t.history ≤ moment (suc k) s.history + 4000
  done_late n s t all d =
      done_from (moment (suc k) s.history) n s t all d
      (λ x there. (let fit = client_fits_at c k client server s
      (begins_one g ls cs c k client server n s t all) x there in
      let spoke = fit.spoke in
      let now = now-side client.setup (suc k) s.history in
      omega (arith, spoke, now))) (omega arith)
