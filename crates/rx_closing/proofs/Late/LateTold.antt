-- In rounds through which a call stands that lives at its client, and that its server is done with, the client gives
-- nothing: else the server would owe its code.
use Rattle.std.proofs.Common.{◌≡◌, ◌+◌, ◌≤◌, ◌++◌, ℕ, ℤ, suc, Bool, true, false, List, [], ◌∷◌, Option, Some, Ok}
use Rattle.std.proofs.Common.{is_some, inl, inr, refl, ap, sym, subst, ◌∙◌, arith}
use Rattle.std.specs.Prelude.{slice_get}
use Rattle.rx_model.specs.declared.event.Event.{Event}
use Rattle.rx_model.specs.declared.names.CallName.{CallName}
use Rattle.rx_model.specs.declared.names.Host.{Host}
use Rattle.rx_model.specs.Message.{Message}
use Rattle.rx_model.specs.Names.{channel_of}
use Rattle.rx_model.specs.Reading.{reading_of}
use Rattle.rx_rules.specs.After.{looks, served_code}
use Rattle.rx_rules.specs.CallLooks.{CallLooks}
use Rattle.rx_rules.specs.Life.{is_active}
use Rattle.rx_rules.specs.Looks.{CallRecord, call_at}
use Rattle.rx_rules.specs.Records.{is_silent}
use Rattle.rx_rules.specs.Rules.{Legal}
use Rattle.rx_rules.specs.Setup.{FitsSetup, Setup}
use Rattle.rx_history.specs.Sides.{Node, moment, side}
use Rattle.rx_law.proofs.World.{if-some}
use Rattle.rx_law.specs.Worlds.{Datagram}
use Rattle.rx_script.specs.declared.plan.Numbered.{Numbered}
use Rattle.rx_jobs.specs.Handlers.{Handlers}
use Rattle.rx_plan.specs.Answering.{AreServable}
use Rattle.rx_plan.specs.Stages.{Stage}
use Rattle.rx_between.proofs.Each.EachItem.{In}
use Rattle.rx_rounds.proofs.Rounded.{RoundMade}
use Rattle.rx_closing.specs.Living.{looks_of}
use Rattle.rx_closing.proofs.Ends.FrozenPolls.{polls_quiet}
use Rattle.rx_closing.proofs.Ends.FrozenRound.{turn_same}
use Rattle.rx_closing.proofs.Ends.RoomLaws.{active_lives}
use Rattle.rx_closing.proofs.Far.FarStands.{StandsAt, StandsOf, far_between, scene_stands}
use Rattle.rx_closing.proofs.Frame.{OneOf, asked_in, served_in}
use Rattle.rx_closing.proofs.Living.Before.{one_before}
use Rattle.rx_closing.proofs.Messages.Rows.{IsLast}
use Rattle.rx_closing.proofs.Messages.Sifted.{IsOwn, Sifted, sifts_none, sifts_other, sifts_own}
use Rattle.rx_closing.proofs.Messages.TakesAll.{IsNotFor}
use Rattle.rx_closing.proofs.Messages.TellsOver.{Asked, tells_round}
use Rattle.rx_closing.proofs.Owing.OwesNone.{none_owed}
use Rattle.rx_closing.proofs.Polls.PolledEnds.{end_rested}
use Rattle.rx_closing.proofs.Quiet.QuietChannel.{hushed_none}
use Rattle.rx_closing.proofs.Rounds.Chains.{Adds, Chain, RoundAdds, adds_both, chain_adds, chain_both, chain_more}
use Rattle.rx_closing.proofs.Rounds.Chains.{chain_none, round_adds}
use Rattle.rx_closing.proofs.Rounds.KnowsRound.{knows_later, polled_awake}
use Rattle.rx_closing.proofs.Rounds.RoundMoments.{MomentsStay, moments_stay}
use Rattle.rx_closing.proofs.Rounds.SpokeHolds.{heard_rises}
use Rattle.rx_closing.proofs.Sums.RoundLoads.{EachRound, lone_end, looks_or}
use Rattle.rx_closing.proofs.Telling.AbortOwed.{Owing}
use Rattle.rx_closing.proofs.Together.Members.{Member, names_of}
use Rattle.rx_closing.proofs.Unknown.UnservedMeet.{IsAsked}
use Rattle.rx_closing.proofs.Working.EndRounds.{AskedRound, EndRound, RoundFor, asked_round, out_none, seen_polls}
use Rattle.rx_closing.proofs.Working.EndRounds.{serves}
use Rattle.rx_closing.proofs.Working.LoneOf.{taken_none}
use Rattle.rx_closing.proofs.Working.StandsFrom.{StandsFrom, asked_at, one_at, round_for, stands_at}
use Rattle.rx_closing.proofs.Working.WorkHere.{stands_from}
use Rattle.rx_law.proofs.Law.{side-split}

-- ---- an end that gives and takes nothing

-- it spoke as before
pub still_spoke : (s : Setup) (now : ℕ) (a b : CallLooks) (gave took : List Message) → EndRound s now a b gave took
    → gave ≡ [] → took ≡ [] → b.spoke ≡ a.spoke
still_spoke s now a b gave took q none nothing =
    (turn_same now q.taken b q.turn).spoke
    ∙ ap (λ (k : CallLooks). k.spoke) (taken_none s now q.polled q.taken took q.takes nothing)
    ∙ ap (λ (k : CallLooks). k.spoke) (polls_quiet s now a q.out gave q.polled q.gives
    (out_none s now a q.polled q.out gave q.gives none))

-- ---- the first of those that were sifted

-- a datagram that says a message
record FirstSaid (Own : Message → Type 0) (from to : Host) (ds : List Datagram) (m : Message) : Type 0 where
  said : Datagram
  there : In said ds
  reads : reading_of said.bytes ≡ Ok m
  own : Own m
  from_is : said.from ≡ from
  to_is : said.to ≡ to

first_said : (Own : Message → Type 0) (Else : Datagram → Type 0) (from to : Host) (ds : List Datagram)
    (ms : List Message) (m : Message) (rest : List Message) → Sifted Own Else from to ds ms → ms ≡ m ∷ rest
    → FirstSaid Own from to ds m
first_said Own Else from to ds ms m rest sifts_none is = absurd cc
first_said Own Else from to ds ms m rest (sifts_own bytes n es ns reads own others) is =
    (let same : n ≡ m = cc (is) in
    record {
      said = record { from = from; to = to; bytes = bytes };
      there = inl refl;
      reads = subst (λ (x : Message). reading_of bytes ≡ Ok x) same reads;
      own = subst Own same own;
      from_is = refl;
      to_is = refl;
    })
first_said Own Else from to ds ms m rest (sifts_other d es ns other others) is =
    (let f = first_said Own Else from to es ns m rest others is in
    record {
      said = f.said;
      there = inr f.there;
      reads = f.reads;
      own = f.own;
      from_is = f.from_is;
      to_is = f.to_is;
    })

-- ---- a round

module _ (g : Handlers) (ls : List Numbered) (servable : AreServable g) (server : Node) (ms : List Member)
    (y z u : Stage) (so : StandsFrom g ls server ms y z u) (rest_z : (n : ℕ) × Chain g n z u) (m : Member)
    (inside : In m ms) (a : IsAsked m.call m.index m.client z) (b : CallRecord)
    (served : served_in m.call server z ≡ Some b) (idle : is_active b.life ≡ false) (code : ℤ)
    (coded : served_code b.life ≡ Some code) where
  abbrev c : CallName
  c = m.call

  abbrev k : ℕ
  k = m.index

  abbrev client : Node
  client = m.client

  abbrev cs : List CallName
  cs = names_of ms

  module _ (i n : ℕ) (v w : Stage) (front : Chain g i z v) (r : RoundMade g v w) (rest : Chain g n w u)
      (many : 2 ≤ n) where
    more : Chain g (suc n) v u
    more = chain_more n v w u r rest

    to_w : Chain g (i + 1) z w
    to_w = chain_both g i 1 z v w front (chain_more 0 v w w r (chain_none w))

    adds : RoundAdds g v w r
    adds = round_adds g v w r

    one_v : OneOf c k client server v
    one_v = one_at g ls server ms y z u so rest_z m inside i (suc n) v front more (omega arith)

    one_w : OneOf c k client server w
    one_w = one_at g ls server ms y z u so rest_z m inside (i + 1) n w to_w rest (omega arith)

    for_ : RoundFor g ls cs c k client server v w r
    for_ = round_for g ls server ms y z u so rest_z m inside i n v w front r rest (omega arith)

    -- ---- its stages

    from_delivered : Adds r.delivered.history w.history
    from_delivered =
        adds_both r.delivered.history r.called.history w.history
        (adds_both r.delivered.history r.served.history r.called.history adds.served adds.called) adds.over

    from_polled : Adds r.polled.stage.history w.history
    from_polled = adds_both r.polled.stage.history r.delivered.history w.history adds.delivered from_delivered

    one_polled : OneOf c k client server r.polled.stage
    one_polled = one_before c k client server w one_w r.polled.stage (adds.polled_nodes ∙ sym adds.nodes) from_polled

    one_delivered : OneOf c k client server r.delivered
    one_delivered =
        one_before c k client server w one_w r.delivered (adds.delivered_nodes ∙ sym adds.nodes) from_delivered

    -- the call stands at each stage within it
    stands_in : (x : Stage) → OneOf c k client server x → (first : Adds v.history x.history)
        → Adds x.history w.history → StandsOf (asked_in c k client z) (asked_in c k client x)
        × StandsOf (served_in c server z) (served_in c server x)
    stands_in x one first second =
        (let before : Adds z.history x.history =
        adds_both z.history v.history x.history (chain_adds g i z v front) first in
        let far = far_between c k client server z x w one one_w before.more second.more before.is second.is
        (so.far m inside (i + 1) n w to_w rest (omega arith)) in
        scene_stands c k client server x one z before.more before.is far.0)

    at_polled : StandsOf (asked_in c k client z) (asked_in c k client r.polled.stage)
        × StandsOf (served_in c server z) (served_in c server r.polled.stage)
    at_polled = stands_in r.polled.stage one_polled adds.polled from_polled

    to_delivered : Adds v.history r.delivered.history
    to_delivered = adds_both v.history r.polled.stage.history r.delivered.history adds.polled adds.delivered

    at_delivered : StandsOf (asked_in c k client z) (asked_in c k client r.delivered)
        × StandsOf (served_in c server z) (served_in c server r.delivered)
    at_delivered = stands_in r.delivered one_delivered to_delivered from_delivered

    -- its records there
    asked_polled : (f : CallRecord) × (asked_in c k client r.polled.stage ≡ Some f) × StandsAt a.call f
    asked_polled =
        stands_from (asked_in c k client z) (asked_in c k client r.polled.stage) a.call a.there at_polled.0

    served_polled : (f : CallRecord) × (served_in c server r.polled.stage ≡ Some f) × StandsAt b f
    served_polled = stands_from (served_in c server z) (served_in c server r.polled.stage) b served at_polled.1

    asked_delivered : (f : CallRecord) × (asked_in c k client r.delivered ≡ Some f) × StandsAt a.call f
    asked_delivered =
        stands_from (asked_in c k client z) (asked_in c k client r.delivered) a.call a.there at_delivered.0

    served_delivered : (f : CallRecord) × (served_in c server r.delivered ≡ Some f) × StandsAt b f
    served_delivered = stands_from (served_in c server z) (served_in c server r.delivered) b served at_delivered.1

    -- ---- its channel's latest call at the server is this one

    calls : (f : CallRecord) → StandsAt a.call f → is_active f.life ≡ true
    calls f stands = ap is_active (stands.life ∙ a.calling)

    heard : asked_polled.0.looks.heard ≤ asked_delivered.0.looks.heard
    heard =
        (let own : side (suc k) r.delivered.history
        ≡ side (suc k) adds.delivered.more ++ side (suc k) r.polled.stage.history =
        ap (side (suc k)) adds.delivered.is ∙ side-split (suc k) adds.delivered.more r.polled.stage.history in
        let fits = if-some (slice_get r.delivered.nodes (suc k)) client (λ q. FitsSetup q.setup)
        one_delivered.client_there (one_delivered.world.sides.nodes_are.fits (suc k)) in
        let legal = if-some (slice_get r.delivered.nodes (suc k)) client
        (λ q. Legal q.setup (side (suc k) r.delivered.history)) one_delivered.client_there
        (one_delivered.world.sides.legal (suc k)) in
        let on = heard_rises client.setup (side (suc k) adds.delivered.more) (side (suc k) r.polled.stage.history) c
        asked_polled.0 fits (subst (Legal client.setup) own legal) asked_polled.1 in
        let there : asked_in c k client r.delivered ≡ Some on.call =
        ap (λ (h : List Event). call_at (looks client.setup h) c) own ∙ on.there in
        let same : on.call ≡ asked_delivered.0 =
        (let both : ◌≡◌ {A = Option CallRecord} (Some on.call) (Some asked_delivered.0) =
        sym there ∙ asked_delivered.1 in cc (both)) in
        subst (λ (q : CallRecord). asked_polled.0.looks.heard ≤ q.looks.heard) same on.heard)

    last : IsLast (looks_of r.delivered 0 server) c served_delivered.0
    last =
        (let still : MomentsStay g v w r = moments_stay g v w r in
        let p0 = still.polled 0 in
        let d0 = still.delivered 0 in
        let pk = still.polled (suc k) in
        let dk = still.delivered (suc k) in
        knows_later c k client server g v w r one_v r.delivered one_delivered adds.delivered.more adds.delivered.is
        (omega (arith, p0, d0)) (omega (arith, pk, dk)) asked_polled.0 asked_delivered.0 served_delivered.0
        (calls asked_polled.0 asked_polled.2)
        (polled_awake v r.polled r.polls_are (suc k) client one_v.client_there c asked_polled.0 asked_polled.1)
        asked_delivered.1
        (active_lives asked_delivered.0.life (calls asked_delivered.0 asked_delivered.2)) heard served_delivered.1)

    -- ---- nothing is asked

    abbrev service : ℕ
    service = (serves g ls servable cs c k client server v w r for_).service

    owed : (d : Datagram) → In d r.polled.given → Asked c client server service d → ⊥
    owed d there asked =
        (let t = serves g ls servable cs c k client server v w r for_ in
        let owing : Owing c (looks_of w 0 server) =
        tells_round c k client server g v w r one_w t.service t.nonces t.is d there asked served_polled.0
        served_polled.1 (ap is_active served_polled.2.life ∙ idle) code (ap served_code served_polled.2.life ∙ coded)
        last.number in
        let none = (none_owed (looks_of w 0 server) (channel_of c)
        (so.bare (i + 1) n w to_w rest many 0 server one_w.server_there)).abort in
        let wrong : ◌≡◌ {A = Bool} false true = sym (ap (λ (o : Option ℤ). is_some o) none) ∙ owing.owed in
        cc (wrong))

    abbrev asks : List Message
    asks = (seen_polls g ls servable cs c k client server v w r for_).asks

    sifted : Sifted (IsOwn client.setup c service) (IsNotFor server c) client.host server.host r.polled.given asks
    sifted =
        (seen_polls g ls servable cs c k client server v w r for_).asked
        (hushed_none c (looks_of v (suc k) client)
        (so.bare i (suc n) v front more (omega (arith, many)) (suc k) client one_v.client_there))

    none_asked : (xs : List Message) → asks ≡ xs → asks ≡ []
    none_asked [] is = is
    none_asked (x ∷ xs) is =
        (let f = first_said (IsOwn client.setup c service)
        (IsNotFor server c) client.host server.host r.polled.given asks
        x xs sifted is in
        absurd (owed f.said f.there
        (record { message = x; reads = f.reads; own = f.own; from = f.from_is; to = f.to_is })))

    -- nor answered
    none_answered : (seen_polls g ls servable cs c k client server v w r for_).answers ≡ []
    none_answered =
        (end_rested server.setup c c.host _ _ _ _ _ _
        (seen_polls g ls servable cs c k client server v w r for_).answers rests
        (seen_polls g ls servable cs c k client server v w r for_).server_end).0
      where
        here : (f : CallRecord) × (served_in c server v ≡ Some f) × StandsAt b f
        here =
            stands_from (served_in c server z) (served_in c server v) b served
            (stands_at g ls server ms y z u so rest_z m inside i (suc n) v front more (omega arith)).1

        rests : (q : CallRecord) → served_in c server v ≡ Some q → is_active q.life ≡ true
            → is_silent (looks_of v 0 server).now q ≡ true
        rests q is works =
            (let same : here.0 ≡ q =
            (let both : ◌≡◌ {A = Option CallRecord} (Some here.0) (Some q) = sym here.1 ∙ is in cc (both)) in
            absurd (let wrong : ◌≡◌ {A = Bool} true false = sym works
            ∙ ap (λ (x : CallRecord). is_active x.life) (sym same) ∙ ap is_active here.2.life ∙ idle in cc (wrong)))

    -- so its client spoke as before
    spoke : (lone_end c (suc k) client w).end.spoke ≡ (lone_end c (suc k) client v).end.spoke
    spoke =
        (let p = asked_at g ls server ms y z u so rest_z m inside a i (suc n) v front more (omega arith) in
        let q = asked_at g ls server ms y z u so rest_z m inside a (i + 1) n w to_w rest (omega arith) in
        let o : AskedRound g ls servable cs c k client server v w r for_ p.asked q.asked =
        asked_round g ls servable cs c k client server v w r for_ p.asked q.asked
        (hushed_none c (looks_of v 0 server)
        (so.bare i (suc n) v front more (omega (arith, many)) 0 server one_v.server_there)) in
        ap (λ x. (looks_or x).spoke) q.asked.there
        ∙ still_spoke client.setup (moment (suc k) v.history) p.asked.call.looks q.asked.call.looks asks
        (seen_polls g ls servable cs c k client server v w r for_).answers o.end (none_asked asks refl) none_answered
        ∙ sym (ap (λ x. (looks_or x).spoke) p.asked.there))

  pub told_spoke : EachRound g z u 2 (λ v w r. (lone_end c (suc k) client w).end.spoke
      ≡ (lone_end c (suc k) client v).end.spoke)
  told_spoke i n v w front r rest many = spoke i n v w front r rest many
