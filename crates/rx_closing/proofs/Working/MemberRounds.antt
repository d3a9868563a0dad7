-- In rounds through which none of some calls comes further: each round as the ends of one of them have it that is at
-- work at both ends, or at one alone, or at none.
use Rattle.std.proofs.Common.{◌≡◌, ◌+◌, ◌<◌, ℕ, suc, Bool, true, false, List, [], Option, Some, None, refl, ap, sym}
use Rattle.std.proofs.Common.{subst, ◌∙◌, arith}
use Rattle.rx_model.specs.declared.names.CallName.{CallName}
use Rattle.rx_rules.specs.Life.{is_active}
use Rattle.rx_rules.specs.Looks.{CallRecord}
use Rattle.rx_rules.specs.Sent.{counting_of}
use Rattle.rx_rules.specs.Setup.{Setup}
use Rattle.rx_history.specs.Sides.{Node, moment}
use Rattle.rx_script.specs.declared.plan.Numbered.{Numbered}
use Rattle.rx_jobs.specs.Handlers.{Handlers}
use Rattle.rx_plan.specs.Answering.{AreServable}
use Rattle.rx_plan.specs.Stages.{Stage}
use Rattle.rx_progress.specs.Moving.{IsDrained}
use Rattle.rx_between.proofs.Each.EachItem.{In}
use Rattle.rx_rounds.proofs.Rounded.{RoundMade}
use Rattle.rx_closing.specs.Living.{looks_of}
use Rattle.rx_closing.proofs.Ends.BothEnds.{Ends, Round}
use Rattle.rx_closing.proofs.Ends.LoneEnd.{Lone, LoneRound}
use Rattle.rx_closing.proofs.Far.AtWork.{AtWork, IsServing, at_work_of, ends_of}
use Rattle.rx_closing.proofs.Far.FarStands.{StandsAt, StandsOf}
use Rattle.rx_closing.proofs.Frame.{OneOf, asked_in, served_in}
use Rattle.rx_closing.proofs.Polls.Polled.{RestsAt}
use Rattle.rx_closing.proofs.Polls.PolledEnds.{end_rested}
use Rattle.rx_closing.proofs.Polls.StreamsGiven.{gave_none}
use Rattle.rx_closing.proofs.Quiet.QuietChannel.{hushed_none}
use Rattle.rx_closing.proofs.Rounds.Chains.{Chain, chain_both, chain_more, chain_none}
use Rattle.rx_closing.proofs.Sums.RoundLoads.{EachRound, EachStage, both_ends, lone_end, looks_or}
use Rattle.rx_closing.proofs.Together.Members.{Member, names_of}
use Rattle.rx_closing.proofs.Unknown.UnservedMeet.{IsAsked}
use Rattle.rx_closing.proofs.Working.EndRounds.{RoundFor, seen_polls, serves}
use Rattle.rx_closing.proofs.Working.LoneOf.{LoneOf, lone, lone_asked, lone_served}
use Rattle.rx_closing.proofs.Working.PassesOf.{RoundOf, counts_asked, drained_asked, drained_served, round_of}
use Rattle.rx_closing.proofs.Working.StandsFrom.{GivesOf, StandsFrom, asked_at, asked_first, asked_stood, first_for}
use Rattle.rx_closing.proofs.Working.StandsFrom.{one_at, one_y, one_z, round_for, served_at, served_first, served_stood}
use Rattle.rx_closing.proofs.Working.StandsFrom.{stands_at}
use Rattle.rx_closing.proofs.Working.WorkHere.{stood_between}

-- a call isn't known, or isn't at work
abbrev pub IsIdle : Option CallRecord → Type 0
IsIdle o = (r : CallRecord) → o ≡ Some r → is_active r.life ≡ false

-- it stays so where it stands
idle_stays : (o p : Option CallRecord) → StandsOf o p → IsIdle o → IsIdle p
idle_stays None None stands idle r is = absurd (let no : ◌≡◌ {A = Option CallRecord} None (Some r) = is in cc (no))
idle_stays None (Some b) stands idle r is = absurd stands
idle_stays (Some a) None stands idle r is = absurd stands
idle_stays (Some a) (Some b) stands idle r is =
    (let same : b ≡ r = (let both : ◌≡◌ {A = Option CallRecord} (Some b) (Some r) = is in cc (both)) in
    ap (λ (q : CallRecord). is_active q.life) (sym same) ∙ ap is_active stands.life ∙ idle a refl)

module _ (g : Handlers) (ls : List Numbered) (servable : AreServable g) (server : Node) (ms : List Member)
    (y z u : Stage) (so : StandsFrom g ls server ms y z u) (rest_z : (n : ℕ) × Chain g n z u) (m : Member)
    (inside : In m ms) where
  abbrev c : CallName
  c = m.call

  abbrev k : ℕ
  k = m.index

  abbrev client : Node
  client = m.client

  abbrev cs : List CallName
  cs = names_of ms

  -- one round more
  on : (i : ℕ) (v w : Stage) → Chain g i z v → RoundMade g v w → Chain g (i + 1) z w
  on i v w front r = chain_both g i 1 z v w front (chain_more 0 v w w r (chain_none w))

  -- a round that gives something of it, gives something at an end
  said : (v w : Stage) (r : RoundMade g v w) (f : RoundFor g ls cs c k client server v w r)
      → OneOf c k client server v → GivesOf g m v w r
      → (seen_polls g ls servable cs c k client server v w r f).asks ≡ []
      → (seen_polls g ls servable cs c k client server v w r f).answers ≡ [] → ⊥
  said v w r f one gives none_c none_s =
      gave_none c k client server server.host (serves g ls servable cs c k client server v w r f).service v r.polled
      one.world (seen_polls g ls servable cs c k client server v w r f) none_c none_s gives.0 gives.1 gives.2.message
      gives.2.reads gives.2.stream r.polled.stage.history gives.2.said

  -- a round of both ends, and one of one end; a round that gives something of the call gives something there
  abbrev pub BothGave : (v w : Stage) → RoundMade g v w → Ends → Ends → Type 0
  BothGave v w r e f =
      (q : Round client.setup server.setup e f)
      × (GivesOf g m v w r → q.passes.out_c ≡ [] → q.passes.out_s ≡ [] → ⊥)

  abbrev pub LoneGave : Setup → (v w : Stage) → RoundMade g v w → Lone → Lone → Type 0
  LoneGave setup v w r e f = (q : LoneRound setup true e f) × (GivesOf g m v w r → q.out ≡ [] → ⊥)

  -- ---- at work at both ends

  module _ (a : IsAsked c k client z) (b : IsServing c server z) where
    -- at a stage, each end standing as it did
    record Works (v : Stage) : Type 0 where
      work : AtWork c k client server v
      asked : StandsAt a.call work.asked
      served : StandsAt b.call work.served

    works_at : EachStage g z u 0 Works
    works_at i n v front rest many =
        (let p = asked_at g ls server ms y z u so rest_z m inside a i n v front rest many in
        let q = served_at g ls server ms y z u so rest_z m inside b i n v front rest many in
        record {
          work = at_work_of c k client server v (one_at g ls server ms y z u so rest_z m inside i n v front rest many)
              p.asked q.served;
          asked = p.stands;
          served = q.stands;
        })

    pub work_at : EachStage g z u 0 (AtWork c k client server)
    work_at i n v front rest many = (works_at i n v front rest many).work

    -- both ends are drained
    abbrev Drained : Stage → Type 0
    Drained v =
        IsDrained (looks_or (asked_in c k client v)).received × IsDrained (looks_or (served_in c server v)).received

    round_drained : (v w : Stage) (r : RoundMade g v w) → RoundFor g ls cs c k client server v w r
        → AtWork c k client server v → AtWork c k client server w → Drained w
    round_drained v w r f p q = (
      subst (λ (o : Option CallRecord). IsDrained (looks_or o).received) (sym q.asked_is)
          (drained_asked g ls servable cs c k client server v w r f p q),
      subst (λ (o : Option CallRecord). IsDrained (looks_or o).received) (sym q.served_is)
          (drained_served g ls servable cs c k client server v w r f p q),
    )

    drained_z : Drained z
    drained_z =
        round_drained y z so.first (first_for g ls server ms y z u so rest_z m inside)
        (at_work_of c k client server y (one_y g ls server ms y z u so rest_z m inside)
        (asked_first g ls server ms y z u so rest_z m inside a).0
        (served_first g ls server ms y z u so rest_z m inside b).0)
        (at_work_of c k client server z (one_z g ls server ms y z u so rest_z m inside) a b)

    drained_from : (j i n : ℕ) (x v : Stage) → Chain g j z x → Chain g i x v → Chain g n v u → Drained x → Drained v
    drained_from j i n x v front (chain_none o) rest was = was
    drained_from j i n x v front (chain_more h o d e r others) rest was =
        (let next = on j o d front r in
        let tail = chain_both g h n d e u others rest in
        drained_from (j + 1) h n d e next others rest
        (round_drained o d r
        (round_for g ls server ms y z u so rest_z m inside j (h + n) o d front r tail (omega arith))
        (work_at j (suc (h + n)) o front (chain_more (h + n) o d u r tail) (omega arith))
        (work_at (j + 1) (h + n) d next tail (omega arith))))

    pub drained_at : EachStage g z u 0 Drained
    drained_at i n v front rest many = drained_from 0 i n z v (chain_none z) front rest drained_z

    ends_same : (v : Stage) (p : AtWork c k client server v)
        → ends_of c k client server v p ≡ both_ends c k client server v
    ends_same v p = λ j. record {
      client = looks_or (sym p.asked_is j);
      server = looks_or (sym p.served_is j);
      client_now = moment (suc k) v.history;
      server_now = moment 0 v.history;
    }

    -- its rounds
    pub both_rounds : EachRound g z u 2 (λ v w r. (q : Round client.setup server.setup (both_ends c k client server v)
        (both_ends c k client server w)) × (GivesOf g m v w r → q.passes.out_c ≡ [] → q.passes.out_s ≡ [] → ⊥))
    both_rounds i n v w front r rest many =
        (let f : RoundFor g ls cs c k client server v w r =
        round_for g ls server ms y z u so rest_z m inside i n v w front r rest (omega arith) in
        let p : Works v = works_at i (suc n) v front (chain_more n v w u r rest) (omega arith) in
        let q : Works w = works_at (i + 1) n w (on i v w front r) rest (omega arith) in
        let d = drained_at i (suc n) v front (chain_more n v w u r rest) (omega arith) in
        let o : RoundOf g ls servable cs c k client server v w r f p.work q.work =
        round_of g ls servable cs c k client server v w r f p.work q.work
        (stood_between a.call p.work.asked q.work.asked p.asked q.asked)
        (stood_between b.call p.work.served q.work.served p.served q.served)
        (subst (λ (x : Option CallRecord). IsDrained (looks_or x).received) p.work.asked_is d.0)
        (subst (λ (x : Option CallRecord). IsDrained (looks_or x).received) p.work.served_is d.1) in
        subst (λ (e : Ends). BothGave v w r e (both_ends c k client server w)) (ends_same v p.work)
        (subst (λ (e : Ends). BothGave v w r (ends_of c k client server v p.work) e) (ends_same w q.work) (
          o.round,
          λ gives none_c none_s.
              (let both = o.loud none_c none_s in said v w r f p.work.scene gives both.0 both.1),
        )))

    -- behind each of them a piece of the request counts that isn't acknowledged, where the request isn't shut
    pub counts_at : EachRound g z u 0 (λ v w r. (looks_or (asked_in c k client w)).sent.shut ≡ false
        → (looks_or (asked_in c k client w)).sent.acked < counting_of (looks_or (asked_in c k client w)).sent)
    counts_at i n v w front r rest many =
        (let p = work_at i (suc n) v front (chain_more n v w u r rest) (omega arith) in
        let q = work_at (i + 1) n w (on i v w front r) rest (omega arith) in
        subst (λ (o : Option CallRecord). (looks_or o).sent.shut ≡ false
        → (looks_or o).sent.acked < counting_of (looks_or o).sent) (sym q.asked_is)
        (counts_asked g ls servable cs c k client server v w r
        (round_for g ls server ms y z u so rest_z m inside i n v w front r rest many) p q))

  -- ---- at work at one end

  idle_asked : IsIdle (asked_in c k client z) → EachStage g z u 0 (λ v. IsIdle (asked_in c k client v))
  idle_asked idle i n v front rest many =
      idle_stays (asked_in c k client z) (asked_in c k client v)
      (stands_at g ls server ms y z u so rest_z m inside i n v front rest many).0 idle

  idle_served : IsIdle (served_in c server z) → EachStage g z u 0 (λ v. IsIdle (served_in c server v))
  idle_served idle i n v front rest many =
      idle_stays (served_in c server z) (served_in c server v)
      (stands_at g ls server ms y z u so rest_z m inside i n v front rest many).1 idle

  no_work : {A : Type 0} (r : CallRecord) → is_active r.life ≡ true → is_active r.life ≡ false → A
  no_work r works idle = absurd (let never : ◌≡◌ {A = Bool} true false = sym works ∙ idle in cc (never))

  -- an end that isn't at work rests
  asked_rests : (v : Stage) → IsIdle (asked_in c k client v) → RestsAt c (looks_of v (suc k) client)
  asked_rests v idle r there works = no_work r works (idle r there)

  served_rests : (v : Stage) → IsIdle (served_in c server v) → RestsAt c (looks_of v 0 server)
  served_rests v idle r there works = no_work r works (idle r there)

  -- its rounds at its client, where its server gives nothing
  pub asked_rounds : IsAsked c k client z → IsIdle (served_in c server z)
      → EachRound g z u 2 (λ v w r. (q : LoneRound client.setup true (lone_end c (suc k) client v)
      (lone_end c (suc k) client w)) × (GivesOf g m v w r → q.out ≡ [] → ⊥))
  asked_rounds a idle i n v w front r rest many =
      (let f : RoundFor g ls cs c k client server v w r =
      round_for g ls server ms y z u so rest_z m inside i n v w front r rest (omega arith) in
      let more : Chain g (suc n) v u = chain_more n v w u r rest in
      let one : OneOf c k client server v = one_at g ls server ms y z u so rest_z m inside i (suc n) v front more
      (omega arith) in
      let p = asked_at g ls server ms y z u so rest_z m inside a i (suc n) v front more (omega arith) in
      let q = asked_at g ls server ms y z u so rest_z m inside a (i + 1) n w (on i v w front r) rest (omega arith) in
      let o : LoneOf g ls servable cs c k client server v w r f client.setup
      (lone p.asked.call.looks (moment (suc k) v.history)) (lone q.asked.call.looks (moment (suc k) w.history)) =
      lone_asked g ls servable cs c k client server v w r f p.asked q.asked
      (asked_stood g ls server ms y z u so rest_z m inside a v w p q)
      (served_rests v (idle_served idle i (suc n) v front more (omega arith)))
      (hushed_none c (looks_of v 0 server)
      (so.bare i (suc n) v front more (omega (arith, many)) 0 server one.server_there)) in
      subst (λ (e : Lone). LoneGave client.setup v w r e (lone_end c (suc k) client w))
      (λ j. record { end = looks_or (sym p.asked.there j); now = moment (suc k) v.history })
      (subst (λ (e : Lone). LoneGave client.setup v w r (lone p.asked.call.looks (moment (suc k) v.history)) e)
      (λ j. record { end = looks_or (sym q.asked.there j); now = moment (suc k) w.history })
      (o.round, λ gives none. (let both = o.loud none in said v w r f one gives both.0 both.1))))

  -- and at its server, where its client gives nothing
  pub served_rounds : IsServing c server z → IsIdle (asked_in c k client z)
      → EachRound g z u 2 (λ v w r. (q : LoneRound server.setup true (lone_end c 0 server v) (lone_end c 0 server w))
      × (GivesOf g m v w r → q.out ≡ [] → ⊥))
  served_rounds b idle i n v w front r rest many =
      (let f : RoundFor g ls cs c k client server v w r =
      round_for g ls server ms y z u so rest_z m inside i n v w front r rest (omega arith) in
      let more : Chain g (suc n) v u = chain_more n v w u r rest in
      let one : OneOf c k client server v = one_at g ls server ms y z u so rest_z m inside i (suc n) v front more
      (omega arith) in
      let p = served_at g ls server ms y z u so rest_z m inside b i (suc n) v front more (omega arith) in
      let q = served_at g ls server ms y z u so rest_z m inside b (i + 1) n w (on i v w front r) rest (omega arith) in
      let o : LoneOf g ls servable cs c k client server v w r f server.setup
      (lone p.served.call.looks (moment 0 v.history)) (lone q.served.call.looks (moment 0 w.history)) =
      lone_served g ls servable cs c k client server v w r f p.served q.served
      (served_stood g ls server ms y z u so rest_z m inside b v w p q)
      (asked_rests v (idle_asked idle i (suc n) v front more (omega arith)))
      (hushed_none c (looks_of v (suc k) client)
      (so.bare i (suc n) v front more (omega (arith, many)) (suc k) client one.client_there)) in
      subst (λ (e : Lone). LoneGave server.setup v w r e (lone_end c 0 server w))
      (λ j. record { end = looks_or (sym p.served.there j); now = moment 0 v.history })
      (subst (λ (e : Lone). LoneGave server.setup v w r (lone p.served.call.looks (moment 0 v.history)) e)
      (λ j. record { end = looks_or (sym q.served.there j); now = moment 0 w.history })
      (o.round, λ gives none. (let both = o.loud none in said v w r f one gives both.0 both.1))))

  -- ---- at work at neither

  pub none_rounds : IsIdle (asked_in c k client z) → IsIdle (served_in c server z)
      → EachRound g z u 2 (λ v w r. GivesOf g m v w r → ⊥)
  none_rounds idle_c idle_s i n v w front r rest many gives =
      (let f : RoundFor g ls cs c k client server v w r =
      round_for g ls server ms y z u so rest_z m inside i n v w front r rest (omega arith) in
      let more : Chain g (suc n) v u = chain_more n v w u r rest in
      let q = seen_polls g ls servable cs c k client server v w r f in
      said v w r f (one_at g ls server ms y z u so rest_z m inside i (suc n) v front more (omega arith)) gives
      (end_rested client.setup c server.host _ _ _ _ _ _ q.asks
      (asked_rests v (idle_asked idle_c i (suc n) v front more (omega arith))) q.client_end).0
      (end_rested server.setup c c.host _ _ _ _ _ _ q.answers
      (served_rests v (idle_served idle_s i (suc n) v front more (omega arith))) q.server_end).0)
