-- A BUSY that a channel of the server owes of a call as a round begins is heard by the call at its client in that
-- round.
use Rattle.std.proofs.Common.{◌≡◌, ◌≤◌, ◌++◌, cond, ℕ, suc, true, List, Option, Some, None, option_map, refl, ◌∙◌, ap}
use Rattle.std.proofs.Common.{sym, subst, arith}
use Rattle.rx_model.specs.declared.answers.Took.{Took}
use Rattle.rx_model.specs.declared.answers.Took.TheVariants as tooks
use Rattle.rx_model.specs.declared.event.Event.{Event}
use Rattle.rx_model.specs.declared.event.Event.TheVariants as events
use Rattle.rx_model.specs.declared.event.Noted.{Noted}
use Rattle.rx_model.specs.declared.names.CallName.{CallName}
use Rattle.rx_model.specs.declared.names.Host.{Host}
use Rattle.rx_model.specs.Body.{Body}
use Rattle.rx_model.specs.Body as bodies
use Rattle.rx_model.specs.Message.{Message}
use Rattle.rx_model.specs.Names.{channel_of, connection_of, name_of, same_host}
use Rattle.rx_model.specs.Strays.{is_stray}
use Rattle.rx_model.proofs.NameLaws.{host_itself, name_itself}
use Rattle.rx_rules.specs.After.{after, looks, prepared, taken_at, taken_heard, taken_with}
use Rattle.rx_rules.specs.CallLooks.{after_taken, call_row}
use Rattle.rx_rules.specs.Classes.{Class}
use Rattle.rx_rules.specs.Judging.{Facts, client_row, facts_of, is_for_clients, is_peer, live_row, opened, outer_row}
use Rattle.rx_rules.specs.Judging.{own_row, row_at, side_row, took_named, took_of}
use Rattle.rx_rules.specs.Life.{is_active, is_live}
use Rattle.rx_rules.specs.Life as lives
use Rattle.rx_rules.specs.Looks.{CallRecord, Looks, call_at, channel_at, conn_at, is_call}
use Rattle.rx_rules.specs.Rules.{Legal}
use Rattle.rx_rules.specs.Setup.{Client, Kind, Setup, client_host, is_client, named}
use Rattle.rx_rules.specs.Slots.{node_view}
use Rattle.rx_history.proofs.Calls.{call-changed}
use Rattle.rx_history.proofs.Events.{call-by, calls-prepared}
use Rattle.rx_history.proofs.Moments.{now-prepared, now-side}
use Rattle.rx_history.specs.Sides.{Node, moment, side}
use Rattle.rx_law.proofs.Joint.{Fed}
use Rattle.rx_law.specs.Promises.{ends_in}
use Rattle.rx_law.specs.Worlds.{Datagram}
use Rattle.rx_jobs.specs.Handlers.{Handlers}
use Rattle.rx_plan.specs.Stages.{Stage}
use Rattle.rx_plan.proofs.JointMoments.{legal_cut}
use Rattle.rx_between.proofs.Each.EachChange.{some_is}
use Rattle.rx_between.proofs.Each.EachItem.{In}
use Rattle.rx_rounds.proofs.Rounded.{RoundMade}
use Rattle.rx_closing.specs.Living.{looks_of}
use Rattle.rx_closing.proofs.Conns.PeersTo.{peer_of}
use Rattle.rx_closing.proofs.Conns.PlanLinks.{linked_round}
use Rattle.rx_closing.proofs.Conns.PlanPeers.{AreLinked}
use Rattle.rx_closing.proofs.Far.FarStands.{scene_fed}
use Rattle.rx_closing.proofs.Frame.{OneOf, asked_in}
use Rattle.rx_closing.proofs.Living.LifeBetween.{asked_between, asked_last_at}
use Rattle.rx_closing.proofs.Messages.Arrives.{Meet}
use Rattle.rx_closing.proofs.Messages.Judged.{judged_by, taken_by}
use Rattle.rx_closing.proofs.Messages.OneMeets.{one_peers}
use Rattle.rx_closing.proofs.Messages.Rows.{IsLast, client_front_by, known_by, latest_is, opens_none, client_past}
use Rattle.rx_closing.proofs.Messages.Rows.{passes_rows}
use Rattle.rx_closing.proofs.Rounds.Chains.{Adds, adds_both}
use Rattle.rx_closing.proofs.Rounds.Lately.{moments_rise}
use Rattle.rx_closing.proofs.Rounds.SpokeHolds.{HeardOn, heard_rises}
use Rattle.rx_closing.proofs.Telling.BusyGiven.{BusyOf, Owes, busy_gives, busy_none_owed}
use Rattle.rx_closing.proofs.Telling.DebtComes.{RoundOf, round_meets, round_of, round_serves}
use Rattle.rx_closing.proofs.Telling.DebtTaken.{TakenIn, taken_in}
use Rattle.rx_closing.proofs.Telling.PollsGive.{gives_in}
use Rattle.rx_law.proofs.Law.{side-split}

-- ---- a client takes a BUSY

client_side : (s : Setup) (host : Host) (epoch : ℕ) (f : Facts) (call : Took) → s.kind ≡ Client host epoch
    → side_row s.kind f call ≡ client_row f call
client_side s host epoch f call kind = ap (λ (q : Kind). side_row q f call) kind

-- of a call at work there it is heard
busy_took : (s : Setup) (host : Host) (epoch : ℕ) (l : Looks) (c : CallName) (k : CallRecord) (m : Message)
    → s.kind ≡ Client host epoch → IsLast l c k → is_active k.life ≡ true → m.number ≡ c.number
    → m.body ≡ bodies.Busy → took_named s l c m ≡ tooks.Heard
busy_took s host epoch l c k m kind last active own at =
    client_side s host epoch (facts_of s l c m) (own_row s (opened s c l) c m) kind
    ∙ client_past (facts_of s l c m) (own_row s (opened s c l) c m)
    (passes_rows s l c m last.number last.some own (ap (is_stray m) at))
    (ap (is_call (λ (r : CallRecord). is_active r.life)) (latest_is l c last.number ∙ last.there) ∙ active)
    ∙ ap (λ (n : Looks). own_row s n c m) (opens_none s l c last.number)
    ∙ ap (λ (o : Option CallRecord). row_at s l o m) last.there
    ∙ ap (live_row s l k m) at ∙ ap (λ (b : Body). call_row (node_view s l) m b k.looks) at

-- the call behind it
busy_there : (s : Setup) (l : Looks) (c : CallName) (k : CallRecord) (m : Message) → IsLast l c k
    → m.body ≡ bodies.Busy
    → call_at (taken_with s tooks.Heard c m (prepared s tooks.Heard (connection_of c) l)) c
    ≡ Some (record k {
      looks = after_taken (node_view s (prepared s tooks.Heard (connection_of c) l)) tooks.Heard m k.looks;
    })
busy_there s l c k m last at =
    ap (λ (b : Body). call_at (taken_heard s c b (taken_at s tooks.Heard c m r)) c) at
    ∙ call-changed c c takes_it r (λ j. refl)
    ∙ ap (λ b. cond b (option_map takes_it (call_at r c)) (call_at r c)) (name_itself c)
    ∙ ap (λ (o : Option CallRecord). option_map takes_it o)
    (call-by c l r (calls-prepared s tooks.Heard (connection_of c) l) ∙ last.there)
  where
    r : Looks
    r = prepared s tooks.Heard (connection_of c) l

    takes_it : CallRecord → CallRecord
    takes_it j = record j { looks = after_taken (node_view s r) tooks.Heard m j.looks }

-- ---- a round

module _ (c : CallName) (k : ℕ) (client server : Node) (g : Handlers) (s t : Stage) (r : RoundMade g s t)
    (one : OneOf c k client server t) where
  q : RoundOf c k client server g s t r
  q = round_of c k client server g s t r one

  abbrev service : ℕ
  service = (round_serves c k client server g s t r one).0

  abbrev nonces : ℕ
  nonces = (round_serves c k client server g s t r one).1

  abbrev meet : Meet c k client server service nonces t.history
  meet = round_meets c k client server g s t r one

  abbrev fed : Fed (ends_in (connection_of c) (suc k) client server) r.delivered.history
  fed = scene_fed c k client server r.delivered (round_of c k client server g s t r one).delivered

  -- the server's BUSY, given in the polls
  given : Owes server.setup meet.fed.server_fits c (looks_of s 0 server)
      → (d : Datagram) × In d r.polled.given × BusyOf server.setup c d × (d.from ≡ server.host)
  given owes =
      gives_in 0 server (λ es. Owes server.setup meet.fed.server_fits c (looks server.setup es))
      (λ d. BusyOf server.setup c d)
      (record {
        none = busy_none_owed server.setup meet.fed.server_fits c;
        gives = λ h to bytes legal o answer.
            busy_gives server.setup meet.fed.server_fits c server.host h to bytes legal o answer;
      }) s r.polled r.polls_are q.begins.server_there (scene_fed c k client server s q.begins).server_legal owes

  module _ (linked : AreLinked s) (d : Datagram) (says : BusyOf server.setup c d) (from : d.from ≡ server.host) where
    to_is : d.to ≡ c.host
    to_is =
        ap (λ (x : Kind). client_host x d.to) (sym meet.server_is) ∙ ap (λ (n : CallName). n.host) says.name

    own : name_of c.host says.message ≡ c
    own =
        ap (λ (x : Host). name_of x says.message) (sym to_is)
        ∙ ap (λ (x : Kind). name_of (client_host x d.to) says.message) (sym meet.server_is) ∙ says.name

    name : named client.setup d.from says.message ≡ c
    name = ap (λ (x : Kind). name_of (client_host x d.from) says.message) meet.client_is ∙ own

    here : same_host d.to client.host ≡ true
    here =
        ap (λ (x : Host). same_host x client.host) (to_is ∙ sym meet.home) ∙ host_itself client.host

    -- the client's record behind it has heard it now
    heard_there : (v : TakenIn client (suc k) d r.polled.stage r.delivered) → (m : CallRecord)
        → IsLast (looks_of v.before (suc k) client) c m → is_active m.life ≡ true
        → (n : CallRecord) × (asked_in c k client v.behind ≡ Some n)
        × (n.looks.heard ≡ (looks_of v.before (suc k) client).now)
    heard_there v m last active = (
      record m { looks = after_taken (node_view client.setup ready) tooks.Heard says.message m.looks },
      ap (λ (x : Looks). call_at x c)
          (ap (looks client.setup) v.took.own
          ∙ ap (λ (got : Took). after client.setup (events.Taken d.from d.bytes got) l) answer
          ∙ taken_by client.setup l c d.from d.bytes says.message tooks.Heard says.reads front name)
          ∙ busy_there client.setup l c m says.message last says.body,
      now-prepared client.setup tooks.Heard (connection_of c) l,
    )
      where
        l : Looks
        l = looks_of v.before (suc k) client

        ready : Looks
        ready = prepared client.setup tooks.Heard (connection_of c) (looks_of v.before (suc k) client)

        back : Adds v.before.history t.history
        back =
            adds_both v.before.history r.delivered.history t.history
            (adds_both v.before.history v.behind.history r.delivered.history v.took_adds v.back) q.to_end

        peer : is_peer d.from (conn_at (looks_of v.before (suc k) client) (connection_of c)) ≡ true
        peer =
            ap (λ (x : Host). is_peer x (conn_at (looks_of v.before (suc k) client) (connection_of c))) from
            ∙ peer_of (looks_of v.before (suc k) client) (connection_of c) server.host
            (one_peers c k client server t one (linked_round g s t r linked).over v.before back)
            (known_by (looks_of v.before (suc k) client) c last.number last.some)

        front : outer_row client.setup client.setup.kind (looks_of v.before (suc k) client) d.from says.message ≡ None
        front =
            client_front_by client.setup c.host c.epoch (looks_of v.before (suc k) client) d.from says.message c
            meet.client_is (says.flag ∙ ap is_client meet.server_is)
            (ap (is_for_clients client.setup.class.challenges) says.body) name peer
            (says.index ∙ sym (ap (λ (x : Class). x.index) (meet.client_open ∙ sym meet.server_open)))

        answer : took_of client.setup (looks_of v.before (suc k) client) d.from d.bytes ≡ tooks.Heard
        answer =
            judged_by client.setup (looks_of v.before (suc k) client) c d.from d.bytes says.message says.reads front
            name ∙ busy_took client.setup c.host c.epoch (looks_of v.before (suc k) client) c m says.message
            meet.client_is last active (ap (λ (n : CallName). n.number) own) says.body

    heard_late : (v : TakenIn client (suc k) d r.polled.stage r.delivered) → (a b : CallRecord)
        → asked_in c k client s ≡ Some a → asked_in c k client r.delivered ≡ Some b → a.life ≡ lives.Calling
        → b.life ≡ lives.Calling → moment (suc k) s.history ≤ b.looks.heard
    heard_late v a b asked_first asked_last calls_first calls_last =
        (let same : on.call ≡ b = some_is on.call b (sym on.there ∙ behind) in
        let high : n.0.looks.heard ≤ b.looks.heard =
        subst (λ (x : CallRecord). n.0.looks.heard ≤ x.looks.heard) same on.heard in
        let now = n.2 in
        let at = now-side client.setup (suc k) v.before.history in
        let low = rises in
        omega arith)
      where
        to_v : Adds s.history v.before.history
        to_v = adds_both s.history r.polled.stage.history v.before.history q.to_polled v.front

        from_v : Adds v.before.history r.delivered.history
        from_v = adds_both v.before.history v.behind.history r.delivered.history v.took_adds v.back

        m : (m : CallRecord) × (asked_in c k client v.before ≡ Some m) × (m.life ≡ a.life)
        m =
            asked_between c k client server r.delivered q.delivered s v.before to_v from_v a b asked_first asked_last
            (calls_last ∙ sym calls_first)

        calling : m.0.life ≡ lives.Calling
        calling = m.2 ∙ calls_first

        last : IsLast (looks_of v.before (suc k) client) c m.0
        last =
            asked_last_at c k client server r.delivered q.delivered s v.before to_v from_v m.0 m.1 (ap is_live calling)

        n : (n : CallRecord) × (asked_in c k client v.behind ≡ Some n)
            × (n.looks.heard ≡ (looks_of v.before (suc k) client).now)
        n = heard_there v m.0 last (ap is_active calling)

        own_side : side (suc k) r.delivered.history ≡ side (suc k) v.back.more ++ side (suc k) v.behind.history
        own_side = ap (side (suc k)) v.back.is ∙ side-split (suc k) v.back.more v.behind.history

        on : HeardOn client.setup (side (suc k) v.back.more ++ side (suc k) v.behind.history) c n.0
        on =
            heard_rises client.setup (side (suc k) v.back.more) (side (suc k) v.behind.history) c n.0 fed.client_fits
            (subst (Legal client.setup) own_side fed.client_legal) n.1

        behind : call_at (looks client.setup (side (suc k) v.back.more ++ side (suc k) v.behind.history)) c ≡ Some b
        behind = ap (λ (es : List Event). call_at (looks client.setup es) c) (sym own_side) ∙ asked_last

        rises : moment (suc k) s.history ≤ moment (suc k) v.before.history
        rises =
            subst (λ (h : List Noted). moment (suc k) s.history ≤ moment (suc k) h) (sym to_v.is)
            (moments_rise client.setup (suc k) to_v.more s.history
            (subst (λ (h : List Noted). Legal client.setup (side (suc k) h)) to_v.is
            (legal_cut client.setup (suc k) from_v.more v.before.history
            (subst (λ (h : List Noted). Legal client.setup (side (suc k) h)) from_v.is fed.client_legal))))

  -- so the call has heard since the round began
  pub busy_comes : AreLinked s → (a b : CallRecord) → asked_in c k client s ≡ Some a
      → asked_in c k client r.delivered ≡ Some b → a.life ≡ lives.Calling → b.life ≡ lives.Calling
      → (channel_at (looks_of s 0 server) (channel_of c)).owed_busy ≡ Some c.number
      → moment (suc k) s.history ≤ b.looks.heard
  busy_comes linked a b asked_first asked_last calls_first calls_last owes =
      (let f = given owes in
      heard_late linked f.0 f.2 f.3
      (taken_in client (suc k) f.0 r.polled.given f.1 (here linked f.0 f.2 f.3) r.polled.stage r.delivered
      q.polled.client_there r.delivers_are) a b asked_first asked_last calls_first calls_last)
