-- Of each datagram that a round's polls give, of a call's stream: some node gave it in that round when the call lived
-- there. So data of the channel of a call that lives at its client all the time is that call's, where its server takes
-- it.
use Rattle.std.proofs.Common.{◌≡◌, ℕ, suc, true, List, ◌∷◌, Option, Some, Ok, refl, inl, ◌∙◌, ap, sym, subst}
use Rattle.std.specs.Prelude.{slice_get}
use Rattle.rx_model.specs.declared.event.Event.TheVariants as events
use Rattle.rx_model.specs.declared.event.Noted.{Noted}
use Rattle.rx_model.specs.declared.names.CallName.{CallName}
use Rattle.rx_model.specs.declared.names.Host.{Host}
use Rattle.rx_model.specs.declared.wire.TheConstants.{CLIENT_INITIATED}
use Rattle.rx_model.specs.Message.{Message, has_flag}
use Rattle.rx_model.specs.Names.{Channel, channel_of}
use Rattle.rx_model.specs.Reading.{reading_of}
use Rattle.rx_rules.specs.After.{looks}
use Rattle.rx_rules.specs.Items.{poll_answer}
use Rattle.rx_rules.specs.Life.{is_live}
use Rattle.rx_rules.specs.Life as lives
use Rattle.rx_rules.specs.Looks.{CallRecord, call_at, call_named, channel_at}
use Rattle.rx_rules.specs.Rules.{AllowedAt, Legal}
use Rattle.rx_rules.specs.Setup.{Client, FitsSetup, Kind, Server, is_client, named}
use Rattle.rx_rules.proofs.EveryLaws.{Every}
use Rattle.rx_history.specs.Sides.{Node, side}
use Rattle.rx_law.proofs.World.{gave-mine, if-some}
use Rattle.rx_law.specs.Worlds.{AreNodes, Datagram}
use Rattle.rx_jobs.specs.Handlers.{Handlers}
use Rattle.rx_wire.specs.Turns.{noted}
use Rattle.rx_plan.specs.Stages.{Stage}
use Rattle.rx_rounds.proofs.Rounded.{RoundMade}
use Rattle.rx_closing.specs.Living.{looks_of}
use Rattle.rx_closing.proofs.Far.FarStands.{scene_fed}
use Rattle.rx_closing.proofs.Frame.{Crowd, OneOf, asked_in}
use Rattle.rx_closing.proofs.Living.Before.{one_before}
use Rattle.rx_closing.proofs.Living.ClientOf.{flagged}
use Rattle.rx_closing.proofs.Living.CrowdRounds.{IsCrowd, IsSome, SaidFor, crowd_carried, fits_at, legal_at, named_for}
use Rattle.rx_closing.proofs.Living.CrowdWithin.{AllSince, since_carried, since_first}
use Rattle.rx_closing.proofs.Living.Crowds.{crowd_now}
use Rattle.rx_closing.proofs.Living.LifeBetween.{asked_between, asked_last_at}
use Rattle.rx_closing.proofs.Messages.Lasts.{live_last}
use Rattle.rx_closing.proofs.Messages.Rows.{IsLast}
use Rattle.rx_closing.proofs.Owing.TooMuch.{data_stream}
use Rattle.rx_closing.proofs.Polls.LiveGivings.{poll_lives}
use Rattle.rx_closing.proofs.Rounds.Chains.{Adds, RoundAdds, adds_both, adds_none, adds_one, round_adds}
use Rattle.rx_closing.proofs.Rounds.ClientsApart.{one_client, own_call_kind}
use Rattle.rx_closing.proofs.Rounds.EventParts.{kind_client}
use Rattle.rx_closing.proofs.Rounds.RoundEvents.{Carries, IsNext, RoundHolds, every_weaker, round_holds}
use Rattle.rx_closing.proofs.Unknown.HandledLeft.{IsCalm}
use Rattle.rx_history.proofs.Plain.PlainBodies.{IsSent}

-- ---- what was given since

-- what is said of a call's stream was given since a moment, when that call lived at its giver
pub record SaidSince (nodes : List Node) (from h : List Noted) (d : Datagram) (m : Message) : Type 0 where
  pub name : CallName
  pub said : SaidFor nodes name h d m
  pub after_it : Adds from said.given

abbrev pub SaysSince : List Node → List Noted → List Noted → Datagram → Type 0
SaysSince nodes from h d =
    (m : Message) → reading_of d.bytes ≡ Ok m → IsSent m.body → SaidSince nodes from h d m

-- what is carried is carried with more that is so of each datagram
carries_with : (nodes : List Node) (D E : List Noted → Datagram → Type 0) (P : List Noted → Type 0)
    → ((h : List Noted) (e : Noted) (d : Datagram) → E h d → E (e ∷ h) d)
    → ((h : List Noted) (node : ℕ) (n : Node) (to : Host) (bytes : List ℕ)
    → IsNext nodes h node n (events.Polled (Some (to, bytes))) → P h
    → E (noted node (events.Polled (Some (to, bytes))) ∷ h) (record { from = n.host; to = to; bytes = bytes }))
    → Carries nodes D P → Carries nodes (λ h d. D h d × E h d) P
carries_with nodes D E P stays gives c =
    record {
      stays = λ h e d both. (c.stays h e d both.0, stays h e d both.1);
      polls = c.polls;
      gives = λ h node n to bytes next here. (c.gives h node n to bytes next here, gives h node n to bytes next here);
      takes = λ h node n d e next is to both here. c.takes h node n d e next is to both.0 here;
      clocks = c.clocks;
      serves = c.serves;
      calls = c.calls;
    }

module _ (nodes : List Node) (are : AreNodes nodes) (cs : List CallName) (from : List Noted) where
  since_stays : (h : List Noted) (e : Noted) (d : Datagram) → SaysSince nodes from h d
      → SaysSince nodes from (e ∷ h) d
  since_stays h e d says m reads stream =
      (let f = says m reads stream in
      record {
        name = f.name;
        said = record {
          index = f.said.index;
          node = f.said.node;
          there = f.said.there;
          host = f.said.host;
          call = f.said.call;
          flag = f.said.flag;
          given = f.said.given;
          since = adds_one f.said.given h e f.said.since;
          record_ = f.said.record_;
          had = f.said.had;
          lives = f.said.lives;
        };
        after_it = f.after_it;
      })

  since_gives : (h : List Noted) (node : ℕ) (n : Node) (to : Host) (bytes : List ℕ)
      → IsNext nodes h node n (events.Polled (Some (to, bytes))) → AllSince (IsCrowd nodes are cs) from h
      → SaysSince nodes from (noted node (events.Polled (Some (to, bytes))) ∷ h)
      (record { from = n.host; to = to; bytes = bytes })
  since_gives h node n to bytes next all m reads stream =
      (let here = all.each h all.since (adds_none h) in
      let fits : FitsSetup n.setup = fits_at nodes are cs node n next.there in
      let legal : Legal n.setup (side node h) = legal_at nodes are cs h node n next.there here.allowed in
      let lives_ = poll_lives n.setup (side node h) fits legal to bytes m reads stream
      (answers n.setup.kind next.allowed) in
      record {
        name = named n.setup to m;
        said = record {
          index = node;
          node = n;
          there = next.there;
          host = refl;
          call = refl;
          flag =
              (gave-mine n.setup (events.Polled (Some (to, bytes)) ∷ side node h) to bytes m fits (next.allowed, legal)
              (inl (refl, refl)) reads).flag;
          given = h;
          since = adds_one h h (noted node (events.Polled (Some (to, bytes)))) (adds_none h);
          record_ = lives_.call;
          had = lives_.there;
          lives = lives_.living;
        };
        after_it = all.since;
      })
    where
      answers : (kind : Kind) → AllowedAt kind n.setup (looks n.setup (side node h)) (events.Polled (Some (to, bytes)))
          → poll_answer n.setup (looks n.setup (side node h)) ≡ Some (to, bytes)
      answers (Server service nonces) allowed = sym allowed
      answers (Client host epoch) allowed = sym allowed

-- each datagram of a round's polls says such things
pub said_since : (cs : List CallName) (s : Stage) → (z : Crowd cs s) → (g : Handlers) (t : Stage)
    → (r : RoundMade g s t) → Every (SaysSince s.nodes s.history r.polled.stage.history) r.polled.given
said_since cs s z g t r =
    every_weaker
    (λ (d : Datagram). Said r.polled.stage.history d × SaysSince s.nodes s.history r.polled.stage.history d)
    (SaysSince s.nodes s.history r.polled.stage.history) (λ d both. both.1) r.polled.given b.given
  where
    are : AreNodes s.nodes
    are = z.world.sides.nodes_are

    Those : List Noted → Type 0
    Those i = IsCrowd s.nodes z.world.sides.nodes_are cs i

    Said : List Noted → Datagram → Type 0
    Said i d = IsSome s.nodes z.world.sides.nodes_are cs i d

    b : RoundHolds s.nodes (λ i d. Said i d × SaysSince s.nodes s.history i d) (AllSince Those s.history) g s t r
    b =
        round_holds s.nodes (λ i d. Said i d × SaysSince s.nodes s.history i d) (AllSince Those s.history)
        (carries_with s.nodes Said (SaysSince s.nodes s.history) (AllSince Those s.history)
        (since_stays s.nodes z.world.sides.nodes_are cs s.history)
        (since_gives s.nodes z.world.sides.nodes_are cs s.history)
        (since_carried s.nodes Said Those s.history (crowd_carried s.nodes z.world.sides.nodes_are cs))) g s t r
        (record { nodes_are = refl; so = since_first Those s.history (crowd_now cs s z).so })

-- ---- a call that lives at its client

module _ (cs : List CallName) (c : CallName) (k : ℕ) (client server : Node) (g : Handlers) (s t : Stage)
    (r : RoundMade g s t) (z : Crowd cs s) (one : OneOf c k client server t) (a b : CallRecord)
    (asked_first : asked_in c k client s ≡ Some a) (asked_last : asked_in c k client t ≡ Some b)
    (calls_first : a.life ≡ lives.Calling) (calls_last : b.life ≡ lives.Calling) where
  nodes_are : t.nodes ≡ s.nodes
  nodes_are = (round_adds g s t r).nodes

  to_end : Adds r.polled.stage.history t.history
  to_end =
      (let m : RoundAdds g s t r = round_adds g s t r in
      adds_both r.polled.stage.history r.delivered.history t.history m.delivered
      (adds_both r.delivered.history r.served.history t.history m.served
      (adds_both r.served.history r.called.history t.history m.called m.over)))

  server_there : slice_get s.nodes 0 ≡ Some server
  server_there = ap (λ (ns : List Node). slice_get ns 0) (sym nodes_are) ∙ one.server_there

  -- who gave it is the call's client, and what it says is of the call
  same_call : (d : Datagram) (m : Message) (e : CallName) (said : SaidFor s.nodes e r.polled.stage.history d m)
      → Adds s.history said.given → has_flag CLIENT_INITIATED m.flags ≡ true → channel_of e ≡ channel_of c → e ≡ c
  same_call d m e said since up on = λ i. call_named (on i) (number i)
    where
      up_kind : is_client said.node.setup.kind ≡ true
      up_kind = sym said.flag ∙ up

      till : Adds said.given t.history
      till = adds_both said.given r.polled.stage.history t.history said.since to_end

      o : OneOf c k client server (record t { history = said.given })
      o = one_before c k client server t one (record t { history = said.given }) refl till

      giver_there : slice_get t.nodes said.index ≡ Some said.node
      giver_there = ap (λ (ns : List Node). slice_get ns said.index) nodes_are ∙ said.there

      giver_fits : FitsSetup said.node.setup
      giver_fits =
          if-some (slice_get t.nodes said.index) said.node (λ (n : Node). FitsSetup n.setup) giver_there
          (o.world.sides.nodes_are.fits said.index)

      giver_legal : Legal said.node.setup (side said.index said.given)
      giver_legal =
          if-some (slice_get t.nodes said.index) said.node (λ (n : Node). Legal n.setup (side said.index said.given))
          giver_there (o.world.sides.legal said.index)

      giver_kind : said.node.setup.kind ≡ Client c.host c.epoch
      giver_kind =
          (let q = kind_client said.node.setup.kind up_kind in
          own_call_kind said.node.setup (side said.index said.given) e said.record_ q.0 q.1.0 q.1.1 giver_fits
          giver_legal said.had
          ∙ (λ i. Client (on i).connection.host (on i).connection.epoch))

      index_is : said.index ≡ suc k
      index_is =
          one_client t.nodes c said.index (suc k) said.node client o.world.apart giver_there o.client_there giver_kind
          o.client_is

      node_is : said.node ≡ client
      node_is =
          (let both : ◌≡◌ {A = Option Node} (Some said.node) (Some client) =
          sym giver_there ∙ ap (slice_get t.nodes) index_is ∙ o.client_there in cc (both))

      had : call_at (looks client.setup (side (suc k) said.given)) e ≡ Some said.record_
      had =
          subst (λ (n : Node). call_at (looks n.setup (side (suc k) said.given)) e ≡ Some said.record_) node_is
          (subst (λ (j : ℕ). call_at (looks said.node.setup (side j said.given)) e ≡ Some said.record_) index_is
          said.had)

      last_e : IsLast (looks_of (record t { history = said.given }) (suc k) client) e said.record_
      last_e =
          live_last client.setup (side (suc k) said.given) e said.record_
          (scene_fed c k client server (record t { history = said.given }) o).client_fits
          (scene_fed c k client server (record t { history = said.given }) o).client_legal had said.lives

      m_ : (q : CallRecord) × (asked_in c k client (record t { history = said.given }) ≡ Some q) × (q.life ≡ a.life)
      m_ =
          asked_between c k client server t one s (record t { history = said.given }) since till a b asked_first
          asked_last (calls_last ∙ sym calls_first)

      last_c : IsLast (looks_of (record t { history = said.given }) (suc k) client) c m_.0
      last_c =
          asked_last_at c k client server t one s (record t { history = said.given }) since till m_.0 m_.1
          (ap is_live (m_.2 ∙ calls_first))

      number : e.number ≡ c.number
      number =
          sym last_e.number
          ∙ ap (λ (ch : Channel). (channel_at (looks client.setup (side (suc k) said.given)) ch).number) on
          ∙ last_c.number

  -- so all data of the call's channel that the server takes is the call's
  calm_one : (d : Datagram) → SaysSince s.nodes s.history r.polled.stage.history d → IsCalm server c d
  calm_one d says l m to reads front on data_ =
      (let f = says m reads (data_stream m.body data_) in
      let name : named server.setup d.from m ≡ f.name =
      named_for s.nodes z.world.sides.nodes_are cs 0 server l d m d.from server_there refl to f.name
      r.polled.stage.history f.said front in
      name
      ∙ same_call d m f.name f.said f.after_it
      (flagged server.setup server.setup.kind l d.from m (scene_fed c k client server t one).server_kind front)
      (ap channel_of (sym name) ∙ on))

  pub calm_given : Every (IsCalm server c) r.polled.given
  calm_given =
      every_weaker (SaysSince s.nodes s.history r.polled.stage.history) (IsCalm server c) calm_one r.polled.given
      (said_since cs s z g t r)
