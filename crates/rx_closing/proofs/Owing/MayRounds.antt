-- Along a round through which none of some calls comes further each node owes only what it may: behind its polls it
-- owes nothing beside streams, and each later event of it leaves it so.
use Rattle.std.proofs.Common.{◌≡◌, ◌⊎◌, ◌==◌, ℕ, ℤ, suc, Bool, true, false, List, ◌∷◌, Option, Some, None, Ok, refl}
use Rattle.std.proofs.Common.{inl, inr, ◌∙◌, ap, sym, subst, length}
use Rattle.std.specs.Prelude.{IfSome, slice_get}
use Rattle.rx_model.specs.declared.event.Event.{Event}
use Rattle.rx_model.specs.declared.event.Event.TheVariants as events
use Rattle.rx_model.specs.declared.event.Noted.{Noted}
use Rattle.rx_model.specs.declared.names.CallName.{CallName}
use Rattle.rx_model.specs.declared.names.Host.{Host}
use Rattle.rx_model.specs.Message.{Message}
use Rattle.rx_model.specs.Reading.{reading_of}
use Rattle.rx_model.proofs.NameLaws.{number_itself, same_number}
use Rattle.rx_rules.specs.After.{looks}
use Rattle.rx_rules.specs.Items.{poll_answer}
use Rattle.rx_rules.specs.Life.{Life, is_active, is_live}
use Rattle.rx_rules.specs.Life as lives
use Rattle.rx_rules.specs.Looks.{CallRecord, call_at}
use Rattle.rx_rules.specs.Rules.{AllowedAt, Legal}
use Rattle.rx_rules.specs.Setup.{Client, FitsSetup, IsServer, Kind, Server, is_client, named}
use Rattle.rx_history.specs.Sides.{Node, side}
use Rattle.rx_history.proofs.Laws.OnceLaw.{served}
use Rattle.rx_law.specs.Worlds.{AreNodes, Datagram}
use Rattle.rx_law.proofs.World.{and-some, gave-mine, if-some}
use Rattle.rx_asks.specs.Asks.{Asking, IsAsked as IsAskedBy}
use Rattle.rx_asks.specs.History.{IsCalled}
use Rattle.rx_events.specs.Events.{IsTaken}
use Rattle.rx_jobs.specs.Handlers.{Handlers}
use Rattle.rx_jobs.specs.Jobs.{Ask, IsCall}
use Rattle.rx_wire.specs.Turns.{noted}
use Rattle.rx_plan.proofs.Callers.{side_other, side_own}
use Rattle.rx_plan.proofs.ClientEnds.{IsCalledOr, calls_called}
use Rattle.rx_plan.specs.Stages.{Stage}
use Rattle.rx_between.proofs.Each.EachItem.{In}
use Rattle.rx_rounds.proofs.Rounded.{RoundMade}
use Rattle.rx_closing.proofs.Frame.{served_in}
use Rattle.rx_closing.proofs.Living.CrowdRounds.{IsCrowd, IsSome, among_at, crowd_carried, fits_at, legal_at}
use Rattle.rx_closing.proofs.Living.Crowds.{crowd_now}
use Rattle.rx_closing.proofs.Owing.AreStill.{AreStill, IsEnd, adds_less, end_of, ends_never, named_in, was}
use Rattle.rx_closing.proofs.Owing.EndsThere.{Ends, asked_off, call_goes, clock_goes, serve_goes}
use Rattle.rx_closing.proofs.Owing.MayGo.{GoesFor, holds_after}
use Rattle.rx_closing.proofs.Owing.MayNone.{none_may}
use Rattle.rx_closing.proofs.Owing.MayOwe.{EachMay}
use Rattle.rx_closing.proofs.Owing.MayTakes.{mute_at, take_goes}
use Rattle.rx_closing.proofs.Owing.OutOwesNone.{out_owes_none}
use Rattle.rx_closing.proofs.Owing.StillOwed.{AbortAt, AckAllAt, AllMay, FromClient, FromServer, IsLively, SaidStill}
use Rattle.rx_closing.proofs.Polls.LiveGivings.{LivesIn, poll_lives}
use Rattle.rx_closing.proofs.Polls.PolledAll.{all_polled_out}
use Rattle.rx_closing.proofs.Rounds.Chains.{Adds, adds_none, adds_one}
use Rattle.rx_closing.proofs.Rounds.EventParts.{kind_client, kind_other}
use Rattle.rx_closing.proofs.Rounds.RoundEvents.{At, Carries, Gave, IsNext, calls_lead, deliveries_lead, polls_lead}
use Rattle.rx_closing.proofs.Rounds.RoundEvents.{serve_lead, settles_lead}
use Rattle.rx_closing.proofs.Together.Members.{Member, names_of}
use Rattle.rx_progress.proofs.LawsMoves.{server_side}
use Rattle.rx_history.proofs.Plain.PlainBodies.{IsSent}

-- ---- lives

-- one that lives is at work or broken
live_active : (x : Life) → is_live x ≡ true → ((code : ℤ) → x ≡ lives.Broken code → ⊥) → is_active x ≡ true
live_active (lives.Ended end) living whole = living
live_active (lives.Broken code) living whole = absurd (whole code refl)
live_active (lives.Over code) living whole = living
live_active _ living whole = refl

-- a client's that lives is asked
live_calls : (x : Life) → is_live x ≡ true → IsCalled x → x ≡ lives.Calling
live_calls lives.Calling living called = refl
live_calls (lives.Ended end) living called = absurd cc
live_calls _ living called = absurd called

module _ (server : Node) (ms : List Member) (s t : Stage) (a : AreStill server ms s t) where
  abbrev are : AreNodes s.nodes
  are = a.crowd.world.sides.nodes_are

  abbrev cs : List CallName
  cs = names_of ms

  abbrev Crowds : List Noted → Type 0
  Crowds h = IsCrowd s.nodes are cs h

  abbrev Lively : List Noted → Datagram → Type 0
  Lively h d = IsLively server ms s are t.history h d

  -- the round goes on, and no calls live but these
  pub record IsSteady (h : List Noted) : Type 0 where
    pub crowd : Crowds h
    pub since : Adds s.history h

  -- and where the last moment goes on from there, each node owes only what it may
  pub record IsMay (h : List Noted) : Type 0 where
    pub steady : IsSteady h
    pub may : Adds h t.history → AllMay server ms s h

  crowd_events : Carries s.nodes (IsSome s.nodes are cs) Crowds
  crowd_events = crowd_carried s.nodes are cs

  steady_next : (h : List Noted) (node : ℕ) (e : Event) → Crowds (noted node e ∷ h) → IsSteady h
      → IsSteady (noted node e ∷ h)
  steady_next h node e crowd z = record { crowd = crowd; since = adds_one s.history h (noted node e) z.since }

  -- ---- what polls give

  module _ (h : List Noted) (node : ℕ) (n : Node) (to : Host) (bytes : List ℕ)
      (next : IsNext s.nodes h node n (events.Polled (Some (to, bytes)))) (z : IsSteady h) where
    abbrev e : Event
    e = events.Polled (Some (to, bytes))

    abbrev d : Datagram
    d = record { from = n.host; to = to; bytes = bytes }

    fits : FitsSetup n.setup
    fits = fits_at s.nodes are cs node n next.there

    legal : Legal n.setup (side node h)
    legal = legal_at s.nodes are cs h node n next.there z.crowd.allowed

    answers : (kind : Kind) → AllowedAt kind n.setup (looks n.setup (side node h)) e
        → poll_answer n.setup (looks n.setup (side node h)) ≡ Some (to, bytes)
    answers (Server service nonces) allowed = sym allowed
    answers (Client host epoch) allowed = sym allowed

    said_still : Adds (noted node e ∷ h) t.history → (m : Message) → reading_of bytes ≡ Ok m → IsSent m.body
        → SaidStill server ms s d m
    said_still b m reads stream =
        record {
          member = x;
          inside = f.1;
          said = record {
            index = node;
            node = n;
            there = next.there;
            host = refl;
            call = sym f.2;
            flag =
                (gave-mine n.setup (e ∷ side node h) to bytes m fits (next.allowed, legal) (inl (refl, refl))
                reads).flag;
            given = s.history;
            since = adds_none s.history;
            record_ = q.0;
            had = q.1;
            lives = living;
          };
          gave = by end;
        }
      where
        given : LivesIn (looks n.setup (side node h)) (named n.setup to m)
        given = poll_lives n.setup (side node h) fits legal to bytes m reads stream (answers n.setup.kind next.allowed)

        f : (x : Member) × In x ms × (x.call ≡ named n.setup to m)
        f =
            named_in ms (named n.setup to m)
            (among_at s.nodes are cs h node n next.there z.crowd (named n.setup to m) given.call given.there
            given.living)

        x : Member
        x = f.0

        had : call_at (looks n.setup (side node h)) x.call ≡ Some given.call
        had =
            subst (λ (y : CallName). call_at (looks n.setup (side node h)) y ≡ Some given.call) (sym f.2) given.there

        end : IsEnd server node n x
        end = end_of server ms s t a h z.crowd node n next.there x f.1 given.call had

        q : (r : CallRecord) × (call_at (looks n.setup (side node s.history)) x.call ≡ Some r)
            × (r.life ≡ given.call.life)
        q = was server ms s t a h z.since (adds_less (noted node e) h t.history b) x f.1 node n end given.call had

        living : is_live q.0.life ≡ true
        living = ap is_live q.2 ∙ given.living

        by : IsEnd server node n x → FromClient server ms s x n ⊎ FromServer server ms s x n
        by (inl zeroth) =
            (let there_q : served_in x.call server s ≡ Some q.0 =
            subst (λ (k : Node). call_at (looks k.setup (side 0 s.history)) x.call ≡ Some q.0) zeroth.1
            (subst (λ (i : ℕ). call_at (looks n.setup (side i s.history)) x.call ≡ Some q.0) zeroth.0 q.1) in
            inr (record {
              kind = server_side n.setup.kind
                  (and-some (slice_get s.nodes 0) n (λ k. IsServer k.setup.kind)
                  (subst (λ (i : ℕ). slice_get s.nodes i ≡ Some n) zeroth.0 next.there) are.server);
              served = q.0;
              served_is = there_q;
              active = live_active q.0.life living (λ code is. a.whole x f.1 q.0 there_q code is);
            }))
        by (inr later) =
            (let kind : n.setup.kind ≡ Client x.call.host x.call.epoch =
            ap (λ (k : Node). k.setup.kind) later.1 ∙ (a.one x f.1).client_is in
            let called : IsCalled given.call.life =
            subst IsCalledOr had (calls_called n.setup x.call.host x.call.epoch kind fits (side node h) x.call legal) in
            inl (record {
              kind = ap is_client kind;
              asked = q.0;
              asked_is =
                  subst (λ (k : Node). call_at (looks k.setup (side (suc x.index) s.history)) x.call ≡ Some q.0) later.1
                  (subst (λ (i : ℕ). call_at (looks n.setup (side i s.history)) x.call ≡ Some q.0) later.0 q.1);
              calls = live_calls q.0.life living (subst IsCalled (sym q.2) called);
            }))

    gives_lively : Lively (noted node e ∷ h) d
    gives_lively = record { one = crowd_events.gives h node n to bytes next z.crowd; live = said_still }

  stays_lively : (h : List Noted) (e : Noted) (d : Datagram) → Lively h d → Lively (e ∷ h) d
  stays_lively h e d x =
      record {
        one = crowd_events.stays h e d x.one;
        live = λ b m reads stream. x.live (adds_less e h t.history b) m reads stream;
      }

  steady_events : Carries s.nodes Lively IsSteady
  steady_events =
      record {
        stays = stays_lively;
        polls = λ h node n got next z.
            steady_next h node (events.Polled got) (crowd_events.polls h node n got next z.crowd) z;
        gives = gives_lively;
        takes = λ h node n d e next is to x z.
            steady_next h node e (crowd_events.takes h node n d e next is to x.one z.crowd) z;
        clocks = λ h node n now e next is z.
            steady_next h node e (crowd_events.clocks h node n now e next is z.crowd) z;
        serves = λ h n asked e next is z. steady_next h 0 e (crowd_events.serves h n asked e next is z.crowd) z;
        calls = λ h node n asked e next is z.
            steady_next h node e (crowd_events.calls h node n asked e next is z.crowd) z;
      }

  -- ---- one event

  abbrev Goes : (h : List Noted) (node : ℕ) (n : Node) (e : Event) → IsNext s.nodes h node n e → Type 0
  Goes h node n e next =
      GoesFor (AbortAt server ms s node) (AckAllAt server ms s node) n.setup (mute_at server ms s t a node n next.there)
      (looks n.setup (side node h)) e

  may_next : (h : List Noted) (node : ℕ) (n : Node) (e : Event) → (next : IsNext s.nodes h node n e)
      → IsSteady (noted node e ∷ h) → (Adds (noted node e ∷ h) t.history → Goes h node n e next) → IsMay h
      → IsMay (noted node e ∷ h)
  may_next h node n e next steady goes p = record { steady = steady; may = may }
    where
      may : Adds (noted node e ∷ h) t.history → AllMay server ms s (noted node e ∷ h)
      may b j = by (node == j) refl
        where
          all : AllMay server ms s h
          all = p.may (adds_less (noted node e) h t.history b)

          here : EachMay (AbortAt server ms s node) (AckAllAt server ms s node) (looks n.setup (e ∷ side node h))
          here =
              holds_after (AbortAt server ms s node) (AckAllAt server ms s node) n.setup
              (mute_at server ms s t a node n next.there) (looks n.setup (side node h)) e (goes b)
              (if-some (slice_get s.nodes node) n (λ m. EachMay (AbortAt server ms s node) (AckAllAt server ms s node)
              (looks m.setup (side node h))) next.there (all node))

          by : (b : Bool) → (node == j) ≡ b
              → IfSome (slice_get s.nodes j) (λ m. EachMay (AbortAt server ms s j) (AckAllAt server ms s j)
              (looks m.setup (side j (noted node e ∷ h))))
          by true same =
              subst (λ (i : ℕ). IfSome (slice_get s.nodes i) (λ m. EachMay (AbortAt server ms s i)
              (AckAllAt server ms s i) (looks m.setup (side i (noted node e ∷ h)))))
              (same_number node j same)
              (subst (λ (o : Option Node). IfSome o (λ m. EachMay (AbortAt server ms s node) (AckAllAt server ms s node)
              (looks m.setup (side node (noted node e ∷ h)))))
              (sym next.there)
              (subst (λ (es : List Event). EachMay (AbortAt server ms s node) (AckAllAt server ms s node)
              (looks n.setup es)) (sym (side_own node e h)) here))
          by false other =
              subst (λ (es : List Event). IfSome (slice_get s.nodes j) (λ m. EachMay (AbortAt server ms s j)
              (AckAllAt server ms s j) (looks m.setup es)))
              (sym (side_other j node e h (λ is. (
              let yes : (node == j) ≡ true = subst (λ (i : ℕ). (node == i) ≡ true) is (number_itself node) in
              absurd (let no : false ≡ true = sym other ∙ yes in cc))))) (all j)

  -- one that goes so, or ends a call
  goes_or : (h : List Noted) (node : ℕ) (n : Node) (e : Event) → (next : IsNext s.nodes h node n e) → IsSteady h
      → Goes h node n e next ⊎ Ends (looks n.setup (side node h)) (looks n.setup (e ∷ side node h))
      → Adds (noted node e ∷ h) t.history → Goes h node n e next
  goes_or h node n e next z (inl goes) b = goes
  goes_or h node n e next z (inr ends) b =
      absurd (ends_never server ms s t a h node n e next z.crowd z.since b ends)

  kind_of : (n : Node) (q : Bool) → is_client n.setup.kind ≡ q
      → IsServer n.setup.kind ⊎ ((host : Host) × ((epoch : ℕ) × (n.setup.kind ≡ Client host epoch)))
  kind_of n true kind = inr (kind_client n.setup.kind kind)
  kind_of n false kind = inl (kind_other n.setup.kind kind)

  takes_may : (h : List Noted) (node : ℕ) (n : Node) (d : Datagram) (e : Event) → IsNext s.nodes h node n e
      → IsTaken d.from d.bytes e → d.to ≡ n.host → Lively h d → IsMay h → IsMay (noted node e ∷ h)
  takes_may h node n d e next is to x p = by e next is
    where
      by : (e : Event) → IsNext s.nodes h node n e → IsTaken d.from d.bytes e → IsMay (noted node e ∷ h)
      by (events.Taken sender bytes got) next is =
          may_next h node n (events.Taken sender bytes got) next
          (steady_events.takes h node n d (events.Taken sender bytes got) next is to x p.steady)
          (λ b. take_goes server ms s t a h node n d sender bytes got next is.0 is.1 to x p.steady.crowd p.steady.since
          b) p
      by e next is = elim is [ ]

  serves_may : (h : List Noted) (n : Node) (asked : Ask) (e : Event) → IsNext s.nodes h 0 n e → IsCall asked e → IsMay h
      → IsMay (noted 0 e ∷ h)
  serves_may h n asked e next is p =
      may_next h 0 n e next (steady_events.serves h n asked e next is p.steady)
      (goes_or h 0 n e next p.steady
      (serve_goes (AbortAt server ms s 0) (AckAllAt server ms s 0) n.setup (side 0 h)
      (fits_at s.nodes are cs 0 n next.there) (legal_at s.nodes are cs h 0 n next.there p.steady.crowd.allowed)
      (mute_at server ms s t a 0 n next.there) asked e
      (and-some (slice_get s.nodes 0) n (λ m. IsServer m.setup.kind) next.there are.server) next.allowed is)) p

  calls_may : (h : List Noted) (node : ℕ) (n : Node) (asked : Asking) (e : Event) → IsNext s.nodes h node n e
      → IsAskedBy asked e → IsMay h → IsMay (noted node e ∷ h)
  calls_may h node n asked e next is p =
      may_next h node n e next (steady_events.calls h node n asked e next is p.steady)
      (goes_or h node n e next p.steady (by (kind_of n (is_client n.setup.kind) refl))) p
    where
      by : IsServer n.setup.kind ⊎ ((host : Host) × ((epoch : ℕ) × (n.setup.kind ≡ Client host epoch)))
          → Goes h node n e next ⊎ Ends (looks n.setup (side node h)) (looks n.setup (e ∷ side node h))
      by (inr q) =
          call_goes (AbortAt server ms s node) (AckAllAt server ms s node) n.setup (side node h)
          (fits_at s.nodes are cs node n next.there)
          (legal_at s.nodes are cs h node n next.there p.steady.crowd.allowed)
          (mute_at server ms s t a node n next.there) q.0 q.1.0 q.1.1 asked e next.allowed is
      by (inl serves) =
          absurd (asked_off n.setup (looks n.setup (side node h)) asked e
          (served n.setup.kind n.setup (looks n.setup (side node h)) e serves next.allowed) is)

  -- each event of a round leaves it so
  pub may_carried : Carries s.nodes Lively IsMay
  may_carried =
      record {
        stays = stays_lively;
        polls = λ h node n got next p.
            may_next h node n (events.Polled got) next (steady_events.polls h node n got next p.steady) (λ b. tt) p;
        gives = λ h node n to bytes next p. gives_lively h node n to bytes next p.steady;
        takes = takes_may;
        clocks = λ h node n now e next is p.
            may_next h node n e next (steady_events.clocks h node n now e next is p.steady)
            (λ b. clock_goes (AbortAt server ms s node) (AckAllAt server ms s node) n.setup (side node h)
            (fits_at s.nodes are cs node n next.there)
            (legal_at s.nodes are cs h node n next.there p.steady.crowd.allowed)
            (mute_at server ms s t a node n next.there) now e is) p;
        serves = serves_may;
        calls = calls_may;
      }

  -- ---- the round

  -- behind its polls nothing is owed
  out_may : (g : Handlers) (r : RoundMade g s t) → At s.nodes IsSteady r.polled.stage
      → AllMay server ms s r.polled.stage.history
  out_may g r p j = of (slice_get s.nodes j) refl
    where
      of : (o : Option Node) → slice_get s.nodes j ≡ o
          → IfSome o (λ n. EachMay (AbortAt server ms s j) (AckAllAt server ms s j)
          (looks n.setup (side j r.polled.stage.history)))
      of None there = tt
      of (Some n) there =
          none_may (AbortAt server ms s j) (AckAllAt server ms s j) (looks n.setup (side j r.polled.stage.history))
          (out_owes_none n.setup (side j r.polled.stage.history) (mute_at server ms s t a j n there)
          (legal_at s.nodes are cs r.polled.stage.history j n there p.so.crowd.allowed)
          (all_polled_out s r.polled r.polls_are j n there))

  -- behind the round each node owes only what it may
  pub round_may : (g : Handlers) (r : RoundMade g s t) → AllMay server ms s t.history
  round_may g r =
      let p : Gave s.nodes Lively IsSteady r.polled.stage r.polled.given =
      polls_lead s.nodes Lively IsSteady steady_events s
      (record {
        nodes_are = refl;
        so = record { crowd = (crowd_now cs s a.crowd).so; since = adds_none s.history };
      }) r.polls_are.0 r.polled r.polls_are.1 in
      let q : Gave s.nodes Lively IsMay r.polled.stage r.polled.given =
      record {
        at = record {
          nodes_are = p.at.nodes_are;
          so = record { steady = p.at.so; may = λ b. out_may g r p.at };
        };
        given = p.given;
      } in
      let d : Gave s.nodes Lively IsMay r.delivered r.polled.given =
      deliveries_lead s.nodes Lively IsMay may_carried r.polled.given r.polled.stage q r.delivers_are.0 r.delivered
      r.delivers_are.1 in
      let v : At s.nodes IsMay r.served =
      serve_lead s.nodes Lively IsMay may_carried g r.delivered d.at r.serves_are.0 r.served r.serves_are.1 in
      let x : At s.nodes IsMay r.called =
      calls_lead s.nodes Lively IsMay may_carried r.served v r.calls_are.0 r.called r.calls_are.1 in
      let y : At s.nodes IsMay t =
      settles_lead s.nodes Lively IsMay may_carried (length r.polled.given == 0) r.called x r.settles_are.0 t
      r.settles_are.1 in
      y.so.may (adds_none t.history)
