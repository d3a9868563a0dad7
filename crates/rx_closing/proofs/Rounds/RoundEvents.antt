-- A round of any number of nodes as single events: what holds behind each event holds behind each of its parts, and
-- what is so of each datagram that its polls gave is known where it is delivered.
use Rattle.std.proofs.Common.{◌≡◌, ◌==◌, ◌+◌, ◌&&◌, not, ℕ, zero, suc, Bool, true, false, List, [], ◌∷◌, Option, Some}
use Rattle.std.proofs.Common.{None, refl, inl, inr, sym, subst, ap, ◌∙◌, slice_get, length, option_map, unwrap_or}
use Rattle.rx_model.specs.declared.event.Event.{Event}
use Rattle.rx_model.specs.declared.event.Event.TheVariants as events
use Rattle.rx_model.specs.declared.event.Noted.{Noted}
use Rattle.rx_model.specs.declared.names.Host.{Host}
use Rattle.rx_model.specs.Names.{same_host}
use Rattle.rx_model.proofs.NameLaws.{host_is}
use Rattle.rx_rules.specs.After.{looks}
use Rattle.rx_rules.specs.Rules.{Allowed}
use Rattle.rx_rules.proofs.EveryLaws.{Every, every-append}
use Rattle.rx_history.specs.Sides.{Node, moment, side}
use Rattle.rx_law.specs.Worlds.{Datagram}
use Rattle.rx_law.proofs.WorldTimed.{found-and}
use Rattle.rx_wire.specs.Turns.{noted}
use Rattle.rx_events.specs.Events.{IsClocked, IsPolled, IsTaken}
use Rattle.rx_events.specs.Joint.{IsAllowedAt}
use Rattle.rx_events.specs.Waits.{any_lives, least_wait}
use Rattle.rx_asks.specs.Asks.{Asking, IsAsked, begun, calling}
use Rattle.rx_asks.specs.declared.ask.TheConstants.{REPLY_BYTES}
use Rattle.rx_jobs.specs.Dispatching.{accepts, dispatching}
use Rattle.rx_jobs.specs.Handlers.{Handlers}
use Rattle.rx_jobs.specs.Jobs.{Ask, IsCall}
use Rattle.rx_plan.specs.Network.{all_nodes, below, comes_to, delivers, is_for}
use Rattle.rx_plan.specs.Parts.{One, Part, To, by_test, each, ends}
use Rattle.rx_plan.specs.Programs.{Turn}
use Rattle.rx_plan.specs.Rounds.{Polled, Polling, clients_first, heard_poll, may_move, moves_by, moves_on, polling}
use Rattle.rx_plan.specs.Rounds.{polls, polls_at, polls_out, round, rounds, settles}
use Rattle.rx_plan.specs.Stages.{InvokedState, IsAllowedNext, Stage, event, host_at, is_client, with_event}
use Rattle.rx_plan.specs.Turned.{dispatches, turns_all, turns_at, turns_of, turns_where}
use Rattle.rx_plan.proofs.Leading.{Leads, each_lead, ends_lead, one_lead, test_lead, then_lead, turn_lead}
use Rattle.rx_between.proofs.Each.EachItem.{In}
use Rattle.rx_rounds.proofs.Rounded.{RoundMade, round_to}

-- ---- a node

pub nth_every : {X : Type 0} (P : X → Type 0) (xs : List X) (n : ℕ) (x : X) → slice_get xs n ≡ Some x → Every P xs → P x
nth_every P [] n x there all = absurd cc
nth_every P (y ∷ xs) zero x there all = (let same : y ≡ x = cc in subst P same all.0)
nth_every P (y ∷ xs) (suc n) x there all = nth_every P xs n x there all.1

-- ---- what is carried

-- an event of a node that is there, which the rules allow
pub record IsNext (nodes : List Node) (h : List Noted) (node : ℕ) (n : Node) (e : Event) : Type 0 where
  pub there : slice_get nodes node ≡ Some n
  pub allowed : Allowed n.setup (looks n.setup (side node h)) e

-- `P` of a history is left by each event of a round, and `D` holds of each datagram that a poll of it gave
pub record Carries (nodes : List Node) (D : List Noted → Datagram → Type 0) (P : List Noted → Type 0) : Type 0 where
  pub stays : (h : List Noted) (e : Noted) (d : Datagram) → D h d → D (e ∷ h) d
  pub polls :
      (h : List Noted) (node : ℕ) (n : Node) (got : Option (Host × List ℕ))
      → IsNext nodes h node n (events.Polled got) → P h → P (noted node (events.Polled got) ∷ h)
  pub gives :
      (h : List Noted) (node : ℕ) (n : Node) (to : Host) (bytes : List ℕ)
      → IsNext nodes h node n (events.Polled (Some (to, bytes))) → P h
      → D (noted node (events.Polled (Some (to, bytes))) ∷ h) (record { from = n.host; to = to; bytes = bytes })
  pub takes :
      (h : List Noted) (node : ℕ) (n : Node) (d : Datagram) (e : Event) → IsNext nodes h node n e
      → IsTaken d.from d.bytes e → d.to ≡ n.host → D h d → P h → P (noted node e ∷ h)
  pub clocks :
      (h : List Noted) (node : ℕ) (n : Node) (now : ℕ) (e : Event) → IsNext nodes h node n e → IsClocked now e → P h
      → P (noted node e ∷ h)
  pub serves :
      (h : List Noted) (n : Node) (a : Ask) (e : Event) → IsNext nodes h 0 n e → IsCall a e → P h
      → P (noted 0 e ∷ h)
  pub calls :
      (h : List Noted) (node : ℕ) (n : Node) (a : Asking) (e : Event) → IsNext nodes h node n e → IsAsked a e → P h
      → P (noted node e ∷ h)

-- ---- lists

pub every_weaker : {X : Type 0} (P Q : X → Type 0) → ((x : X) → P x → Q x) → (xs : List X) → Every P xs → Every Q xs
every_weaker P Q weaker [] all = tt
every_weaker P Q weaker (x ∷ xs) all = (weaker x all.0, every_weaker P Q weaker xs all.1)

pub every_at : {X : Type 0} (P : X → Type 0) (xs : List X) (x : X) → In x xs → Every P xs → P x
every_at P [] x there all = absurd there
every_at P (y ∷ xs) x (inl same) all = subst P (sym same) all.0
every_at P (y ∷ xs) x (inr rest) all = every_at P xs x rest all.1

each_in : {X : Type 0} (P : Stage → Type 0) (part : X → Stage → Part Stage) (all xs : List X)
    → ((x : X) → In x xs → In x all)
    → ((x : X) (s : Stage) → In x all → P s → Leads P (part x s)) → (s : Stage) → P s → Leads P (each part xs s)
each_in P part all [] among one s so = ends_lead P (To s) so
each_in P part all (x ∷ xs) among one s so =
    then_lead P P (part x s) (each part xs) (one x s (among x (inl refl)) so)
    (λ t next. each_in P part all xs (λ y there. among y (inr there)) one t next)

-- ---- the parts of a round

-- these nodes, and a history of which it holds
pub record At (nodes : List Node) (P : List Noted → Type 0) (s : Stage) : Type 0 where
  pub nodes_are : s.nodes ≡ nodes
  pub so : P s.history

-- and what is so of each of these datagrams
pub record Gave (nodes : List Node) (D : List Noted → Datagram → Type 0) (P : List Noted → Type 0) (s : Stage)
    (ds : List Datagram) : Type 0 where
  pub at : At nodes P s
  pub given : Every (D s.history) ds

-- it holds behind each part of a round
pub record RoundHolds (nodes : List Node) (D : List Noted → Datagram → Type 0) (P : List Noted → Type 0) (g : Handlers)
    (s t : Stage) (r : RoundMade g s t) : Type 0 where
  pub polled : At nodes P r.polled.stage
  pub given : Every (D r.polled.stage.history) r.polled.given
  pub delivered : Gave nodes D P r.delivered r.polled.given
  pub served : At nodes P r.served
  pub called : At nodes P r.called
  pub over : At nodes P t

module _ (nodes : List Node) (D : List Noted → Datagram → Type 0) (P : List Noted → Type 0)
    (c : Carries nodes D P) where
  abbrev Here : Stage → Type 0
  Here s = At nodes P s

  abbrev Given : Stage → List Datagram → Type 0
  Given s ds = Gave nodes D P s ds

  next_of : (s : Stage) (node : ℕ) (e : Event) → Here s → IsAllowedAt s.nodes s.history node e
      → (n : Node) × IsNext nodes s.history node n e
  next_of s node e a allowed =
      let f = found-and (slice_get nodes node) (λ n. Allowed n.setup (looks n.setup (side node s.history)) e)
      (subst (λ (ns : List Node). IsAllowedAt ns s.history node e) a.nodes_are allowed) in
      (f.0, record { there = f.1; allowed = f.2 })

  event_lead : (s : Stage) (node : ℕ) (is : Event → Type 0) → Here s
      → ((n : Node) (e : Event) → IsNext nodes s.history node n e → is e → P (noted node e ∷ s.history))
      → Leads Here (event node is s)
  event_lead s node is a next =
      then_lead (λ e. is e × IsAllowedAt s.nodes s.history node e) Here (One node (IsAllowedNext s node is))
      (λ e. ends (To (with_event node e s)))
      (one_lead (λ e. is e × IsAllowedAt s.nodes s.history node e) node (IsAllowedNext s node is) (λ e there. there))
      (λ e there. ends_lead Here (To (with_event node e s)) (
      let n = next_of s node e a there.1 in
      record { nodes_are = a.nodes_are; so = next n.0 e n.1 there.0 }))

  rest_lead : (s : Stage) → Here s → Leads Here (ends (To s))
  rest_lead s a = ends_lead Here (To s) a

  -- ---- polls

  stays_all : (h : List Noted) (e : Noted) (ds : List Datagram) → Every (D h) ds → Every (D (e ∷ h)) ds
  stays_all h e ds all = every_weaker (D h) (D (e ∷ h)) (c.stays h e) ds all

  heard_lead : (from : Host) (node : ℕ) (n : Node) (s : Stage) (v : Polling) (e : Event) → n.host ≡ from
      → IsNext nodes s.history node n e → IsPolled e → Given s v.given
      → Given (with_event node e s) (heard_poll from v e).given
  heard_lead from node n s v (events.Polled None) host next polled g =
      record {
        at = record { nodes_are = g.at.nodes_are; so = c.polls s.history node n None next g.at.so };
        given = stays_all s.history (noted node (events.Polled None)) v.given g.given;
      }
  heard_lead from node n s v (events.Polled (Some (to, bytes))) host next polled g =
      let e : Noted = noted node (events.Polled (Some (to, bytes))) in
      record {
        at = record { nodes_are = g.at.nodes_are; so = c.polls s.history node n (Some (to, bytes)) next g.at.so };
        given =
            every-append (D (e ∷ s.history)) v.given (record { from = from; to = to; bytes = bytes } ∷ [])
            (stays_all s.history e v.given g.given) (
              subst (λ (x : Host). D (e ∷ s.history) (record { from = x; to = to; bytes = bytes })) host
                  (c.gives s.history node n to bytes next g.at.so),
              tt,
            );
      }
  heard_lead from node n s v e host next polled g = elim polled [ ]

  host_of : (node : ℕ) (n : Node) (from : Host) → option_map (λ m. m.host) (slice_get nodes node) ≡ Some from
      → slice_get nodes node ≡ Some n → n.host ≡ from
  host_of node n from at there =
      some_is (n.host) from (sym (ap (option_map (λ (m : Node). m.host)) there) ∙ at)
    where
      some_is : (a b : Host) → ◌≡◌ {A = Option Host} (Some a) (Some b) → a ≡ b
      some_is a b same = cc

  poll_lead : (node : ℕ) (o : Option Host) (p : Polled) → host_at p.stage node ≡ o → Given p.stage p.given
      → Leads (λ (q : Polled). Given q.stage q.given) (polls_at node o p)
  poll_lead node None p at g = ends_lead (λ (q : Polled). Given q.stage q.given) (To p) g
  poll_lead node (Some from) p at g =
      then_lead (λ r. Given r.1 r.0.given × ((polling from).asks r.0 ≡ None))
      (λ (q : Polled). Given q.stage q.given) _ _
      (turn_lead (polling from) node (λ v t. Given t v.given)
      (λ v t a e there asked is allowed. (
      let n = next_of t node e there.at allowed in
      heard_lead from node n.0 t v e (host_of node n.0 from host n.1.there) n.1 is there))
      (record { again = true; given = p.given }) p.stage g)
      (λ r there. ends_lead (λ (q : Polled). Given q.stage q.given) _ there.0)
    where
      host : option_map (λ (m : Node). m.host) (slice_get nodes node) ≡ Some from
      host = subst (λ (ns : List Node). option_map (λ (m : Node). m.host) (slice_get ns node) ≡ Some from)
          g.at.nodes_are at

  pub polls_lead : (s : Stage) → Here s → Leads (λ (q : Polled). Given q.stage q.given) (polls s)
  polls_lead s a =
      each_lead (λ (q : Polled). Given q.stage q.given) polls_out
      (λ node p there. poll_lead node (host_at p.stage node) p refl there) (clients_first s)
      (record { stage = s; given = [] }) (record { at = a; given = tt })

  -- ---- deliveries

  is_at : (d : Datagram) (s : Stage) (node : ℕ) (n : Node) → s.nodes ≡ nodes → is_for d s node ≡ true
      → slice_get nodes node ≡ Some n → d.to ≡ n.host
  is_at d s node n same so there =
      host_is d.to n.host
      (subst (λ (o : Option Node). unwrap_or (option_map (same_host d.to) (option_map (λ (m : Node). m.host) o)) false
      ≡ true) (ap (λ (ns : List Node). slice_get ns node) same ∙ there) so)

  come_lead : (ds : List Datagram) (d : Datagram) → In d ds → (node : ℕ) (s : Stage) → Given s ds
      → Leads (λ t. Given t ds) (comes_to d node s)
  come_lead ds d inside node s g = by (is_for d s node) refl
    where
      took : is_for d s node ≡ true → Leads (λ t. Given t ds) (event node (IsTaken d.from d.bytes) s)
      took so =
          then_lead (λ e. IsTaken d.from d.bytes e × IsAllowedAt s.nodes s.history node e) (λ t. Given t ds)
          (One node (IsAllowedNext s node (IsTaken d.from d.bytes))) (λ e. ends (To (with_event node e s)))
          (one_lead (λ e. IsTaken d.from d.bytes e × IsAllowedAt s.nodes s.history node e) node
          (IsAllowedNext s node (IsTaken d.from d.bytes)) (λ e there. there))
          (λ e there. ends_lead (λ t. Given t ds) (To (with_event node e s)) (
          let n = next_of s node e g.at there.1 in
          record {
            at = record {
              nodes_are = g.at.nodes_are;
              so =
                  c.takes s.history node n.0 d e n.1 there.0 (is_at d s node n.0 g.at.nodes_are so n.1.there)
                  (every_at (D s.history) ds d inside g.given) g.at.so;
            };
            given = stays_all s.history (noted node e) ds g.given;
          }))

      by : (b : Bool) → is_for d s node ≡ b
          → Leads (λ t. Given t ds) (by_test b (event node (IsTaken d.from d.bytes) s) (ends (To s)))
      by true so = took so
      by false so = ends_lead (λ t. Given t ds) (To s) g

  pub deliveries_lead : (ds : List Datagram) (s : Stage) → Given s ds → Leads (λ t. Given t ds) (each delivers ds s)
  deliveries_lead ds s g =
      each_in (λ t. Given t ds) delivers ds ds (λ d there. there)
      (λ d t inside there. each_lead (λ u. Given u ds) (comes_to d) (λ node u now. come_lead ds d inside node u now)
      (all_nodes t) t there) s g

  -- ---- turns

  pub serve_lead : (g : Handlers) (s : Stage) → Here s → Leads Here (dispatches g s)
  serve_lead g s a =
      then_lead (λ r. Here r.1 × ((dispatching g).asks r.0 ≡ None)) Here (Turn (dispatching g) 0 (accepts s.jobs) s) _
      (turn_lead (dispatching g) 0 (λ v t. Here t)
      (λ v t asked e there some is allowed. (
      let n = next_of t 0 e there allowed in
      record { nodes_are = there.nodes_are; so = c.serves t.history n.0 asked e n.1 is there.so }))
      (accepts s.jobs) s a)
      (λ r there. ends_lead Here _ (record { nodes_are = there.0.nodes_are; so = there.0.so }))

  call_lead : (place : ℕ) (i : InvokedState) (s : Stage) → Here s → Leads Here (turns_of place i s)
  call_lead place i s a =
      then_lead (λ r. Here r.1 × ((calling REPLY_BYTES).asks r.0 ≡ None)) Here _ _
      (turn_lead (calling REPLY_BYTES) i.node (λ v t. Here t)
      (λ v t asked e there some is allowed. (
      let n = next_of t i.node e there allowed in
      record { nodes_are = there.nodes_are; so = c.calls t.history i.node n.0 asked e n.1 is there.so }))
      (begun i.caller) s a)
      (λ r there. ends_lead Here _ (record { nodes_are = there.0.nodes_are; so = there.0.so }))

  where_lead : (place : ℕ) (o : Option InvokedState) (s : Stage) → Here s → Leads Here (turns_where place o s)
  where_lead place None s a = rest_lead s a
  where_lead place (Some i) s a = test_lead Here (is_client i.node s) _ _ (call_lead place i s a) (rest_lead s a)

  pub calls_lead : (s : Stage) → Here s → Leads Here (turns_all s)
  calls_lead s a =
      each_lead Here turns_at (λ place t there. where_lead place (slice_get t.callers place) t there)
      (below (length s.callers)) s a

  -- ---- clocks

  moves_lead : (o : Option ℕ) (s : Stage) → Here s → Leads Here (moves_by o s)
  moves_lead None s a = rest_lead s a
  moves_lead (Some time) s a =
      test_lead Here (not (time == 0) && may_move time s) _ _
      (each_lead Here (moves_on time)
      (λ node t there.
      event_lead t node (IsClocked (moment node t.history + time)) there
      (λ n e next is. c.clocks t.history node n (moment node t.history + time) e next is there.so))
      (clients_first s) s a)
      (rest_lead s a)

  pub settles_lead : (quiet : Bool) (s : Stage) → Here s → Leads Here (settles quiet s)
  settles_lead quiet s a =
      test_lead Here quiet _ _ (moves_lead (least_wait s.nodes s.history) s a) (rest_lead s a)

  -- ---- a round

  pub round_holds : (g : Handlers) (s t : Stage) (r : RoundMade g s t) → Here s → RoundHolds nodes D P g s t r
  round_holds g s t r a =
      let p : Given r.polled.stage r.polled.given = polls_lead s a r.polls_are.0 r.polled r.polls_are.1 in
      let d : Given r.delivered r.polled.given =
      deliveries_lead r.polled.given r.polled.stage p r.delivers_are.0 r.delivered r.delivers_are.1 in
      let v : Here r.served = serve_lead g r.delivered d.at r.serves_are.0 r.served r.serves_are.1 in
      let w : Here r.called = calls_lead r.served v r.calls_are.0 r.called r.calls_are.1 in
      record {
        polled = p.at;
        given = p.given;
        delivered = d;
        served = v;
        called = w;
        over = settles_lead (length r.polled.given == 0) r.called w r.settles_are.0 t r.settles_are.1;
      }

  round_lead : (g : Handlers) (s : Stage) → Here s → Leads Here (round g s)
  round_lead g s a es t made = (round_holds g s t (round_to g s t es made) a).over

  -- through any number of rounds
  pub rounds_lead : (g : Handlers) (n : ℕ) (s : Stage) → Here s → Leads Here (rounds g n s)
  rounds_lead g zero s a = rest_lead s a
  rounds_lead g (suc n) s a =
      test_lead Here (any_lives s.nodes s.history) _ _
      (then_lead Here Here (round g s) (rounds g n) (round_lead g s a) (λ t there. rounds_lead g n t there))
      (rest_lead s a)
