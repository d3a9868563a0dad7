-- A stage of a server and one client, by what its two sides say; and what parts of a run make of it.
use Rattle.std.proofs.Common.{◌≡◌, ℕ, ◌++◌, Bool, true, false, List, [], ◌∷◌, Option, Some, None, refl, ap, sym, subst}
use Rattle.std.proofs.Common.{◌∙◌, slice_get, option_map}
use Rattle.std.specs.Prelude.{IsSomeAnd, drop, length, unwrap_or}
use Rattle.rx_model.specs.declared.event.Event.{Event}
use Rattle.rx_model.specs.declared.event.Event.TheVariants as events
use Rattle.rx_model.specs.declared.event.Noted.{Noted}
use Rattle.rx_model.specs.declared.answers.Took.{Took}
use Rattle.rx_model.specs.declared.names.Host.{Host}
use Rattle.rx_model.specs.Names.{same_host}
use Rattle.rx_model.proofs.NameLaws.{host_itself}
use Rattle.rx_rules.specs.After.{after, looks}
use Rattle.rx_rules.specs.Items.{poll_answer}
use Rattle.rx_rules.specs.Judging.{took_of}
use Rattle.rx_rules.specs.Looks.{Looks}
use Rattle.rx_rules.specs.Rules.{Allowed}
use Rattle.rx_history.specs.Sides.{Node, side}
use Rattle.rx_law.specs.Worlds.{Datagram}
use Rattle.rx_jobs.specs.Jobs.{JobState}
use Rattle.rx_events.specs.Events.{IsPolled, IsTaken}
use Rattle.rx_plan.specs.Follows.{client_node, server_node}
use Rattle.rx_plan.specs.Network.{all_nodes, below, comes_to, delivers, is_for}
use Rattle.rx_plan.specs.Parts.{To, by_test, each, ends}
use Rattle.rx_plan.specs.Programs.{Turn}
use Rattle.rx_plan.specs.Rounds.{Polling, Polled, polling, polls, polls_at, polls_out, clients_first}
use Rattle.rx_plan.specs.Stages.{InvokedState, IsAllowedNext, Stage, event, host_at, with_event}
use Rattle.rx_rounds.specs.Bounds.{default_limits}
use Rattle.rx_rounds.proofs.Making.{then_to, ends_to, event_to, turn_over, turn_goes}
use Rattle.rx_rounds.proofs.One.OneCall.{Ends, client_setup, server_setup}
use Rattle.std.specs.List.{list_any}
use Rattle.std.proofs.Common.{nat_lt}
use Rattle.rx_rules.specs.Slots.{live}
use Rattle.rx_events.specs.Waits.{any_lives, lives_at, over_nodes}

-- its two nodes
abbrev pub the_nodes : Ends → List Node
the_nodes x = server_node x.server x.service default_limits x.key x.nonces ∷ client_node x.client x.epoch
    default_limits x.key ∷ []

-- it has these nodes, what their sides say, these callers and these jobs
pub record Two (x : Ends) (ls lc : Looks) (cs : List InvokedState) (js : List JobState) (s : Stage) : Type 0 where
  pub nodes : s.nodes ≡ the_nodes x
  pub server : looks (server_setup x) (side 0 s.history) ≡ ls
  pub client : looks (client_setup x) (side 1 s.history) ≡ lc
  pub callers : s.callers ≡ cs
  pub jobs : s.jobs ≡ js

-- ---- an event

pub two_server : (x : Ends) (ls lc : Looks) (cs : List InvokedState) (js : List JobState) (s : Stage) (e : Event)
    → Two x ls lc cs js s → Two x (after (server_setup x) e ls) lc cs js (with_event 0 e s)
two_server x ls lc cs js s e two =
    record {
      nodes = two.nodes;
      server = ap (after (server_setup x) e) two.server;
      client = two.client;
      callers = two.callers;
      jobs = two.jobs;
    }

pub two_client : (x : Ends) (ls lc : Looks) (cs : List InvokedState) (js : List JobState) (s : Stage) (e : Event)
    → Two x ls lc cs js s → Two x ls (after (client_setup x) e lc) cs js (with_event 1 e s)
two_client x ls lc cs js s e two =
    record {
      nodes = two.nodes;
      server = two.server;
      client = ap (after (client_setup x) e) two.client;
      callers = two.callers;
      jobs = two.jobs;
    }

pub at_server : (x : Ends) (ls lc : Looks) (cs : List InvokedState) (js : List JobState) (s : Stage) (is : Event
    → Type 0) (e : Event)
    → Two x ls lc cs js s → IsAllowedNext s 0 is e → is e × Allowed (server_setup x) ls e
at_server x ls lc cs js s is e two allowed = (
  allowed.0,
  subst (λ (l : Looks). Allowed (server_setup x) l e) two.server
      (subst (λ (ns : List Node). IsSomeAnd (slice_get ns 0)
      (λ n. Allowed n.setup (looks n.setup (side 0 s.history)) e)) two.nodes allowed.1),
)

pub at_client : (x : Ends) (ls lc : Looks) (cs : List InvokedState) (js : List JobState) (s : Stage) (is : Event
    → Type 0) (e : Event)
    → Two x ls lc cs js s → IsAllowedNext s 1 is e → is e × Allowed (client_setup x) lc e
at_client x ls lc cs js s is e two allowed = (
  allowed.0,
  subst (λ (l : Looks). Allowed (client_setup x) l e) two.client
      (subst (λ (ns : List Node). IsSomeAnd (slice_get ns 1)
      (λ n. Allowed n.setup (looks n.setup (side 1 s.history)) e)) two.nodes allowed.1),
)

-- ---- polls

-- a poll is of what the rules give
pub polled_is : (e : Event) → IsPolled e → (got : Option (Host × List ℕ)) × (e ≡ events.Polled got)
polled_is (events.Polled got) is = (got, refl)
polled_is _ is = absurd is

pub server_polled : (x : Ends) (ls lc : Looks) (cs : List InvokedState) (js : List JobState) (s : Stage) (e : Event)
    → Two x ls lc cs js s → IsAllowedNext s 0 IsPolled e → e ≡ events.Polled (poll_answer (server_setup x) ls)
server_polled x ls lc cs js s e two allowed =
    let a = at_server x ls lc cs js s IsPolled e two allowed in
    let p = polled_is e a.0 in
    p.1 ∙ ap (λ (got : Option (Host × List ℕ)). events.Polled got)
    (subst (λ (f : Event). Allowed (server_setup x) ls f) p.1 a.1)

pub client_polled : (x : Ends) (ls lc : Looks) (cs : List InvokedState) (js : List JobState) (s : Stage) (e : Event)
    → Two x ls lc cs js s → IsAllowedNext s 1 IsPolled e → e ≡ events.Polled (poll_answer (client_setup x) lc)
client_polled x ls lc cs js s e two allowed =
    let a = at_client x ls lc cs js s IsPolled e two allowed in
    let p = polled_is e a.0 in
    p.1 ∙ ap (λ (got : Option (Host × List ℕ)). events.Polled got)
    (subst (λ (f : Event). Allowed (client_setup x) lc f) p.1 a.1)

abbrev pub more : List Datagram → Polling
more given = record { again = true; given = given }

-- a turn of polls, at one of the two nodes, from here on
abbrev pub Polls : ℕ → Host → List Datagram → Stage → Polling → Stage → Type 0
Polls node from given s w t = (es : List Noted) × Turn (polling from) node (more given) s es (To (w, t))

module _ (x : Ends) (ls lc : Looks) (cs : List InvokedState) (js : List JobState) (s t : Stage) (from : Host)
    (given : List Datagram) (w : Polling) where
  -- where nothing is due, they are over
  pub server_polls_none : Two x ls lc cs js s → poll_answer (server_setup x) ls ≡ None → Polls 0 from given s w t
      → (w.given ≡ given) × Two x (after (server_setup x) (events.Polled None) ls) lc cs js t
  server_polls_none two none turn =
      let g = turn_goes (polling from) 0 (more given) w tt s t turn.0 refl turn.1 in
      let is : g.event ≡ events.Polled None = server_polled x ls lc cs js s g.event two g.allowed
      ∙ ap (λ (got : Option (Host × List ℕ)). events.Polled got) none in
      let rest : Turn (polling from) 0 (record { again = false; given = given }) (with_event 0 (events.Polled None) s)
      g.more (To (w, t)) =
      subst (λ (e : Event). Turn (polling from) 0 ((polling from).heard (more given) e) (with_event 0 e s) g.more
      (To (w, t))) is g.rest in
      let over = turn_over (polling from) 0 (record { again = false; given = given }) w
      (with_event 0 (events.Polled None) s) t g.more refl rest in (
        ap (λ (v : Polling). v.given) over.0,
        subst (λ (u : Stage). Two x (after (server_setup x) (events.Polled None) ls) lc cs js u) (sym over.1)
            (two_server x ls lc cs js s (events.Polled None) two),
      )

  pub client_polls_none : Two x ls lc cs js s → poll_answer (client_setup x) lc ≡ None → Polls 1 from given s w t
      → (w.given ≡ given) × Two x ls (after (client_setup x) (events.Polled None) lc) cs js t
  client_polls_none two none turn =
      let g = turn_goes (polling from) 1 (more given) w tt s t turn.0 refl turn.1 in
      let is : g.event ≡ events.Polled None = client_polled x ls lc cs js s g.event two g.allowed
      ∙ ap (λ (got : Option (Host × List ℕ)). events.Polled got) none in
      let rest : Turn (polling from) 1 (record { again = false; given = given }) (with_event 1 (events.Polled None) s)
      g.more (To (w, t)) =
      subst (λ (e : Event). Turn (polling from) 1 ((polling from).heard (more given) e) (with_event 1 e s) g.more
      (To (w, t))) is g.rest in
      let over = turn_over (polling from) 1 (record { again = false; given = given }) w
      (with_event 1 (events.Polled None) s) t g.more refl rest in (
        ap (λ (v : Polling). v.given) over.0,
        subst (λ (u : Stage). Two x ls (after (client_setup x) (events.Polled None) lc) cs js u) (sym over.1)
            (two_client x ls lc cs js s (events.Polled None) two),
      )

abbrev pub sent : Host → Host → List ℕ → Datagram
sent from to bytes = record { from = from; to = to; bytes = bytes }

module _ (x : Ends) (ls lc : Looks) (cs : List InvokedState) (js : List JobState) (s t : Stage) (from to : Host)
    (bytes : List ℕ) (given : List Datagram) (w : Polling) where
  -- where something is, it is given, and they go on
  pub server_polls_some : Two x ls lc cs js s → poll_answer (server_setup x) ls ≡ Some (to, bytes)
      → Polls 0 from given s w t
      → (u : Stage) × Two x (after (server_setup x) (events.Polled (Some (to, bytes))) ls) lc cs js u
      × Polls 0 from (given ++ sent from to bytes ∷ []) u w t
  server_polls_some two some turn =
      let g = turn_goes (polling from) 0 (more given) w tt s t turn.0 refl turn.1 in
      let is : g.event ≡ events.Polled (Some (to, bytes)) = server_polled x ls lc cs js s g.event two g.allowed
      ∙ ap (λ (got : Option (Host × List ℕ)). events.Polled got) some in
      let rest = subst (λ (e : Event). Turn (polling from) 0 ((polling from).heard (more given) e)
      (with_event 0 e s) g.more (To (w, t))) is g.rest in (
        with_event 0 (events.Polled (Some (to, bytes))) s,
        two_server x ls lc cs js s (events.Polled (Some (to, bytes)))
            two,
        (g.more, rest),
      )

  pub client_polls_some : Two x ls lc cs js s → poll_answer (client_setup x) lc ≡ Some (to, bytes)
      → Polls 1 from given s w t
      → (u : Stage) × Two x ls (after (client_setup x) (events.Polled (Some (to, bytes))) lc) cs js u
      × Polls 1 from (given ++ sent from to bytes ∷ []) u w t
  client_polls_some two some turn =
      let g = turn_goes (polling from) 1 (more given) w tt s t turn.0 refl turn.1 in
      let is : g.event ≡ events.Polled (Some (to, bytes)) = client_polled x ls lc cs js s g.event two g.allowed
      ∙ ap (λ (got : Option (Host × List ℕ)). events.Polled got) some in
      let rest = subst (λ (e : Event). Turn (polling from) 1 ((polling from).heard (more given) e)
      (with_event 1 e s) g.more (To (w, t))) is g.rest in (
        with_event 1 (events.Polled (Some (to, bytes))) s,
        two_client x ls lc cs js s (events.Polled (Some (to, bytes)))
            two,
        (g.more, rest),
      )

-- ---- all polls of a round

pub host_server : (x : Ends) (ls lc : Looks) (cs : List InvokedState) (js : List JobState) (s : Stage)
    → Two x ls lc cs js s → host_at s 0 ≡ Some x.server
host_server x ls lc cs js s two = ap (λ (ns : List Node). option_map (λ (n : Node). n.host) (slice_get ns 0)) two.nodes

pub host_client : (x : Ends) (ls lc : Looks) (cs : List InvokedState) (js : List JobState) (s : Stage)
    → Two x ls lc cs js s → host_at s 1 ≡ Some x.client
host_client x ls lc cs js s two = ap (λ (ns : List Node). option_map (λ (n : Node). n.host) (slice_get ns 1)) two.nodes

-- the polls of one node
pub out_to : (node : ℕ) (from : Host) (p q : Polled) (es : List Noted) → host_at p.stage node ≡ Some from
    → polls_out node p es (To q)
    → (w : Polling) × (q.given ≡ w.given) × Polls node from p.given p.stage w q.stage
out_to node from p q es there made =
    let of : polls_at node (Some from) p es (To q) = subst (λ (o : Option Host). polls_at node o p es (To q)) there
    made in
    let b = then_to (Turn (polling from) node (more p.given) p.stage)
    (λ r. ends (To (record { stage = r.1; given = r.0.given }))) es q of in
    let same : q ≡ record { stage = b.between.1; given = b.between.0.given } = ends_to
    (record { stage = b.between.1; given = b.between.0.given }) q b.rest b.goes in (
      b.between.0,
      ap (λ (r : Polled). r.given) same,
      (
        b.front,
        subst (λ (u : Stage). Turn (polling from) node (more p.given) p.stage b.front (To (b.between.0, u)))
            (sym (ap (λ (r : Polled). r.stage) same)) b.made,
      ),
    )

pub polls_to : (x : Ends) (ls lc : Looks) (cs : List InvokedState) (js : List JobState) (s : Stage) (p : Polled)
    (es : List Noted)
    → Two x ls lc cs js s → polls s es (To p)
    → (q : Polled) × (fs : List Noted) × (w : Polling) × (q.given ≡ w.given) × Polls 1 x.client [] s w q.stage
    × polls_out 0 q fs (To p)
polls_to x ls lc cs js s p es two made =
    let order : clients_first s ≡ 1 ∷ 0 ∷ [] = ap (λ (ns : List Node). drop 1 (below (length ns)) ++ 0 ∷ [])
    two.nodes in
    let start : Polled = record { stage = s; given = [] } in
    let all : each polls_out (1 ∷ 0 ∷ []) start es (To p) = subst (λ (ns : List ℕ). each polls_out ns start es (To p))
    order made in
    let b = then_to (polls_out 1 start) (each polls_out (0 ∷ [])) es p all in
    let c = then_to (polls_out 0 b.between) (each polls_out []) b.rest p b.goes in
    let first = out_to 1 x.client start b.between b.front (host_client x ls lc cs js s two) b.made in
    let last : p ≡ c.between = ends_to c.between p c.rest c.goes in (
      b.between,
      c.front,
      first.0,
      first.1,
      first.2,
      subst (λ (q : Polled). polls_out 0 b.between c.front (To q))
          (sym last) c.made,
    )

-- ---- deliveries

pub taken_is : (from : Host) (bytes : List ℕ) (e : Event) → IsTaken from bytes e
    → (got : Took) × (e ≡ events.Taken from bytes got)
taken_is from bytes (events.Taken a b got) is = (
  got,
  ap (λ (f : Host). events.Taken f b got) is.0
      ∙ ap (λ (c : List ℕ). events.Taken from c got) is.1,
)
taken_is from bytes (events.Polled got) is = absurd is
taken_is from bytes (events.Linked a b c d) is = absurd is
taken_is from bytes (events.Called a b) is = absurd is
taken_is from bytes (events.Wrote a b c d) is = absurd is
taken_is from bytes (events.Shut a b) is = absurd is
taken_is from bytes (events.HasRead a b c d) is = absurd is
taken_is from bytes (events.Ended a b) is = absurd is
taken_is from bytes (events.Cancelled a b c) is = absurd is
taken_is from bytes (events.Accepted a) is = absurd is
taken_is from bytes (events.Finished a b c) is = absurd is
taken_is from bytes (events.Clocked a) is = absurd is

pub server_taken : (x : Ends) (ls lc : Looks) (cs : List InvokedState) (js : List JobState) (s : Stage) (from : Host)
    (bytes : List ℕ) (e : Event)
    → Two x ls lc cs js s → IsAllowedNext s 0 (IsTaken from bytes) e
    → e ≡ events.Taken from bytes (took_of (server_setup x) ls from bytes)
server_taken x ls lc cs js s from bytes e two allowed =
    let a = at_server x ls lc cs js s (IsTaken from bytes) e two allowed in
    let p = taken_is from bytes e a.0 in
    p.1 ∙ ap (λ (got : Took). events.Taken from bytes got)
    (subst (λ (f : Event). Allowed (server_setup x) ls f) p.1 a.1).1

pub client_taken : (x : Ends) (ls lc : Looks) (cs : List InvokedState) (js : List JobState) (s : Stage) (from : Host)
    (bytes : List ℕ) (e : Event)
    → Two x ls lc cs js s → IsAllowedNext s 1 (IsTaken from bytes) e
    → e ≡ events.Taken from bytes (took_of (client_setup x) lc from bytes)
client_taken x ls lc cs js s from bytes e two allowed =
    let a = at_client x ls lc cs js s (IsTaken from bytes) e two allowed in
    let p = taken_is from bytes e a.0 in
    p.1 ∙ ap (λ (got : Took). events.Taken from bytes got)
    (subst (λ (f : Event). Allowed (client_setup x) lc f) p.1 a.1).1

abbrev pub AreApart : Ends → Type 0
AreApart x = (same_host x.client x.server ≡ false) × (same_host x.server x.client ≡ false)

for_is : (d : Datagram) (s : Stage) (node : ℕ) (at : Host) (b : Bool) → host_at s node ≡ Some at
    → same_host d.to at ≡ b → is_for d s node ≡ b
for_is d s node at b there same = ap (λ (o : Option Host). unwrap_or (option_map (same_host d.to) o) false) there ∙ same

module _ (x : Ends) (ls lc : Looks) (cs : List InvokedState) (js : List JobState) (s t : Stage) (from : Host)
    (bytes : List ℕ) (es : List Noted) where
  -- a datagram for the server is taken there alone
  pub delivered_server : AreApart x → Two x ls lc cs js s → delivers (sent from x.server bytes) s es (To t)
      → Two x (after (server_setup x) (events.Taken from bytes (took_of (server_setup x) ls from bytes)) ls) lc cs js t
  delivered_server apart two made =
      let d : Datagram = sent from x.server bytes in
      let order : all_nodes s ≡ 0 ∷ 1 ∷ [] = ap (λ (ns : List Node). below (length ns)) two.nodes in
      let all : each (comes_to d) (0 ∷ 1 ∷ []) s es (To t) = subst (λ (ns : List ℕ). each (comes_to d) ns s es (To t))
      order made in
      let b = then_to (comes_to d 0 s) (each (comes_to d) (1 ∷ [])) es t all in
      let here : event 0 (IsTaken from bytes) s b.front (To b.between) =
      subst (λ (c : Bool). by_test c (event 0 (IsTaken from bytes) s) (ends (To s)) b.front (To b.between))
      (for_is d s 0 x.server true (host_server x ls lc cs js s two) (host_itself x.server)) b.made in
      let h = event_to 0 (IsTaken from bytes) s b.between b.front here in
      let is = server_taken x ls lc cs js s from bytes h.event two h.allowed in
      let e : Event = events.Taken from bytes (took_of (server_setup x) ls from bytes) in
      let behind : b.between ≡ with_event 0 e s = h.then_ ∙ ap (λ (f : Event). with_event 0 f s) is in
      let next : Two x (after (server_setup x) e ls) lc cs js b.between = subst
      (λ (u : Stage). Two x (after (server_setup x) e ls) lc cs js u) (sym behind)
      (two_server x ls lc cs js s e two) in
      let c = then_to (comes_to d 1 b.between) (each (comes_to d) []) b.rest t b.goes in
      let there : ends (To b.between) c.front (To c.between) =
      subst (λ (c1 : Bool). by_test c1 (event 1 (IsTaken from bytes) b.between) (ends (To b.between)) c.front
      (To c.between))
      (for_is d b.between 1 x.client false (host_client x (after (server_setup x) e ls) lc cs js b.between next)
      apart.1) c.made in
      let same : t ≡ b.between = ends_to c.between t c.rest c.goes ∙ ends_to b.between c.between c.front there in
      subst (λ (u : Stage). Two x (after (server_setup x) e ls) lc cs js u) (sym same) next

  -- and one for the client at the client alone
  pub delivered_client : AreApart x → Two x ls lc cs js s → delivers (sent from x.client bytes) s es (To t)
      → Two x ls (after (client_setup x) (events.Taken from bytes (took_of (client_setup x) lc from bytes)) lc) cs js t
  delivered_client apart two made =
      let d : Datagram = sent from x.client bytes in
      let order : all_nodes s ≡ 0 ∷ 1 ∷ [] = ap (λ (ns : List Node). below (length ns)) two.nodes in
      let all : each (comes_to d) (0 ∷ 1 ∷ []) s es (To t) = subst (λ (ns : List ℕ). each (comes_to d) ns s es (To t))
      order made in
      let b = then_to (comes_to d 0 s) (each (comes_to d) (1 ∷ [])) es t all in
      let here : ends (To s) b.front (To b.between) =
      subst (λ (c : Bool). by_test c (event 0 (IsTaken from bytes) s) (ends (To s)) b.front (To b.between))
      (for_is d s 0 x.server false (host_server x ls lc cs js s two) apart.0) b.made in
      let still : b.between ≡ s = ends_to s b.between b.front here in
      let mid : Two x ls lc cs js b.between = subst (λ (u : Stage). Two x ls lc cs js u) (sym still) two in
      let c = then_to (comes_to d 1 b.between) (each (comes_to d) []) b.rest t b.goes in
      let there : event 1 (IsTaken from bytes) b.between c.front (To c.between) =
      subst (λ (c1 : Bool). by_test c1 (event 1 (IsTaken from bytes) b.between) (ends (To b.between)) c.front
      (To c.between))
      (for_is d b.between 1 x.client true (host_client x ls lc cs js b.between mid) (host_itself x.client)) c.made in
      let h = event_to 1 (IsTaken from bytes) b.between c.between c.front there in
      let is = client_taken x ls lc cs js b.between from bytes h.event mid h.allowed in
      let e : Event = events.Taken from bytes (took_of (client_setup x) lc from bytes) in
      let same : t ≡ with_event 1 e b.between = ends_to c.between t c.rest c.goes ∙ h.then_
      ∙ ap (λ (f : Event). with_event 1 f b.between) is in
      subst (λ (u : Stage). Two x ls (after (client_setup x) e lc) cs js u) (sym same)
      (two_client x ls lc cs js b.between e mid)

-- ---- from one to another

module _ (x : Ends) (ls lc ls2 lc2 : Looks) (cs : List InvokedState) (js : List JobState) (s t : Stage) where
  pub two_as : ls ≡ ls2 → lc ≡ lc2 → s ≡ t → Two x ls lc cs js s → Two x ls2 lc2 cs js t
  two_as server client stage two =
      subst (λ (l : Looks). Two x l lc2 cs js t) server
      (subst (λ (l : Looks). Two x ls l cs js t) client
      (subst (λ (u : Stage). Two x ls lc cs js u) stage two))

pub two_jobs : (x : Ends) (ls lc : Looks) (cs : List InvokedState) (js ks : List JobState) (s t : Stage)
    → t ≡ record s { jobs = ks }
    → Two x ls lc cs js s → Two x ls lc cs ks t
two_jobs x ls lc cs js ks s t is two =
    subst (λ (u : Stage). Two x ls lc cs ks u) (sym is)
    (record { nodes = two.nodes; server = two.server; client = two.client; callers = two.callers; jobs = refl })

-- ---- whether a call lives

pub any_two : (x : Ends) (ls lc : Looks) (cs : List InvokedState) (js : List JobState) (s : Stage) → Two x ls lc cs js s
    → any_lives s.nodes s.history ≡ list_any (λ b. b) (nat_lt 0 (live ls) ∷ nat_lt 0 (live lc) ∷ [])
any_two x ls lc cs js s two =
    ap (λ (ns : List Node). list_any (λ b. b) (over_nodes (lives_at s.history) 0 ns)) two.nodes
    ∙ ap (λ (l : Looks). list_any (λ b. b)
    (nat_lt 0 (live l) ∷ nat_lt 0 (live (looks (client_setup x) (side 1 s.history))) ∷ [])) two.server
    ∙ ap (λ (l : Looks). list_any (λ b. b) (nat_lt 0 (live ls) ∷ nat_lt 0 (live l) ∷ [])) two.client
