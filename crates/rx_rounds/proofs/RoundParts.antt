-- The parts of a round of a server and one client with one call, at any moment: the polls of both, deliveries of both,
-- and a turn of the dispatcher in which nothing is there to read.
use Rattle.std.proofs.Common.{◌≡◌, ◌-◌, ◌++◌, ℕ, Bool, true, false, cond, List, [], ◌∷◌, refl, ap, sym, subst, ◌∙◌, inl}
use Rattle.std.proofs.Common.{Option, None, append-nil, arith, nat_le, nat_lt}
use Rattle.std.proofs.lemmas.Bool.{le-ltb}
use Rattle.rx_model.specs.declared.answers.CallRead.{CallRead}
use Rattle.rx_model.specs.declared.answers.ReadGot.TheVariants as readers
use Rattle.rx_model.specs.declared.answers.ServeRead.TheVariants as served
use Rattle.rx_model.specs.declared.event.Event.{Event}
use Rattle.rx_model.specs.declared.event.Event.TheVariants as events
use Rattle.rx_model.specs.declared.names.CallName.{CallName}
use Rattle.rx_model.specs.declared.wire.TheConstants.{SILENCE_MS}
use Rattle.rx_model.specs.Message.{Message}
use Rattle.rx_rules.specs.After.{after}
use Rattle.rx_rules.specs.CallLooks.{CallLooks, after_read}
use Rattle.rx_rules.specs.Life.{Life, is_active, is_live}
use Rattle.rx_rules.specs.Life as lives
use Rattle.rx_rules.specs.Looks.{CallRecord, Looks, call_at}
use Rattle.rx_rules.specs.Owing.{owed_for_done}
use Rattle.rx_rules.specs.Received.{is_complete, read_from, unread_of, used_of}
use Rattle.rx_rules.specs.Rules.{accept_answer, served_read, served_read_by}
use Rattle.rx_law.specs.Worlds.{Datagram}
use Rattle.rx_jobs.specs.declared.job.Phase.TheVariants as phases
use Rattle.rx_jobs.specs.Dispatching.{Turning, accepts, over, serves}
use Rattle.rx_jobs.specs.Handlers.{Handlers}
use Rattle.rx_jobs.specs.Jobs.{JobState, begun}
use Rattle.rx_plan.specs.Network.{delivers}
use Rattle.rx_plan.specs.Parts.{To, each}
use Rattle.rx_plan.specs.Rounds.{Polled, polls}
use Rattle.rx_plan.specs.Stages.{InvokedState, Stage}
use Rattle.rx_plan.specs.Turned.{dispatches, jobs_left}
use Rattle.rx_rounds.proofs.Between.{client_at, server_at}
use Rattle.rx_rounds.proofs.Exchange.{PollsOut}
use Rattle.rx_rounds.proofs.Making.{then_to}
use Rattle.rx_rounds.proofs.One.OneCall.{Ends, client_place, from_server, server_place, server_setup, the_call}
use Rattle.rx_rounds.proofs.One.OneNode.{ArePlain, client_polled_out, datagrams, server_polled_out}
use Rattle.rx_rounds.proofs.One.OneSteps.{call_is, empty_at, server_accepts_none, server_read}
use Rattle.rx_rounds.proofs.Pair.{CallEnd}
use Rattle.rx_rounds.proofs.Rounded.{Made, dispatch_to}
use Rattle.rx_rounds.proofs.Turned.{Serves, Serves_, serves_accept, serves_over, serves_read}
use Rattle.rx_rounds.proofs.Two.{Two, host_server, out_to, polls_to, server_polls_none, two_as, two_jobs}

-- ---- deliveries of two lists

pub delivers_split : (xs ys : List Datagram) (s t : Stage) → Made (each delivers (xs ++ ys)) s t
    → (u : Stage) × Made (each delivers xs) s u × Made (each delivers ys) u t
delivers_split [] ys s t made = (s, ([], (refl, inl refl)), made)
delivers_split (d ∷ xs) ys s t made =
    let b = then_to (delivers d s) (each delivers (xs ++ ys)) made.0 t made.1 in
    let r = delivers_split xs ys b.between t (b.rest, b.goes) in (
      r.0,
      (
        b.front ++ r.1.0,
        record { front = b.front; rest = r.1.0; are = refl; came = To b.between; made = b.made; goes = r.1.1 },
      ),
      r.2,
    )

-- ---- polls

module _ (x : Ends) (now : ℕ) (cs : List InvokedState) (js : List JobState) where
  -- what both give
  pub both_polled : (firsts : List CallName) (life : Life) (e f : CallEnd) (ms : List Message) (d h : CallEnd)
      (ns : List Message)
      → PollsOut (client_place x now) e ms f → ArePlain ms → nat_le SILENCE_MS (now - e.looks.heard) ≡ false
      → PollsOut (server_place x now) d ns h → ArePlain ns → nat_le SILENCE_MS (now - d.looks.heard) ≡ false
      → is_active life ≡ true → is_live life ≡ true → (used_client used_server : ℕ) (s : Stage) (q : Polled)
      → Two x (server_at x d.given used_server now life d.looks) (client_at x e.given used_client firsts now e.looks) cs
      js s
      → Made polls s q
      → (q.given ≡ datagrams x.client x.server ms ++ datagrams x.server x.client ns)
      × ((last_client : ℕ) × ((last_server : ℕ) × Two x (server_at x h.given last_server now life h.looks)
      (client_at x f.given last_client firsts now f.looks) cs js q.stage))
  both_polled firsts life e f ms d h ns gives_ plain awake gives2 plain2 awake2 active living used_client used_server s
      q
      two made =
      let ls : Looks = server_at x d.given used_server now life d.looks in
      let m = polls_to x ls (client_at x e.given used_client firsts now e.looks) cs js s q made.0 two made.1 in
      let b = client_polled_out x now cs js firsts ls e f ms gives_ plain awake used_client [] s m.0.stage m.2 two
      m.4 in
      let lc : Looks = client_at x f.given b.1.0 firsts now f.looks in
      let c = out_to 0 x.server m.0 q m.1 (host_server x ls lc cs js m.0.stage b.1.1) m.5 in
      let g = server_polled_out x now cs js lc life d h ns active living gives2 plain2 awake2 used_server m.0.given
      m.0.stage q.stage c.0 b.1.1 c.2 in (
        c.1 ∙ g.0 ∙ ap (λ (ds : List Datagram). ds ++ datagrams x.server x.client ns) (m.3 ∙ b.0),
        (b.1.0, (g.1.0, g.1.1)),
      )

  -- where the server doesn't know the call
  pub client_polled : (firsts : List CallName) (e f : CallEnd) (ms : List Message)
      → PollsOut (client_place x now) e ms f → ArePlain ms → nat_le SILENCE_MS (now - e.looks.heard) ≡ false
      → (used_client : ℕ) (s : Stage) (q : Polled)
      → Two x (empty_at now) (client_at x e.given used_client firsts now e.looks) cs js s
      → Made polls s q
      → (q.given ≡ datagrams x.client x.server ms)
      × ((last_client : ℕ) × Two x (empty_at now) (client_at x f.given last_client firsts now f.looks) cs js q.stage)
  client_polled firsts e f ms gives_ plain awake used_client s q two made =
      let ls : Looks = empty_at now in
      let m = polls_to x ls (client_at x e.given used_client firsts now e.looks) cs js s q made.0 two made.1 in
      let b = client_polled_out x now cs js firsts ls e f ms gives_ plain awake used_client [] s m.0.stage m.2 two
      m.4 in
      let lc : Looks = client_at x f.given b.1.0 firsts now f.looks in
      let c = out_to 0 x.server m.0 q m.1 (host_server x ls lc cs js m.0.stage b.1.1) m.5 in
      let g = server_polls_none x ls lc cs js m.0.stage q.stage x.server m.0.given c.0 b.1.1 refl c.2 in
      (c.1 ∙ g.0 ∙ m.3 ∙ b.0, (b.1.0, g.1))

-- ---- a turn in which nothing is there to read

-- a read of nothing changes nothing
pub reads_still : (now : ℕ) (k : CallLooks) → after_read now false [] k ≡ k
reads_still now k =
    ap (λ (ys : List ℕ). record k {
      received = record k.received { read = ys };
      owed_ack = cond (nat_lt (used_of k.received) (used_of (record k.received { read = ys })))
          (owed_for_done now k.cwnd.prompt k.owed_ack) k.owed_ack;
    }) (append-nil k.received.read)
    ∙ ap (λ (b : Bool). record k {
      owed_ack = cond b (owed_for_done now k.cwnd.prompt k.owed_ack) k.owed_ack;
    })
    (le-ltb (used_of k.received) (used_of k.received) (omega arith))

module _ (x : Ends) (g : Handlers) (lc : Looks) (cs : List InvokedState) (now given used : ℕ) (k : CallLooks)
    (kept : List ℕ) (s t : Stage) where
  pub turn_still : unread_of k.received ≡ [] → is_complete k.received ≡ false
      → Two x (server_at x given used now lives.Accepted k) lc cs (record (begun (the_call x)) { request = kept } ∷ [])
      s
      → Made (dispatches g) s t
      → Two x (server_at x given used now lives.Accepted k) lc cs (record (begun (the_call x)) { request = kept } ∷ [])
      t
  turn_still none part two made =
      let c : CallName = the_call x in
      let job : JobState = record (begun (the_call x)) { request = kept } in
      let js : List JobState = job ∷ [] in
      let ls : Looks = server_at x given used now lives.Accepted k in
      let d = dispatch_to g s t made in
      let from : Serves g (accepts js) s d.view d.stage = subst
      (λ (ks : List JobState). Serves g (accepts ks) s d.view d.stage) two.jobs d.serves in
      let e = subst (λ (got : Option CallName). Serves_ x g ls lc cs js (accepts js)
      (events.Accepted got) d.view d.stage) (server_accepts_none x now used given lives.Accepted k refl)
      (serves_accept x g ls lc cs js (accepts js) d.view s d.stage two refl from) in
      let v : Turning = serves [] (record { job = job; phase = phases.Moves }) [] in
      let read : Event = events.HasRead c 4096 (readers.Server served.NotYet) [] in
      let is : events.HasRead c 4096 (readers.Server (served_read (call_at ls c) 4096).0)
      (served_read (call_at ls c) 4096).1 ≡ read =
      ap (λ (o : Option CallRecord). events.HasRead c 4096 (readers.Server (served_read o 4096).0)
      (served_read o 4096).1) (call_is x (from_server x given used) (c ∷ []) now lives.Accepted k)
      ∙ ap (λ (r : CallRead × List ℕ). events.HasRead c 4096 (readers.Server (served_read_by lives.Accepted r).0)
      (served_read_by lives.Accepted r).1)
      (ap (λ (u : List ℕ). read_from 4096 u (is_complete k.received)) none ∙ ap (read_from 4096 []) part) in
      let f = subst (λ (h : Event). Serves_ x g ls lc cs js v h d.view d.stage) is
      (serves_read x g ls lc cs js v d.view e.stage d.stage c e.two refl e.goes) in
      let two1 : Two x ls lc cs js f.stage = two_as x (after (server_setup x) read ls) lc ls lc cs js f.stage f.stage
      (server_read x (c ∷ []) now used given 4096 k served.NotYet [] ∙ ap (server_at x given used now lives.Accepted)
      (reads_still now k)) refl refl f.two in
      let o = serves_over g (over js) d.view f.stage d.stage refl f.goes in
      two_jobs x ls lc cs js js d.stage t (d.then_ ∙ ap (λ (w : Turning). record d.stage { jobs = jobs_left w }) o.0)
      (two_as x ls lc ls lc cs js f.stage d.stage refl refl (sym o.1) two1)

-- ---- a dispatcher without work

pub idle_dispatch : (x : Ends) (g : Handlers) (ls lc : Looks) (cs : List InvokedState) (s t : Stage)
    → Two x ls lc cs [] s → accept_answer (server_setup x) ls ≡ None → Made (dispatches g) s t → Two x ls lc cs [] t
idle_dispatch x g ls lc cs s t two none made =
    let d = dispatch_to g s t made in
    let from : Serves g (accepts []) s d.view d.stage = subst
    (λ (js : List JobState). Serves g (accepts js) s d.view d.stage) two.jobs d.serves in
    let a = subst (λ (got : Option CallName). Serves_ x g ls lc cs [] (accepts [])
    (events.Accepted got) d.view d.stage) none
    (serves_accept x g ls lc cs [] (accepts []) d.view s d.stage two refl from) in
    let o = serves_over g (over []) d.view a.stage d.stage refl a.goes in
    two_jobs x ls lc cs [] [] d.stage t (d.then_ ∙ ap (λ (v : Turning). record d.stage { jobs = jobs_left v }) o.0)
    (two_as x ls lc ls lc cs [] a.stage d.stage refl refl (sym o.1) a.two)

-- ---- other callers

pub two_callers : (x : Ends) (ls lc : Looks) (cs ds : List InvokedState) (js : List JobState) (s t : Stage)
    → t ≡ record s { callers = ds }
    → Two x ls lc cs js s → Two x ls lc ds js t
two_callers x ls lc cs ds js s t is two =
    subst (λ (u : Stage). Two x ls lc ds js u) (sym is)
    (record { nodes = two.nodes; server = two.server; client = two.client; callers = refl; jobs = two.jobs })
