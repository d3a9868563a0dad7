-- Parts of a run that make no connection and move no clock: what their events leave.
use Rattle.std.proofs.Common.{◌≡◌, ◌==◌, ℕ, true, List, [], length, Option, Some, None, slice_get, subst, sym, ◌∷◌}
use Rattle.rx_model.specs.declared.event.Event.{Event}
use Rattle.rx_model.specs.declared.event.Event.TheVariants as events
use Rattle.rx_model.specs.declared.event.Noted.{Noted}
use Rattle.rx_model.specs.declared.names.Host.{Host}
use Rattle.rx_asks.specs.Asks.{Asking, Cancels, IsAsked as IsAskedOf, Offers, Reads, Shuts, begun as caller_begun}
use Rattle.rx_asks.specs.Asks.{calling}
use Rattle.rx_asks.specs.declared.ask.TheConstants.{REPLY_BYTES}
use Rattle.rx_jobs.specs.Dispatching.{accepts, dispatching}
use Rattle.rx_jobs.specs.Handlers.{Handlers}
use Rattle.rx_jobs.specs.Jobs.{Ask, IsCall, accept, finish, read, write}
use Rattle.rx_history.specs.Sides.{Node}
use Rattle.rx_law.specs.Worlds.{Datagram}
use Rattle.rx_events.specs.Events.{IsPolled, IsTaken}
use Rattle.rx_wire.specs.Turns.{noted}
use Rattle.rx_plan.specs.Lines.{turn_line}
use Rattle.rx_plan.specs.Network.{all_nodes, below, comes_to, delivers, is_for}
use Rattle.rx_plan.specs.Parts.{To, One, each, ends}
use Rattle.rx_plan.specs.Programs.{Turn}
use Rattle.rx_plan.specs.Rounds.{Polled, clients_first, polling, polls, polls_at, polls_out, turns}
use Rattle.rx_plan.specs.Stages.{InvokedState, IsAllowedNext, Stage, event, host_at, is_client, with_event}
use Rattle.rx_plan.specs.Turned.{dispatches, is_of, turns_all, turns_at, turns_for, turns_of, turns_where}
use Rattle.rx_plan.proofs.Leading.{Leads, each_lead, ends_lead, one_lead, test_lead, then_lead, turn_lead}

-- neither a connection nor a clock
abbrev pub IsTame : Event → Type 0
IsTame (events.Linked to its first got) = ⊥
IsTame (events.Clocked now) = ⊥
IsTame _ = Unit {0}

tame_taken : (from : Host) (bytes : List ℕ) (e : Event) → IsTaken from bytes e → IsTame e
tame_taken from bytes (events.Taken sender given got) i = tt
tame_taken from bytes e i = elim i [ ]

pub tame_polled : (e : Event) → IsPolled e → IsTame e
tame_polled (events.Polled got) i = tt
tame_polled e i = elim i [ ]

tame_call : (a : Ask) (e : Event) → IsCall a e → IsTame e
tame_call accept e is = subst IsTame (sym is.1) tt
tame_call (read c) e is = subst IsTame (sym is.2) tt
tame_call (write c offer) e is = subst IsTame (sym is.1) tt
tame_call (finish c code) e is = subst IsTame (sym is.1) tt

tame_asking : (a : Asking) (e : Event) → IsAskedOf a e → IsTame e
tame_asking (Offers c block) (events.Linked to its first got) is = absurd is
tame_asking (Shuts c) (events.Linked to its first got) is = absurd is
tame_asking (Reads c max) (events.Linked to its first got) is = absurd is
tame_asking (Cancels c code) (events.Linked to its first got) is = absurd is
tame_asking (Offers c block) (events.Clocked now) is = absurd is
tame_asking (Shuts c) (events.Clocked now) is = absurd is
tame_asking (Reads c max) (events.Clocked now) is = absurd is
tame_asking (Cancels c code) (events.Clocked now) is = absurd is
tame_asking a e is = tt

-- ---- parts

module _ (g : Handlers) (Q : List Node → List Noted → Type 0)
    (step : (nodes : List Node) (h : List Noted) (node : ℕ) (e : Event) → IsTame e → Q nodes h
    → Q nodes (noted node e ∷ h)) where
  -- it holds of a stage
  abbrev pub At : Stage → Type 0
  At s = Q s.nodes s.history

  quiet_lead : (s : Stage) (node : ℕ) (is : Event → Type 0) → ((e : Event) → is e → IsTame e) → At s
      → Leads At (event node is s)
  quiet_lead s node is tame so =
      then_lead (λ e. is e) At (One node (IsAllowedNext s node is)) (λ e. ends (To (with_event node e s)))
      (one_lead is node (IsAllowedNext s node is) (λ e there. there.0))
      (λ e there. ends_lead At (To (with_event node e s)) (step s.nodes s.history node e (tame e there) so))

  rest_lead : (s : Stage) → At s → Leads At (ends (To s))
  rest_lead s so = ends_lead At (To s) so

  pub serve_lead : (s : Stage) → At s → Leads At (dispatches g s)
  serve_lead s so =
      then_lead (λ r. At r.1 × ((dispatching g).asks r.0 ≡ None)) At
      (Turn (dispatching g) 0 (accepts s.jobs) s) _
      (turn_lead (dispatching g) 0 (λ v t. At t)
      (λ v t a e there asked is allowed. step t.nodes t.history 0 e (tame_call a e is) there) (accepts s.jobs) s so)
      (λ r there. ends_lead At _ there.0)

  pub call_lead : (place : ℕ) (k : InvokedState) (s : Stage) → At s → Leads At (turns_of place k s)
  call_lead place k s so =
      then_lead (λ r. At r.1 × ((calling REPLY_BYTES).asks r.0 ≡ None)) At _ _
      (turn_lead (calling REPLY_BYTES) k.node (λ v t. At t)
      (λ v t a e there asked is allowed. step t.nodes t.history k.node e (tame_asking a e is) there)
      (caller_begun k.caller) s
      so)
      (λ r there. ends_lead At _ there.0)

  pub where_lead : (place : ℕ) (o : Option InvokedState) (s : Stage) → At s → Leads At (turns_where place o s)
  where_lead place None s so = rest_lead s so
  where_lead place (Some k) s so =
      test_lead At (is_client k.node s) _ _ (call_lead place k s so) (rest_lead s so)

  pub at_lead : (place : ℕ) (s : Stage) → At s → Leads At (turns_at place s)
  at_lead place s so = where_lead place (slice_get s.callers place) s so

  pub for_lead : (node place : ℕ) (s : Stage) → At s → Leads At (turns_for node place s)
  for_lead node place s so =
      test_lead At (is_of node (slice_get s.callers place)) _ _ (at_lead place s so) (rest_lead s so)

  pub turn_line_lead : (node : ℕ) (s : Stage) → At s → Leads At (turn_line g node s)
  turn_line_lead node s so =
      test_lead At (node == 0) _ _ (serve_lead s so)
      (each_lead At (turns_for node) (for_lead node) (below (length s.callers)) s so)

  -- ---- deliveries and polls

  come_lead : (d : Datagram) (node : ℕ) (s : Stage) → At s → Leads At (comes_to d node s)
  come_lead d node s so =
      test_lead At (is_for d s node) _ _
      (quiet_lead s node (IsTaken d.from d.bytes) (tame_taken d.from d.bytes) so) (rest_lead s so)

  pub deliver_lead : (d : Datagram) (s : Stage) → At s → Leads At (delivers d s)
  deliver_lead d s so = each_lead At (comes_to d) (come_lead d) (all_nodes s) s so

  pub deliveries_lead : (ds : List Datagram) (s : Stage) → At s → Leads At (each delivers ds s)
  deliveries_lead ds s so = each_lead At delivers deliver_lead ds s so

  poll_lead : (node : ℕ) (o : Option Host) (p : Polled) → At p.stage
      → Leads (λ r. At r.stage) (polls_at node o p)
  poll_lead node None p so = ends_lead (λ r. At r.stage) (To p) so
  poll_lead node (Some from) p so =
      then_lead (λ r. At r.1 × ((polling from).asks r.0 ≡ None)) (λ r. At r.stage) _ _
      (turn_lead (polling from) node (λ v t. At t)
      (λ v t a e there asked is allowed. step t.nodes t.history node e (tame_polled e is) there)
      (record { again = true; given = p.given }) p.stage so)
      (λ r there. ends_lead (λ q. At q.stage) _ there.0)

  pub polls_lead : (s : Stage) → At s → Leads (λ r. At r.stage) (polls s)
  polls_lead s so =
      each_lead (λ r. At r.stage) polls_out (λ node p there. poll_lead node (host_at p.stage node) p there)
      (clients_first s) (record { stage = s; given = [] }) so

  pub turns_at_lead : (s : Stage) → At s → Leads At (turns_all s)
  turns_at_lead s so = each_lead At turns_at at_lead (below (length s.callers)) s so

  pub turns_lead : (s : Stage) → At s → Leads At (turns g s)
  turns_lead s so =
      then_lead At At (dispatches g s) turns_all (serve_lead s so)
      (λ t there. turns_at_lead t there)
