-- What holds behind each event of a driven plan holds behind each part of a round.
use Rattle.std.proofs.Common.{◌≡◌, ◌==◌, ◌&&◌, not, ℕ, Bool, List, [], ◌∷◌, length, set, Option, Some, None, refl}
use Rattle.std.proofs.Common.{subst, true, ◌+◌, slice_get}
use Rattle.rx_model.specs.declared.event.Event.{Event}
use Rattle.rx_model.specs.declared.names.Host.{Host}
use Rattle.rx_asks.specs.Asks.{begun as caller_begun, calling, heard}
use Rattle.rx_asks.specs.View.{CallerState}
use Rattle.rx_asks.specs.declared.ask.TheConstants.{REPLY_BYTES}
use Rattle.rx_jobs.specs.Dispatching.{Turning, accepts, dispatching}
use Rattle.rx_jobs.specs.Handlers.{Handlers}
use Rattle.rx_history.specs.Sides.{moment}
use Rattle.rx_law.specs.Worlds.{Datagram}
use Rattle.rx_events.specs.Events.{IsClocked, IsTaken}
use Rattle.rx_events.specs.Joint.{IsAllowedAt}
use Rattle.rx_events.specs.Waits.{least_wait}
use Rattle.rx_plan.specs.Network.{all_nodes, below, comes_to, delivers, is_for}
use Rattle.rx_plan.specs.Parts.{Came, To, One, ends}
use Rattle.rx_plan.specs.Programs.{Turn}
use Rattle.rx_plan.specs.Rounds.{Polled, clients_first, may_move, moves_by, moves_on, polling, polls, polls_at}
use Rattle.rx_plan.specs.Rounds.{polls_out, settles}
use Rattle.rx_plan.specs.Stages.{InvokedState, IsAllowedNext, Stage, event, event_with, host_at, is_client, with_event}
use Rattle.rx_plan.specs.Turned.{dispatches, turns_all, turns_at, turns_of, turns_where}
use Rattle.rx_plan.proofs.Driven.{Carries, Seen, seen, seen_behind, set_own, with_view, set_twice}
use Rattle.rx_plan.proofs.Leading.{IsSteady, Leads, each_lead, ends_lead, heard_steady, one_lead, steady_over}
use Rattle.rx_plan.proofs.Leading.{test_lead, then_lead, turn_lead}
use Rattle.rx_plan.proofs.QuietEvents.{IsQuietOf, quiet_clocked, quiet_polled, quiet_taken}
use Rattle.rx_plan.proofs.Soundness.Sound.{IfTo}
use Rattle.rx_rounds.proofs.Rounded.{RoundMade}

module _ (g : Handlers) (Asks : ℕ → List ℕ → Type 0) (Q : Seen → Type 0) (carries : Carries g Asks Q) where
  -- it holds of a stage
  abbrev At : Stage → Type 0
  At s = Q (seen s)

  event_lead : (s : Stage) (node : ℕ) (is : Event → Type 0) (came : Event → Stage → Came Stage)
      → ((e : Event) → is e → IsAllowedAt s.nodes s.history node e → IfTo At (came e (with_event node e s)))
      → Leads At (event_with node is came s)
  event_lead s node is came next =
      then_lead (λ e. is e × IsAllowedAt s.nodes s.history node e) At (One node (IsAllowedNext s node is))
      (λ e. ends (came e (with_event node e s)))
      (one_lead (λ e. is e × IsAllowedAt s.nodes s.history node e) node (IsAllowedNext s node is) (λ e there. there))
      (λ e there. ends_lead At (came e (with_event node e s)) (next e there.0 there.1))

  quiet_lead : (s : Stage) (node : ℕ) (is : Event → Type 0) → ((e : Event) → is e → IsQuietOf s.nodes e) → At s
      → Leads At (event node is s)
  quiet_lead s node is quiet so =
      event_lead s node is (λ e t. To t)
      (λ e there allowed. carries.quiet (seen s) node e (quiet e there).0 (quiet e there).1 allowed so)

  rest_lead : (s : Stage) → At s → Leads At (ends (To s))
  rest_lead s so = ends_lead At (To s) so

  -- ---- turns

  serve_lead : (s : Stage) → At s → Leads At (dispatches g s)
  serve_lead s so =
      then_lead (λ r. R r.0 r.1 × ((dispatching g).asks r.0 ≡ None)) At (Turn (dispatching g) 0 (accepts s.jobs) s) _
      (turn_lead (dispatching g) 0 R
      (λ v t a e there asked is allowed. (
        carries.serves (record (seen t) { turning = v }) a e asked is allowed there.0,
        heard_steady g v e,
      )) (accepts s.jobs) s (carries.accepts_first (seen s) s.jobs refl so, tt))
      (λ r there.
      ends_lead At _
      (subst (λ (v : Turning). Q (record (seen r.1) { turning = v })) (steady_over g r.0 there.0.1 there.1) there.0.0))
    where
      R : Turning → Stage → Type 0
      R v t = Q (record (seen t) { turning = v }) × IsSteady g v

  call_lead : (place : ℕ) (k : InvokedState) (s : Stage) → slice_get s.callers place ≡ Some k → At s
      → Leads At (turns_of place k s)
  call_lead place k s at so =
      then_lead (λ r. R r.0 r.1 × ((calling REPLY_BYTES).asks r.0 ≡ None)) At _ _
      (turn_lead (calling REPLY_BYTES) k.node R
      (λ v t a e there asked is allowed.
      subst (λ (cs : List InvokedState). Q (record (seen_behind k.node e (seen t)) { callers = cs }))
      (set_twice s.callers place (with_view k v) (with_view k (heard v e)))
      (carries.calls (record (seen t) { callers = set s.callers place (with_view k v) }) place (with_view k v) a e
      (set_own s.callers place k (with_view k v) at) asked is allowed there)) (caller_begun k.caller) s
      (carries.offers_first (seen s) place k at so))
      (λ r there. ends_lead At _ there.0)
    where
      R : CallerState → Stage → Type 0
      R v t = Q (record (seen t) { callers = set s.callers place (with_view k v) })

  where_lead : (place : ℕ) (o : Option InvokedState) (s : Stage) → slice_get s.callers place ≡ o → At s
      → Leads At (turns_where place o s)
  where_lead place None s at so = rest_lead s so
  where_lead place (Some k) s at so =
      test_lead At (is_client k.node s) _ _ (call_lead place k s at so) (rest_lead s so)

  callers_lead : (s : Stage) → At s → Leads At (turns_all s)
  callers_lead s so =
      each_lead At turns_at (λ place t there. where_lead place (slice_get t.callers place) t refl there)
      (below (length s.callers)) s so

  -- ---- deliveries and polls

  come_lead : (d : Datagram) (node : ℕ) (s : Stage) → At s → Leads At (comes_to d node s)
  come_lead d node s so =
      test_lead At (is_for d s node) _ _
      (quiet_lead s node (IsTaken d.from d.bytes) (quiet_taken s.nodes d.from d.bytes) so) (rest_lead s so)

  deliver_lead : (d : Datagram) (s : Stage) → At s → Leads At (delivers d s)
  deliver_lead d s so = each_lead At (comes_to d) (come_lead d) (all_nodes s) s so

  poll_lead : (node : ℕ) (o : Option Host) (p : Polled) → At p.stage → Leads (λ r. At r.stage) (polls_at node o p)
  poll_lead node None p so = ends_lead (λ r. At r.stage) (To p) so
  poll_lead node (Some from) p so =
      then_lead (λ r. At r.1 × ((polling from).asks r.0 ≡ None)) (λ r. At r.stage) _ _
      (turn_lead (polling from) node (λ v t. At t)
      (λ v t a e there asked is allowed. carries.quiet (seen t) node e (quiet_polled t.nodes e is).0
      (quiet_polled t.nodes e is).1 allowed there)
      (record { again = true; given = p.given }) p.stage so)
      (λ r there. ends_lead (λ q. At q.stage) _ there.0)

  polls_lead : (s : Stage) → At s → Leads (λ r. At r.stage) (polls s)
  polls_lead s so =
      each_lead (λ r. At r.stage) polls_out (λ node p there. poll_lead node (host_at p.stage node) p there)
      (clients_first s) (record { stage = s; given = [] }) so

  -- ---- clocks

  moves_lead : (o : Option ℕ) (s : Stage) → At s → Leads At (moves_by o s)
  moves_lead None s so = rest_lead s so
  moves_lead (Some time) s so =
      test_lead At (not (time == 0) && may_move time s) _ _
      (each_lead At (moves_on time)
      (λ node t there.
      quiet_lead t node (IsClocked (moment node t.history + time))
      (quiet_clocked t.nodes (moment node t.history + time)) there)
      (clients_first s) s so) (rest_lead s so)

  settles_lead : (quiet : Bool) (s : Stage) → At s → Leads At (settles quiet s)
  settles_lead quiet s so =
      test_lead At quiet _ _ (moves_lead (least_wait s.nodes s.history) s so) (rest_lead s so)

  -- ---- a round

  -- at each stage of it
  pub record RoundCarried (s t : Stage) (r : RoundMade g s t) : Type 0 where
    pub polled : Q (seen r.polled.stage)
    pub delivered : Q (seen r.delivered)
    pub served : Q (seen r.served)
    pub called : Q (seen r.called)
    pub behind : Q (seen t)

  pub round_carries : (s t : Stage) → (r : RoundMade g s t) → Q (seen s) → RoundCarried s t r
  round_carries s t r so =
      let polled : At r.polled.stage = polls_lead s so r.polls_are.0 r.polled r.polls_are.1 in
      let delivered : At r.delivered =
      each_lead At delivers deliver_lead r.polled.given r.polled.stage polled r.delivers_are.0 r.delivered
      r.delivers_are.1 in
      let served : At r.served = serve_lead r.delivered delivered r.serves_are.0 r.served r.serves_are.1 in
      let called : At r.called = callers_lead r.served served r.calls_are.0 r.called r.calls_are.1 in
      record {
        polled = polled;
        delivered = delivered;
        served = served;
        called = called;
        behind = settles_lead (length r.polled.given == 0) r.called called r.settles_are.0 t r.settles_are.1;
      }
