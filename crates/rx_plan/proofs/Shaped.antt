-- A plan whose lines are driven, by its shape: what is so of a stage and stays so behind its single events and turns
-- stays so behind each of its lines.
use Rattle.std.proofs.Common.{◌≡◌, ◌==◌, ◌&&◌, not, nat_le, nat_lt, ℕ, zero, suc, Bool, true, false, List, []}
use Rattle.std.proofs.Common.{◌∷◌, ◌++◌, length, Option, Some, None, refl}
use Rattle.std.proofs.Common.{◌+◌, if◌then◌else◌, slice_get, string_bytes}
use Rattle.rx_model.specs.declared.event.Event.{Event}
use Rattle.rx_model.specs.declared.event.Event.TheVariants as events
use Rattle.rx_model.specs.declared.names.Host.{Host}
use Rattle.xdr_value.specs.View.{values_of}
use Rattle.rx_jobs.specs.Handlers.{Handlers}
use Rattle.rx_jobs.specs.Jobs.{Ask}
use Rattle.rx_history.specs.Sides.{moment}
use Rattle.rx_law.specs.Worlds.{Datagram}
use Rattle.rx_events.specs.Events.{IsAsked, IsCancelled, IsClocked, IsPolled, IsTaken}
use Rattle.rx_events.specs.Joint.{IsAllowedAt}
use Rattle.rx_events.specs.Waits.{any_lives, least_wait}
use Rattle.rx_script.specs.Procs.{proc_named}
use Rattle.rx_script.specs.declared.outcome.PlanWhy.{PlanWhy}
use Rattle.rx_script.specs.declared.outcome.PlanWhy.TheVariants as causes
use Rattle.rx_script.specs.declared.plan.PlanLine.{PlanLine}
use Rattle.rx_script.specs.declared.plan.PlanLine.TheVariants as lines
use Rattle.rx_plan.specs.declared.limits.TheConstants.{MAX_PACKETS}
use Rattle.rx_plan.specs.declared.call.ClientCall.{ClientCall}
use Rattle.rx_plan.specs.Answering.{IsDriven}
use Rattle.rx_plan.specs.Finds.{at_call, call_at, client_at, found_or, node_at, numbered}
use Rattle.rx_plan.specs.Lines.{bytes_of, can_join, clocks, clocks_all, connects, given_packet, invokes}
use Rattle.rx_plan.specs.Lines.{is_back}
use Rattle.rx_plan.specs.Lines.{jumbo_line, line_part, packets_in, polls_line, turn_line}
use Rattle.rx_plan.specs.Lines.{with_packet}
use Rattle.rx_plan.specs.Lossy.{carries, Lossy, comes, fated, gathered, lossy_round, lossy_rounds}
use Rattle.rx_plan.specs.Network.{all_nodes, below, comes_to, delivers, is_for}
use Rattle.rx_plan.specs.Parts.{Came, To, Refused, One, Part, each, ends}
use Rattle.rx_plan.specs.Programs.{Turn}
use Rattle.rx_plan.specs.Rounds.{Polled, clients_first, may_move, moves_by, moves_on, polling}
use Rattle.rx_plan.specs.Rounds.{polls, polls_at, polls_out, round, rounds, settles, turns}
use Rattle.rx_plan.specs.Stages.{InvokedState, IsAllowedNext, Stage, event, event_with, host_at, is_client}
use Rattle.rx_plan.specs.Stages.{with_event}
use Rattle.rx_plan.specs.Turned.{dispatches, is_of, turns_all, turns_at, turns_for, turns_of}
use Rattle.rx_plan.specs.Turned.{turns_where}
use Rattle.rx_plan.proofs.Leading.{Leads, each_lead, ends_lead, one_lead}
use Rattle.rx_plan.proofs.Leading.{test_lead}
use Rattle.rx_plan.proofs.Leading.{then_lead, turn_lead}
use Rattle.rx_plan.proofs.QuietEvents.{IsQuietOf, quiet_asked, quiet_cancelled, quiet_clocked}
use Rattle.rx_plan.proofs.QuietEvents.{quiet_linked, quiet_polled, quiet_taken}
use Rattle.rx_plan.proofs.Soundness.Sound.{IfTo}
use Rattle.rand_pcg.specs.Lcg.{Lcg}

-- what a line asks of a call that it makes
abbrev pub LineAsks : Handlers → (ℕ → List ℕ → Type 0) → ℕ → PlanLine → Type 0
LineAsks g Asks place (lines.Invoke client cid proc up down args) =
    Asks place (bytes_of g (proc_named (string_bytes proc) g.procs) (values_of args.items) up)
LineAsks g Asks place _ = Unit {0}

pub event_lead : (At : Stage → Type 0) (s : Stage) (node : ℕ) (is : Event → Type 0) (came : Event → Stage → Came Stage)
    → ((e : Event) → is e → IsAllowedAt s.nodes s.history node e → IfTo At (came e (with_event node e s)))
    → Leads At (event_with node is came s)
event_lead At s node is came next =
    then_lead (λ e. is e × IsAllowedAt s.nodes s.history node e) At (One node (IsAllowedNext s node is))
    (λ e. ends (came e (with_event node e s)))
    (one_lead (λ e. is e × IsAllowedAt s.nodes s.history node e) node (IsAllowedNext s node is) (λ e there. there))
    (λ e there. ends_lead At (came e (with_event node e s)) (next e there.0 there.1))

-- ---- rounds

-- a datagram is taken, or a clock moves
abbrev pub IsCarried : Event → Type 0
IsCarried (events.Taken from bytes got) = Unit {0}
IsCarried (events.Clocked now) = Unit {0}
IsCarried _ = ⊥

carried_taken : (from : Host) (bytes : List ℕ) (e : Event) → IsTaken from bytes e → IsCarried e
carried_taken from bytes (events.Taken sender given got) is = tt
carried_taken from bytes e is = elim is [ ]

carried_clocked : (now : ℕ) (e : Event) → IsClocked now e → IsCarried e
carried_clocked now (events.Clocked moment) is = tt
carried_clocked now e is = elim is [ ]

-- what is so of a stage stays so behind what the network and the clocks do, behind a turn of the dispatcher, and behind
-- one of a caller
pub record Shapes (g : Handlers) (At : Stage → Type 0) : Type 0 where
  pub carried :
      (s : Stage) (node : ℕ) (e : Event) → IsCarried e → IsAllowedAt s.nodes s.history node e → At s
      → At (with_event node e s)
  pub serves : (s : Stage) → At s → Leads At (dispatches g s)
  pub calls :
      (place : ℕ) (k : InvokedState) (s : Stage) → slice_get s.callers place ≡ Some k → At s
      → Leads At (turns_of place k s)

module _ (g : Handlers) (At : Stage → Type 0) (shapes : Shapes g At) where
  carried_lead : (s : Stage) (node : ℕ) (is : Event → Type 0) → ((e : Event) → is e → IsCarried e) → At s
      → Leads At (event node is s)
  carried_lead s node is carried so =
      event_lead At s node is (λ e t. To t) (λ e there allowed. shapes.carried s node e (carried e there) allowed so)

  rest_lead : (s : Stage) → At s → Leads At (ends (To s))
  rest_lead s so = ends_lead At (To s) so

  where_lead : (place : ℕ) (o : Option InvokedState) (s : Stage) → slice_get s.callers place ≡ o → At s
      → Leads At (turns_where place o s)
  where_lead place None s at so = rest_lead s so
  where_lead place (Some k) s at so =
      test_lead At (is_client k.node s) _ _ (shapes.calls place k s at so) (rest_lead s so)

  pub at_lead : (place : ℕ) (s : Stage) → At s → Leads At (turns_at place s)
  at_lead place s so = where_lead place (slice_get s.callers place) s refl so

  for_lead : (node place : ℕ) (s : Stage) → At s → Leads At (turns_for node place s)
  for_lead node place s so =
      test_lead At (is_of node (slice_get s.callers place)) _ _ (at_lead place s so) (rest_lead s so)

  turn_line_lead : (node : ℕ) (s : Stage) → At s → Leads At (turn_line g node s)
  turn_line_lead node s so =
      test_lead At (node == 0) _ _ (shapes.serves s so)
      (each_lead At (turns_for node) (for_lead node) (below (length s.callers)) s so)

  -- ---- deliveries

  come_lead : (d : Datagram) (node : ℕ) (s : Stage) → At s → Leads At (comes_to d node s)
  come_lead d node s so =
      test_lead At (is_for d s node) _ _
      (carried_lead s node (IsTaken d.from d.bytes) (carried_taken d.from d.bytes) so) (rest_lead s so)

  deliver_lead : (d : Datagram) (s : Stage) → At s → Leads At (delivers d s)
  deliver_lead d s so = each_lead At (comes_to d) (come_lead d) (all_nodes s) s so

  pub deliveries_lead : (ds : List Datagram) (s : Stage) → At s → Leads At (each delivers ds s)
  deliveries_lead ds s so = each_lead At delivers deliver_lead ds s so

  -- ---- clocks

  moves_lead : (o : Option ℕ) (s : Stage) → At s → Leads At (moves_by o s)
  moves_lead None s so = rest_lead s so
  moves_lead (Some time) s so =
      test_lead At (not (time == 0) && may_move time s) _ _
      (each_lead At (moves_on time)
      (λ node t there.
      carried_lead t node (IsClocked (moment node t.history + time))
      (carried_clocked (moment node t.history + time)) there)
      (clients_first s) s so) (rest_lead s so)

  pub settles_lead : (quiet : Bool) (s : Stage) → At s → Leads At (settles quiet s)
  settles_lead quiet s so =
      test_lead At quiet _ _ (moves_lead (least_wait s.nodes s.history) s so) (rest_lead s so)

  -- ---- behind polls

  pub turns_lead : (s : Stage) → At s → Leads At (turns g s)
  turns_lead s so =
      then_lead At At (dispatches g s) turns_all (shapes.serves s so)
      (λ t there. each_lead At turns_at at_lead (below (length t.callers)) t there)

  -- what a lossy round does behind its polls
  pub carries_lead : (words : Lcg) (held given : List Datagram) (s : Stage) → At s
      → Leads (λ m. At m.stage) (carries g words held given s)
  carries_lead words held given s so =
      then_lead At (λ m. At m.stage) (each delivers (gathered comes (fated words given) ++ held) s) _
      (deliveries_lead (gathered comes (fated words given) ++ held) s so)
      (λ t came.
      then_lead At (λ m. At m.stage) (turns g t) _ (turns_lead t came)
      (λ u turned.
      then_lead At (λ m. At m.stage) (settles ((length given == 0) && (length held == 0)) u) _
      (settles_lead ((length given == 0) && (length held == 0)) u turned)
      (λ w settled. ends_lead (λ m. At m.stage) _ settled)))

  -- ---- with polls, behind which it is so too

  module _ (polled : (s : Stage) (node : ℕ) (e : Event) → IsPolled e → IsAllowedAt s.nodes s.history node e → At s
      → At (with_event node e s)) where
    poll_lead : (node : ℕ) (o : Option Host) (p : Polled) → At p.stage → Leads (λ r. At r.stage) (polls_at node o p)
    poll_lead node None p so = ends_lead (λ r. At r.stage) (To p) so
    poll_lead node (Some from) p so =
        then_lead (λ r. At r.1 × ((polling from).asks r.0 ≡ None)) (λ r. At r.stage) _ _
        (turn_lead (polling from) node (λ v t. At t)
        (λ v t a e there asked is allowed. polled t node e is allowed there)
        (record { again = true; given = p.given }) p.stage so)
        (λ r there. ends_lead (λ q. At q.stage) _ there.0)

    pub polls_lead : (s : Stage) → At s → Leads (λ r. At r.stage) (polls s)
    polls_lead s so =
        each_lead (λ r. At r.stage) polls_out (λ node p there. poll_lead node (host_at p.stage node) p there)
        (clients_first s) (record { stage = s; given = [] }) so

    round_lead : (s : Stage) → At s → Leads At (round g s)
    round_lead s so =
        then_lead (λ r. At r.stage) At (polls s) _ (polls_lead s so)
        (λ p polled.
        then_lead At At (each delivers p.given p.stage) _ (deliveries_lead p.given p.stage polled)
        (λ t came.
        then_lead At At (turns g t) _ (turns_lead t came) (λ u turned. settles_lead (length p.given == 0) u turned)))

    rounds_lead : (n : ℕ) (s : Stage) → At s → Leads At (rounds g n s)
    rounds_lead zero s so = rest_lead s so
    rounds_lead (suc n) s so =
        test_lead At (any_lives s.nodes s.history) _ _
        (then_lead At At (round g s) (rounds g n) (round_lead s so) (λ t there. rounds_lead n t there)) (rest_lead s so)

    lossy_lead : (l : Lossy) → At l.stage → Leads (λ m. At m.stage) (lossy_round g l)
    lossy_lead l so =
        then_lead (λ r. At r.stage) (λ m. At m.stage) (polls l.stage) _ (polls_lead l.stage so)
        (λ p polled. carries_lead l.words l.held p.given p.stage polled)

    lossies_lead : (n : ℕ) (l : Lossy) → At l.stage → Leads At (lossy_rounds g n l)
    lossies_lead zero l so = rest_lead l.stage so
    lossies_lead (suc n) l so =
        test_lead At (any_lives l.stage.nodes l.stage.history) _ _
        (then_lead (λ m. At m.stage) At (lossy_round g l) (lossy_rounds g n) (lossy_lead l so)
        (λ m there. lossies_lead n m there)) (rest_lead l.stage so)

-- ---- lines

-- the same of the events of lines that no caller and no handler makes, and of an invoke
pub record LineShapes (Asks : ℕ → List ℕ → Type 0) (At : Stage → Type 0) : Type 0 where
  pub quiet :
      (s : Stage) (node : ℕ) (e : Event) → IsQuietOf s.nodes e → IsAllowedAt s.nodes s.history node e → At s
      → At (with_event node e s)
  pub packets : (s : Stage) (ds : List Datagram) → At s → At (record s { packets = ds })
  pub invokes :
      (line cid : ℕ) (bytes : List ℕ) (node : ℕ) (s : Stage) → Asks line bytes → At s
      → Leads At (invokes line cid bytes node s)

module _ (g : Handlers) (Asks : ℕ → List ℕ → Type 0) (At : Stage → Type 0) (shapes : Shapes g At)
    (line_shapes : LineShapes Asks At) where
  polled : (s : Stage) (node : ℕ) (e : Event) → IsPolled e → IsAllowedAt s.nodes s.history node e → At s
      → At (with_event node e s)
  polled s node e is allowed so = line_shapes.quiet s node e (quiet_polled s.nodes e is) allowed so

  quiet_lead : (s : Stage) (node : ℕ) (is : Event → Type 0) → ((e : Event) → is e → IsQuietOf s.nodes e) → At s
      → Leads At (event node is s)
  quiet_lead s node is quiet so =
      event_lead At s node is (λ e t. To t)
      (λ e there allowed. line_shapes.quiet s node e (quiet e there) allowed so)

  refused_lead : (why : PlanWhy) → Leads At (ends (Refused why))
  refused_lead why = ends_lead At (Refused why) tt

  found_lead : {X : Type 0} (why : PlanWhy) (next : X → Stage → Part Stage) (o : Option X) (s : Stage)
      → ((x : X) → o ≡ Some x → Leads At (next x s)) → Leads At (found_or why next o s)
  found_lead why next None s lead = refused_lead why
  found_lead why next (Some x) s lead = lead x refl

  packet_lead : (o : Option Datagram) (s : Stage) → At s → IfTo At (with_packet o s)
  packet_lead None s so = so
  packet_lead (Some d) s so = of (nat_le MAX_PACKETS (length s.packets))
    where
      of : (b : Bool) → IfTo At (if b then Refused causes.Bag else To (record s { packets = s.packets ++ d ∷ [] }))
      of true = tt
      of false = line_shapes.packets s (s.packets ++ d ∷ []) so

  -- a call of a client that no caller makes
  at_call_lead : (k : ℕ) (is : ClientCall → Event → Type 0) (s : Stage)
      → ((c : ClientCall) (e : Event) → is c e → IsQuietOf s.nodes e) → At s
      → Leads At (at_call k (λ c. event c.node (is c)) s)
  at_call_lead k is s quiet so =
      found_lead causes.NoCall (λ c. event c.node (is c)) (call_at k s) s
      (λ c there. quiet_lead s c.node (is c) (quiet c) so)

  jumbo_lead : (first last : ℕ) (s : Stage) → At s → Leads At (jumbo_line first last s)
  jumbo_lead first last s so =
      found_lead causes.NoPacket _ (numbered s.packets first) s
      (λ a inside.
      found_lead causes.NoPacket _ (numbered s.packets last) s
      (λ b within.
      test_lead At (nat_le first last && can_join (packets_in first last s)) _ _
      (deliveries_lead g At shapes (packets_in first last s) s so) (refused_lead causes.Jumbo)))

  clock_lead : (now node : ℕ) (s : Stage) → At s → Leads At (clocks now node s)
  clock_lead now node s so =
      test_lead At (nat_lt now (moment node s.history)) _ _ (refused_lead causes.ClockBack)
      (quiet_lead s node (IsClocked now) (quiet_clocked s.nodes now) so)

  clocks_lead : (now : ℕ) (s : Stage) → At s → Leads At (clocks_all now s)
  clocks_lead now s so =
      test_lead At (is_back now s) _ _ (refused_lead causes.ClockBack)
      (each_lead At (λ node. event node (IsClocked now))
      (λ node t there. quiet_lead t node (IsClocked now) (quiet_clocked t.nodes now) there) (clients_first s) s so)

  pub connect_lead : (first node : ℕ) (s : Stage) → At s → Leads At (connects first node s)
  connect_lead first node s so =
      quiet_lead s node _ (λ e there. quiet_linked s.nodes there.0 first e there.2) so

  -- a line that is driven
  pub line_leads : (place : ℕ) (line : PlanLine) (s : Stage) → IsDriven line → LineAsks g Asks place line → At s
      → Leads At (line_part g place line s)
  line_leads place (lines.Server host service limits key nonce) s driven asks so = refused_lead causes.Late
  line_leads place (lines.Client host epoch limits key) s driven asks so = refused_lead causes.Late
  line_leads place (lines.Connect client first) s driven asks so =
      found_lead causes.NoNode (connects first) (client_at client s) s (λ k there. connect_lead first k s so)
  line_leads place (lines.Call client cid) s driven asks so = absurd driven
  line_leads place (lines.Write call bytes) s driven asks so = absurd driven
  line_leads place (lines.Shut call) s driven asks so = absurd driven
  line_leads place (lines.Read call max) s driven asks so = absurd driven
  line_leads place (lines.Ask call) s driven asks so =
      at_call_lead call (λ c. IsAsked c.name) s (λ c. quiet_asked s.nodes c.name) so
  line_leads place (lines.Cancel call code) s driven asks so =
      at_call_lead call (λ c. IsCancelled c.name code) s (λ c. quiet_cancelled s.nodes c.name code) so
  line_leads place lines.Accept s driven asks so = absurd driven
  line_leads place (lines.HandlerRead call max) s driven asks so = absurd driven
  line_leads place (lines.HandlerWrite call bytes) s driven asks so = absurd driven
  line_leads place (lines.Finish call code) s driven asks so = absurd driven
  line_leads place (lines.Poll node) s driven asks so =
      found_lead causes.NoNode polls_line (node_at node s) s
      (λ k there.
      event_lead At s k IsPolled (λ e t. with_packet (given_packet (host_at s k) e) t)
      (λ e is_polled allowed.
      packet_lead (given_packet (host_at s k) e) (with_event k e s)
      (polled s k e is_polled allowed so)))
  line_leads place (lines.Deliver packet) s driven asks so =
      found_lead causes.NoPacket delivers (numbered s.packets packet) s (λ d there. deliver_lead g At shapes d s so)
  line_leads place (lines.Jumbo first last) s driven asks so = jumbo_lead first last s so
  line_leads place (lines.Forge node host bytes) s driven asks so = absurd driven
  line_leads place (lines.Clock None now) s driven asks so = clocks_lead now s so
  line_leads place (lines.Clock (Some node) now) s driven asks so =
      found_lead causes.NoNode (clocks now) (node_at node s) s (λ k there. clock_lead now k s so)
  line_leads place (lines.Invoke client cid proc up down args) s driven asks so =
      found_lead causes.NoNode _ (client_at client s) s (λ k there. line_shapes.invokes place cid _ k s asks so)
  line_leads place (lines.Turn node) s driven asks so =
      found_lead causes.NoNode (turn_line g) (node_at node s) s (λ k there. turn_line_lead g At shapes k s so)
  line_leads place (lines.Rounds n) s driven asks so = rounds_lead g At shapes polled n s so
  line_leads place (lines.Lossy number n) s driven asks so = lossies_lead g At shapes polled n _ so
