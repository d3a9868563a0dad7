-- The events of each line leave a history sound.
use Rattle.std.proofs.Common.{◌≡◌, ◌==◌, ◌-◌, ◌&&◌, nat_le, nat_lt, ℕ, zero, suc, Bool, true, false, List, [], ◌∷◌}
use Rattle.std.proofs.Common.{◌++◌}
use Rattle.std.proofs.Common.{Option, Some, None, if◌then◌else◌, refl, sym, subst, slice_get, length, drop, All}
use Rattle.std.proofs.Common.{Contains, option_map}
use Rattle.std.proofs.lemmas.List.Elements.{All-drop, All-push, All-take}
use Rattle.std.proofs.lemmas.Option.{get_or_from_slice_get, slice_get_within}
use Rattle.rx_model.specs.declared.event.Event.{Event}
use Rattle.rx_model.specs.declared.event.Event.TheVariants as events
use Rattle.rx_model.specs.declared.event.Noted.{Noted}
use Rattle.rx_model.specs.declared.names.CallName.{CallName}
use Rattle.rx_model.specs.declared.names.Host.{Host}
use Rattle.rx_jobs.specs.Handlers.{Handlers}
use Rattle.rx_jumbo.specs.Parts.{parts_of}
use Rattle.rx_history.specs.Sides.{Node, moment}
use Rattle.rx_law.specs.Worlds.{Datagram, bag, given_at}
use Rattle.rx_events.specs.Events.{IsAccepted, IsAsked, IsCalled, IsCancelled, IsClocked, IsFinished, IsLinked}
use Rattle.rx_events.specs.Events.{IsPolled}
use Rattle.rx_events.specs.Events.{IsReadBack, IsReadIn, IsReplied, IsSaid, IsShut, IsTaken}
use Rattle.rx_script.specs.declared.outcome.PlanWhy.{PlanWhy}
use Rattle.rx_script.specs.declared.outcome.PlanWhy.TheVariants as causes
use Rattle.rx_script.specs.declared.plan.PlanLine.{PlanLine}
use Rattle.rx_script.specs.declared.plan.PlanLine.TheVariants as lines
use Rattle.rx_wire.specs.Turns.{noted}
use Rattle.rx_plan.specs.declared.limits.TheConstants.{MAX_PACKETS}
use Rattle.rx_plan.specs.declared.call.ClientCall.{ClientCall}
use Rattle.rx_plan.specs.Finds.{at_accepted, at_call, at_client, at_node, at_packet, call_at, client_at, found_or}
use Rattle.rx_plan.specs.Finds.{node_at, numbered}
use Rattle.rx_plan.specs.Lines.{IsInvoked, calls, can_join, clocks, clocks_all, connects, forges, given_packet}
use Rattle.rx_plan.specs.Lines.{invokes, is_back}
use Rattle.rx_plan.specs.Lines.{jumbo_line, line_part, packets_in, polls_line, turn_line, with_called, with_caller}
use Rattle.rx_plan.specs.Lines.{with_packet}
use Rattle.rx_plan.specs.Network.{delivers}
use Rattle.rx_plan.specs.Parts.{To, Refused, Part}
use Rattle.rx_plan.specs.Promises.{IsUnforged, line_kind}
use Rattle.rx_plan.specs.Rounds.{clients_first}
use Rattle.rx_plan.specs.Stages.{Stage, event, event_with, host_at, name_accepted, name_called, packet_given}
use Rattle.rx_plan.specs.Stages.{service_of, with_event, with_some}
use Rattle.rx_plan.proofs.Bags.{in_given}
use Rattle.rx_plan.proofs.Soundness.Sound.{Good, IfTo, In, Is, IsNoTake, Safe, calm_by, calm_honest, calm_safe}
use Rattle.rx_plan.proofs.Soundness.Sound.{each_safe}
use Rattle.rx_plan.proofs.Soundness.Sound.{ends_safe, event_safe, event_with_safe, is_next}
use Rattle.rx_plan.proofs.Soundness.SoundLossy.{lossy_safe}
use Rattle.rx_plan.proofs.Soundness.SoundRounds.{clocked_calm, deliveries_safe, delivers_safe, rounds_safe}
use Rattle.rx_plan.proofs.Soundness.SoundTurns.{dispatches_safe, numbers_safe, test_safe, turns_on_safe}

-- what has a number in a list is of it
of_numbered : {X : Type 0} (P : X → Type 0) (xs : List X) (k : ℕ) (x : X) → All P xs → numbered xs k ≡ Some x → P x
of_numbered P xs zero x all is = absurd cc
of_numbered P xs (suc k) x all is =
    subst P (get_or_from_slice_get xs k x x is) (all k x (slice_get_within xs k x is))

module _ (Honest : Type 0) (nodes : List Node) where
  -- ---- what a line names

  found_safe : {X : Type 0} (why : PlanWhy) (next : X → Stage → Part Stage) (o : Option X) (h : List Noted) (s : Stage)
      → Good Honest nodes h → ((x : X) → o ≡ Some x → Safe Honest nodes (Is Honest nodes) h (next x s))
      → Safe Honest nodes (Is Honest nodes) h (found_or why next o s)
  found_safe why next None h s good safe = ends_safe Honest nodes (Is Honest nodes) h (Refused why) good tt
  found_safe why next (Some x) h s good safe = safe x refl

  -- a datagram that a line names was given
  packet_safe : (k : ℕ) (next : Datagram → Stage → Part Stage) (h : List Noted) (s : Stage) → Good Honest nodes h
      → Is Honest nodes h s
      → ((d : Datagram) → In Honest nodes h d → Safe Honest nodes (Is Honest nodes) h (next d s))
      → Safe Honest nodes (Is Honest nodes) h (at_packet k next s)
  packet_safe k next h s good i safe =
      found_safe causes.NoPacket next (numbered s.packets k) h s good
      (λ d is. safe d (of_numbered (In Honest nodes h) s.packets k d i.packets is))

  -- ---- names and callers

  caller_is : (node line : ℕ) (bytes : List ℕ) (o : Option CallName) (h : List Noted) (s : Stage)
      → Is Honest nodes h s → Is Honest nodes h (with_caller node line bytes o s)
  caller_is node line bytes None h s i = i
  caller_is node line bytes (Some name) h s i = record { at = i.at; history = i.history; packets = i.packets }

  called_is : (node : ℕ) (e : Event) (h : List Noted) (s : Stage) → Is Honest nodes h s
      → Is Honest nodes h (with_called node e s)
  called_is node e h s i = record { at = i.at; history = i.history; packets = i.packets }

  calls_safe : (cid node : ℕ) (h : List Noted) (s : Stage) → Good Honest nodes h → Is Honest nodes h s
      → Safe Honest nodes (Is Honest nodes) h (calls cid node s)
  calls_safe cid node h s good i =
      event_with_safe Honest nodes h s node (IsCalled cid) (λ e t. To (with_called node e t)) good i
      (λ e there.
      calm_honest Honest nodes h node e (calm_by (IsCalled cid) (λ from datagram got no. no) e there))
      (λ e there. called_is node e (noted node e ∷ h) _ (is_next Honest nodes h s node e i))

  invokes_safe : (line cid : ℕ) (bytes : List ℕ) (node : ℕ) (h : List Noted) (s : Stage) → Good Honest nodes h
      → Is Honest nodes h s → Safe Honest nodes (Is Honest nodes) h (invokes line cid bytes node s)
  invokes_safe line cid bytes node h s good i =
      event_with_safe Honest nodes h s node (IsInvoked cid bytes)
      (λ e t. To (with_caller node line bytes (name_called e) (with_called node e t))) good i
      (λ e there.
      calm_honest Honest nodes h node e (calm_by (IsCalled cid) (λ from datagram got no. no) e there.0))
      (λ e there.
      caller_is node line bytes (name_called e) (noted node e ∷ h) _
      (called_is node e (noted node e ∷ h) _ (is_next Honest nodes h s node e i)))

  accepts_safe : (h : List Noted) (s : Stage) → Good Honest nodes h → Is Honest nodes h s
      → Safe Honest nodes (Is Honest nodes) h
      (event_with 0 IsAccepted (λ e t. To (record t { accepted = with_some t.accepted (name_accepted e) })) s)
  accepts_safe h s good i =
      event_with_safe Honest nodes h s 0 IsAccepted
      (λ e t. To (record t { accepted = with_some t.accepted (name_accepted e) })) good i
      (λ e there. calm_honest Honest nodes h 0 e (calm_by IsAccepted (λ from datagram got no. no) e there))
      (λ e there.
      (let after : Is Honest nodes (noted 0 e ∷ h) (with_event 0 e s) = is_next Honest nodes h s 0 e i in
      record { at = after.at; history = after.history; packets = after.packets }))

  -- ---- the network

  packet_is : (o : Option Datagram) (h : List Noted) (s : Stage) → Is Honest nodes h s
      → ((d : Datagram) → o ≡ Some d → In Honest nodes h d) → IfTo (Is Honest nodes h) (with_packet o s)
  packet_is None h s i there = i
  packet_is (Some d) h s i there = of (nat_le MAX_PACKETS (length s.packets))
    where
      of : (b : Bool) → IfTo (Is Honest nodes h)
          (if b then Refused causes.Bag else To (record s { packets = s.packets ++ d ∷ [] }))
      of true = tt
      of false =
          record {
            at = i.at;
            history = i.history;
            packets = All-push (In Honest nodes h) s.packets d i.packets (there d refl);
          }

  -- what a poll gave was given
  packet_given_in : (h : List Noted) (node : ℕ) (n : Node) (e : Event) (d : Datagram) → slice_get nodes node ≡ Some n
      → packet_given n.host e ≡ Some d → In Honest nodes (noted node e ∷ h) d
  packet_given_in h node n (events.Polled (Some (to, bytes))) d at is =
      (let same : record { from = n.host; to = to; bytes = bytes } ≡ d = cc in
      subst (λ x. Contains (given_at (slice_get nodes node) (events.Polled (Some (to, bytes))) (bag nodes h)) x) same
      (subst (λ o. Contains (given_at o (events.Polled (Some (to, bytes))) (bag nodes h))
      (record { from = n.host; to = to; bytes = bytes })) (sym at) (in_given n to bytes (bag nodes h))))
  packet_given_in h node n e d at is = absurd cc

  given_in : (h : List Noted) (node : ℕ) (o : Option Node) (e : Event) (d : Datagram) → slice_get nodes node ≡ o
      → given_packet (option_map (λ n. n.host) o) e ≡ Some d → In Honest nodes (noted node e ∷ h) d
  given_in h node None e d at is = absurd cc
  given_in h node (Some n) e d at is = packet_given_in h node n e d at is

  polls_line_safe : (node : ℕ) (h : List Noted) (s : Stage) → Good Honest nodes h → Is Honest nodes h s
      → Safe Honest nodes (Is Honest nodes) h (polls_line node s)
  polls_line_safe node h s good i =
      event_with_safe Honest nodes h s node IsPolled (λ e t. with_packet (given_packet (host_at s node) e) t) good i
      (λ e there. calm_honest Honest nodes h node e (calm_by IsPolled (λ from datagram got no. no) e there))
      (λ e there.
      packet_is (given_packet (host_at s node) e) (noted node e ∷ h) (with_event node e s)
      (is_next Honest nodes h s node e i)
      (λ d is.
      given_in h node (slice_get nodes node) e d refl
      (subst (λ ns. given_packet (option_map (λ n. n.host) (slice_get ns node)) e ≡ Some d) i.at is)))

  jumbo_safe : (first last : ℕ) (h : List Noted) (s : Stage) → Good Honest nodes h → Is Honest nodes h s
      → Safe Honest nodes (Is Honest nodes) h (jumbo_line first last s)
  jumbo_safe first last h s good i =
      packet_safe first _ h s good i
      (λ a inside.
      packet_safe last _ h s good i
      (λ b within.
      test_safe Honest nodes (Is Honest nodes) h (nat_le first last && can_join (packets_in first last s)) _ _
      (λ so.
      deliveries_safe Honest nodes (packets_in first last s) h s good
      (All-take (In Honest nodes h) (suc last - first) (drop (first - 1) s.packets)
      (All-drop (In Honest nodes h) (first - 1) s.packets i.packets)) i)
      (λ so. ends_safe Honest nodes (Is Honest nodes) h (Refused causes.Jumbo) good tt)))

  -- only a run that isn't honest has invented bytes
  forges_safe : (from : Host) (bytes : List ℕ) (node : ℕ) (h : List Noted) (s : Stage) → (Honest → ⊥)
      → Good Honest nodes h → Is Honest nodes h s → Safe Honest nodes (Is Honest nodes) h (forges from bytes node s)
  forges_safe from bytes node h s never good i =
      each_safe Honest nodes (Is Honest nodes) (λ k x. Unit {0}) (λ b. event node (IsTaken from b))
      (λ es k x there. tt)
      (λ k b t now there is.
      event_safe Honest nodes k t node (IsTaken from b) now is (λ e took honest. absurd (never honest)))
      (parts_of bytes) h s good (λ k x inside. tt) i

  -- ---- clocks

  clocks_safe : (now node : ℕ) (h : List Noted) (s : Stage) → Good Honest nodes h → Is Honest nodes h s
      → Safe Honest nodes (Is Honest nodes) h (clocks now node s)
  clocks_safe now node h s good i =
      test_safe Honest nodes (Is Honest nodes) h (nat_lt now (moment node s.history)) _ _
      (λ so. ends_safe Honest nodes (Is Honest nodes) h (Refused causes.ClockBack) good tt)
      (λ so. calm_safe Honest nodes h s node (IsClocked now) good i (clocked_calm now))

  clocks_all_safe : (now : ℕ) (h : List Noted) (s : Stage) → Good Honest nodes h → Is Honest nodes h s
      → Safe Honest nodes (Is Honest nodes) h (clocks_all now s)
  clocks_all_safe now h s good i =
      test_safe Honest nodes (Is Honest nodes) h (is_back now s) _ _
      (λ so. ends_safe Honest nodes (Is Honest nodes) h (Refused causes.ClockBack) good tt)
      (λ so.
      numbers_safe Honest nodes (λ node. event node (IsClocked now))
      (λ k past t well is. calm_safe Honest nodes past t k (IsClocked now) well is (clocked_calm now))
      (clients_first s) h s good i)

  -- ---- lines

  -- a call of a client that takes nothing
  at_call_safe : (k : ℕ) (is : ClientCall → Event → Type 0) (h : List Noted) (s : Stage) → Good Honest nodes h
      → Is Honest nodes h s → ((c : ClientCall) → IsNoTake (is c))
      → Safe Honest nodes (Is Honest nodes) h (at_call k (λ c. event c.node (is c)) s)
  at_call_safe k is h s good i never =
      found_safe causes.NoCall (λ c. event c.node (is c)) (call_at k s) h s good
      (λ c there. calm_safe Honest nodes h s c.node (is c) good i (calm_by (is c) (never c)))

  at_accepted_safe : (k : ℕ) (is : CallName → Event → Type 0) (h : List Noted) (s : Stage) → Good Honest nodes h
      → Is Honest nodes h s → ((c : CallName) → IsNoTake (is c))
      → Safe Honest nodes (Is Honest nodes) h (at_accepted k (λ c. event 0 (is c)) s)
  at_accepted_safe k is h s good i never =
      found_safe causes.NoCall (λ c. event 0 (is c)) (numbered s.accepted k) h s good
      (λ c there. calm_safe Honest nodes h s 0 (is c) good i (calm_by (is c) (never c)))

  connects_safe : (first node : ℕ) (h : List Noted) (s : Stage) → Good Honest nodes h → Is Honest nodes h s
      → Safe Honest nodes (Is Honest nodes) h (connects first node s)
  connects_safe first node h s good i =
      calm_safe Honest nodes h s node _ good i
      (λ e there.
      calm_by (IsLinked there.0 (service_of (slice_get s.nodes 0)) first) (λ from datagram got no. no) e there.2)

  at_node_safe : (node : ℕ) (next : ℕ → Stage → Part Stage) (h : List Noted) (s : Stage) → Good Honest nodes h
      → Is Honest nodes h s → ((k : ℕ) → Safe Honest nodes (Is Honest nodes) h (next k s))
      → Safe Honest nodes (Is Honest nodes) h (at_node node next s)
  at_node_safe node next h s good i safe = found_safe causes.NoNode next (node_at node s) h s good (λ k there. safe k)

  at_client_safe : (node : ℕ) (next : ℕ → Stage → Part Stage) (h : List Noted) (s : Stage) → Good Honest nodes h
      → Is Honest nodes h s → ((k : ℕ) → Safe Honest nodes (Is Honest nodes) h (next k s))
      → Safe Honest nodes (Is Honest nodes) h (at_client node next s)
  at_client_safe node next h s good i safe =
      found_safe causes.NoNode next (client_at node s) h s good (λ k there. safe k)

  turn_line_safe : (g : Handlers) (node : ℕ) (h : List Noted) (s : Stage) → Good Honest nodes h → Is Honest nodes h s
      → Safe Honest nodes (Is Honest nodes) h (turn_line g node s)
  turn_line_safe g node h s good i =
      test_safe Honest nodes (Is Honest nodes) h (node == 0) _ _ (λ so. dispatches_safe Honest nodes g h s good i)
      (λ so. turns_on_safe Honest nodes node h s good i)

  pub line_safe : (g : Handlers) (place : ℕ) (line : PlanLine) (h : List Noted) (s : Stage)
      → (Honest → IsUnforged (line_kind line)) → Good Honest nodes h → Is Honest nodes h s
      → Safe Honest nodes (Is Honest nodes) h (line_part g place line s)
  line_safe g place (lines.Server host service limits key nonce) h s fair good i =
      ends_safe Honest nodes (Is Honest nodes) h (Refused causes.Late) good tt
  line_safe g place (lines.Client host epoch limits key) h s fair good i =
      ends_safe Honest nodes (Is Honest nodes) h (Refused causes.Late) good tt
  line_safe g place (lines.Connect client first) h s fair good i =
      at_client_safe client (connects first) h s good i (λ k. connects_safe first k h s good i)
  line_safe g place (lines.Call client cid) h s fair good i =
      at_client_safe client (calls cid) h s good i (λ k. calls_safe cid k h s good i)
  line_safe g place (lines.Write call bytes) h s fair good i =
      at_call_safe call (λ c. IsSaid c.name bytes) h s good i (λ c from datagram got no. no)
  line_safe g place (lines.Shut call) h s fair good i =
      at_call_safe call (λ c. IsShut c.name) h s good i (λ c from datagram got no. no)
  line_safe g place (lines.Read call max) h s fair good i =
      at_call_safe call (λ c. IsReadBack c.name max) h s good i (λ c from datagram got no. no)
  line_safe g place (lines.Ask call) h s fair good i =
      at_call_safe call (λ c. IsAsked c.name) h s good i (λ c from datagram got no. no)
  line_safe g place (lines.Cancel call code) h s fair good i =
      at_call_safe call (λ c. IsCancelled c.name code) h s good i (λ c from datagram got no. no)
  line_safe g place lines.Accept h s fair good i = accepts_safe h s good i
  line_safe g place (lines.HandlerRead call max) h s fair good i =
      at_accepted_safe call (λ c. IsReadIn c max) h s good i (λ c from datagram got no. no)
  line_safe g place (lines.HandlerWrite call bytes) h s fair good i =
      at_accepted_safe call (λ c. IsReplied c bytes) h s good i (λ c from datagram got no. no)
  line_safe g place (lines.Finish call code) h s fair good i =
      at_accepted_safe call (λ c. IsFinished c code) h s good i (λ c from datagram got no. no)
  line_safe g place (lines.Poll node) h s fair good i =
      at_node_safe node polls_line h s good i (λ k. polls_line_safe k h s good i)
  line_safe g place (lines.Deliver packet) h s fair good i =
      packet_safe packet delivers h s good i (λ d there. delivers_safe Honest nodes h d s good there i)
  line_safe g place (lines.Jumbo first last) h s fair good i = jumbo_safe first last h s good i
  line_safe g place (lines.Forge node host bytes) h s fair good i =
      at_node_safe node (forges host bytes) h s good i (λ k. forges_safe host bytes k h s fair good i)
  line_safe g place (lines.Clock None now) h s fair good i = clocks_all_safe now h s good i
  line_safe g place (lines.Clock (Some node) now) h s fair good i =
      at_node_safe node (clocks now) h s good i (λ k. clocks_safe now k h s good i)
  line_safe g place (lines.Invoke client cid proc up down args) h s fair good i =
      at_client_safe client _ h s good i (λ k. invokes_safe place cid _ k h s good i)
  line_safe g place (lines.Turn node) h s fair good i =
      at_node_safe node (turn_line g) h s good i (λ k. turn_line_safe g k h s good i)
  line_safe g place (lines.Rounds n) h s fair good i = rounds_safe Honest nodes g n h s good i
  line_safe g place (lines.Lossy number n) h s fair good i = lossy_safe Honest nodes g number n h s good i
