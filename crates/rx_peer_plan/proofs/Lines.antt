-- The events of each line of a plan of peers leave a history so.
use Rattle.std.proofs.Common.{◌≡◌, ℕ, zero, suc, List, ◌∷◌, Option, Some, None, refl, ap, subst, map}
use Rattle.std.proofs.Common.{All, option_map}
use Rattle.std.proofs.lemmas.Option.{get_or_from_slice_get, slice_get_within}
use Rattle.rx_events.specs.Events.{IsAsked, IsCalled, IsCancelled, IsLinked}
use Rattle.rx_events.specs.Waits.{is_later}
use Rattle.rx_history.specs.Sides.{moment}
use Rattle.rx_model.specs.declared.event.Event.{Event}
use Rattle.rx_model.specs.declared.event.Noted.{Noted}
use Rattle.rx_model.specs.declared.names.CallName.{CallName}
use Rattle.rx_peer.specs.declared.role.Role.TheVariants as roles
use Rattle.rx_peer.specs.PeerWorlds.{PeerNode, peer_at}
use Rattle.rx_peer.specs.Roles.{node_of}
use Rattle.rx_peer_plan.proofs.Halves.{Good, In, calm_fair}
use Rattle.rx_peer_plan.proofs.Peers.{delivers_safe, network_safe, polls_once_safe, sets_clocks_safe}
use Rattle.rx_peer_plan.proofs.Rounds.{lossy_safe, rounds_safe}
use Rattle.rx_peer_plan.proofs.Safe.{ends_safe, test_safe}
use Rattle.rx_peer_plan.proofs.Turns.{Is, Keeps, calm_safe, event_with_safe, is_next, peer_turn_safe}
use Rattle.rx_peer_plan.specs.Clocks.{callers_first, clocks, halves_at}
use Rattle.rx_peer_plan.specs.declared.call.PeerCall.{PeerCall}
use Rattle.rx_peer_plan.specs.Finds.{at_call, at_packet, at_peer, found_or, where_there}
use Rattle.rx_peer_plan.specs.Lines.{connects, invokes, line_part, network, with_called, with_caller}
use Rattle.rx_peer_plan.specs.Network.{delivers}
use Rattle.rx_peer_plan.specs.Polls.{polls_once}
use Rattle.rx_peer_plan.specs.Stages.{PeerHandlers, PeerStage, event, half_node}
use Rattle.rx_peer_plan.specs.Turned.{turn}
use Rattle.rx_plan.proofs.Soundness.Sound.{IsNoTake, calm_by}
use Rattle.rx_plan.specs.Finds.{numbered}
use Rattle.rx_plan.specs.Lines.{IsInvoked}
use Rattle.rx_plan.specs.Parts.{Part, Refused, To}
use Rattle.rx_plan.specs.Stages.{name_called, service_of}
use Rattle.rx_script.specs.declared.outcome.PlanWhy.{PlanWhy}
use Rattle.rx_script.specs.declared.outcome.PlanWhy.TheVariants as causes
use Rattle.rx_script.specs.declared.plan.PeerLine.{PeerLine}
use Rattle.rx_script.specs.declared.plan.PeerLine.TheVariants as lines
use Rattle.rx_wire.specs.Turns.{noted}

-- what has a number in a list is of it
pub of_numbered : {X : Type 0} (P : X → Type 0) (xs : List X) (k : ℕ) (x : X) → All P xs → numbered xs k ≡ Some x → P x
of_numbered P xs zero x all is = absurd cc
of_numbered P xs (suc k) x all is =
    subst P (get_or_from_slice_get xs k x x is) (all k x (slice_get_within xs k x is))

module _ (peers : List PeerNode) where
  -- ---- what a line names

  found_safe : {X : Type 0} (why : PlanWhy) (next : X → PeerStage → Part PeerStage) (o : Option X) (h : List Noted)
      (s : PeerStage) → Good peers h → ((x : X) → o ≡ Some x → Keeps peers (Is peers) h (next x s))
      → Keeps peers (Is peers) h (found_or why next o s)
  found_safe why next None h s good safe = ends_safe (Good peers) (Is peers) h (Refused why) good tt
  found_safe why next (Some x) h s good safe = safe x refl

  -- a peer that is there
  at_peer_safe : (number : ℕ) (next : PeerNode → PeerStage → Part PeerStage) (h : List Noted) (s : PeerStage)
      → Good peers h → Is peers h s
      → ((p : PeerNode) → peer_at peers number ≡ Some p → Keeps peers (Is peers) h (next p s))
      → Keeps peers (Is peers) h (at_peer number next s)
  at_peer_safe number next h s good i safe =
      found_safe causes.NoNode next (peer_at s.peers number) h s good
      (λ p there. safe p (subst (λ ps. peer_at ps number ≡ Some p) i.at there))

  -- a call
  at_call_safe : (k : ℕ) (is : PeerCall → Event → Type 0) (h : List Noted) (s : PeerStage) → Good peers h
      → Is peers h s → ((c : PeerCall) → IsNoTake (is c))
      → Keeps peers (Is peers) h (at_call k (λ c. event (node_of roles.Caller c.peer) (is c)) s)
  at_call_safe k is h s good i never =
      found_safe causes.NoCall (λ c. event (node_of roles.Caller c.peer) (is c)) (where_there s (numbered s.calls k))
      h s good
      (λ c there. calm_safe peers h s (node_of roles.Caller c.peer) (is c) good i (calm_by (is c) (never c)))

  -- a datagram, which was given
  deliver_safe : (k : ℕ) (h : List Noted) (s : PeerStage) → Good peers h → Is peers h s
      → Keeps peers (Is peers) h (at_packet k delivers s)
  deliver_safe k h s good i =
      found_safe causes.NoPacket delivers (numbered s.packets k) h s good
      (λ d there. delivers_safe peers h d s good (of_numbered (In peers h) s.packets k d i.packets there) i)

  -- ---- lines

  connects_safe : (number : ℕ) (to : PeerNode) (h : List Noted) (s : PeerStage) → Good peers h → Is peers h s
      → Keeps peers (Is peers) h (connects number to s)
  connects_safe number to h s good i =
      calm_safe peers h s (node_of roles.Caller number)
      (IsLinked to.host (service_of (Some (half_node roles.Served to))) 1) good i
      (calm_by (IsLinked to.host (service_of (Some (half_node roles.Served to))) 1) (λ from datagram got no. no))

  called_is : (number : ℕ) (e : Event) (h : List Noted) (s : PeerStage) → Is peers h s
      → Is peers h (with_called number e s)
  called_is number e h s i = record { at = i.at; history = i.history; packets = i.packets }

  caller_is : (number line : ℕ) (bytes : List ℕ) (o : Option CallName) (h : List Noted) (s : PeerStage) → Is peers h s
      → Is peers h (with_caller number line bytes o s)
  caller_is number line bytes None h s i = i
  caller_is number line bytes (Some name) h s i =
      record { at = i.at; history = i.history; packets = i.packets }

  invokes_safe : (line cid : ℕ) (bytes : List ℕ) (number : ℕ) (h : List Noted) (s : PeerStage) → Good peers h
      → Is peers h s → Keeps peers (Is peers) h (invokes line cid bytes number s)
  invokes_safe line cid bytes number h s good i =
      event_with_safe peers h s (node_of roles.Caller number) (IsInvoked cid bytes)
      (λ e t. To (with_caller number line bytes (name_called e) (with_called number e t))) good i
      (λ e there.
      calm_fair peers h (node_of roles.Caller number) e
      (calm_by (IsCalled cid) (λ from datagram got no. no) e there.0))
      (λ e there.
      caller_is number line bytes (name_called e) (noted (node_of roles.Caller number) e ∷ h) _
      (called_is number e (noted (node_of roles.Caller number) e ∷ h) _
      (is_next peers h s (node_of roles.Caller number) e i)))

  clocks_safe : (now : ℕ) (nodes : List ℕ) (h : List Noted) (s : PeerStage) → Good peers h → Is peers h s
      → Keeps peers (Is peers) h (clocks now nodes s)
  clocks_safe now nodes h s good i =
      test_safe (Good peers) (Is peers) h (is_later now (map (λ node. moment node s.history) nodes)) _ _
      (λ so. ends_safe (Good peers) (Is peers) h (Refused causes.ClockBack) good tt)
      (λ so. sets_clocks_safe peers now nodes h s good i)

  pub line_safe : (g : PeerHandlers) (place : ℕ) (line : PeerLine) (h : List Noted) (s : PeerStage) → Good peers h
      → Is peers h s → Keeps peers (Is peers) h (line_part g place line s)
  line_safe g place (lines.Peer host epoch service limits) h s good i =
      ends_safe (Good peers) (Is peers) h (Refused causes.Late) good tt
  line_safe g place (lines.Connect peer to) h s good i =
      at_peer_safe peer (λ p. at_peer to (connects peer)) h s good i
      (λ p there. at_peer_safe to (connects peer) h s good i (λ q found. connects_safe peer q h s good i))
  line_safe g place (lines.Invoke peer cid proc up down args) h s good i =
      at_peer_safe peer _ h s good i (λ p there. invokes_safe place cid _ peer h s good i)
  line_safe g place (lines.Cancel call code) h s good i =
      at_call_safe call (λ c. IsCancelled c.name code) h s good i (λ c from datagram got no. no)
  line_safe g place (lines.Ask call) h s good i =
      at_call_safe call (λ c. IsAsked c.name) h s good i (λ c from datagram got no. no)
  line_safe g place (lines.Poll peer) h s good i =
      at_peer_safe peer (λ p. polls_once p.host peer) h s good i
      (λ p there. polls_once_safe peers p.host peer h s (ap (option_map (λ q. q.host)) there) good i)
  line_safe g place (lines.Deliver packet) h s good i = deliver_safe packet h s good i
  line_safe g place (lines.Clock None now) h s good i = clocks_safe now (callers_first s) h s good i
  line_safe g place (lines.Clock (Some peer) now) h s good i =
      at_peer_safe peer (λ p. clocks now (halves_at peer)) h s good i
      (λ p there. clocks_safe now (halves_at peer) h s good i)
  line_safe g place (lines.Turn peer) h s good i =
      at_peer_safe peer (λ p. turn g peer) h s good i (λ p there. peer_turn_safe peers g h peer s good i)
  line_safe g place (lines.Rounds count) h s good i =
      rounds_safe (Good peers) PeerStage (Is peers) (In peers) (network g) (network_safe peers g) count h s good i
  line_safe g place (lines.Lossy number count) h s good i =
      lossy_safe (Good peers) PeerStage (Is peers) (In peers) (network g) (network_safe peers g) number count h s good i
