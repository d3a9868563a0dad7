-- Each connection of a driven plan is made with the server's host.
use Rattle.std.proofs.Common.{◌≡◌, ◌==◌, ◌&&◌, not, nat_le, nat_lt, ℕ, zero, suc, Bool, true, false, List, [], ◌∷◌}
use Rattle.std.proofs.Common.{◌++◌, length, Option, Some, None, Ok, Err, refl, sym, ◌∙◌, ◌+◌, if◌then◌else◌, slice_get}
use Rattle.std.proofs.Common.{option_map}
use Rattle.rx_model.specs.declared.event.Event.{Event}
use Rattle.rx_model.specs.declared.event.Event.TheVariants as events
use Rattle.rx_model.specs.declared.event.Noted.{Noted}
use Rattle.rx_model.specs.declared.names.CallName.{CallName}
use Rattle.rx_model.specs.declared.names.Host.{Host}
use Rattle.rx_rules.proofs.EveryLaws.{Every}
use Rattle.rx_jobs.specs.Handlers.{Handlers}
use Rattle.rx_history.specs.Sides.{Node, moment}
use Rattle.rx_law.specs.Worlds.{Datagram}
use Rattle.rx_events.specs.Events.{IsAsked, IsCalled, IsCancelled, IsClocked, IsLinked, IsPolled}
use Rattle.rx_events.specs.Waits.{any_lives, least_wait}
use Rattle.rx_script.specs.declared.outcome.PlanWhy.{PlanWhy}
use Rattle.rx_script.specs.declared.outcome.PlanWhy.TheVariants as causes
use Rattle.rx_script.specs.declared.plan.PlanLine.{PlanLine}
use Rattle.rx_script.specs.declared.plan.PlanLine.TheVariants as lines
use Rattle.rx_plan.specs.declared.limits.TheConstants.{MAX_PACKETS}
use Rattle.rx_plan.specs.declared.call.ClientCall.{ClientCall}
use Rattle.rx_plan.specs.Answering.{IsDriven}
use Rattle.rx_plan.specs.Finds.{at_call, call_at, client_at, found_or, node_at, numbered}
use Rattle.rx_plan.specs.Lines.{IsInvoked, can_join, clocks, clocks_all, connects, given_packet, invokes, is_back}
use Rattle.rx_plan.specs.Lines.{jumbo_line, line_part, packets_in, polls_line, turn_line, with_called, with_caller}
use Rattle.rx_plan.specs.Lines.{with_packet}
use Rattle.rx_plan.specs.Lossy.{Lossy, comes, fated, gathered, lossy_round, lossy_rounds}
use Rattle.rx_plan.specs.Network.{delivers}
use Rattle.rx_wire.specs.Turns.{noted}
use Rattle.rx_plan.specs.Parts.{Came, To, Refused, One, Part, each, ends}
use Rattle.rx_plan.specs.Rounds.{clients_first, may_move, moves_by, moves_on, polls, round, rounds, settles, turns}
use Rattle.rx_plan.specs.Stages.{IsAllowedNext, Stage, event, event_with, host_at, name_called, with_event}
use Rattle.rx_plan.proofs.Leading.{Leads, each_lead, ends_lead, one_lead, test_lead, then_lead}
use Rattle.rx_plan.proofs.Soundness.Sound.{IfTo}
use Rattle.rx_closing.proofs.Conns.PeersTo.{LinksAt}
use Rattle.rx_closing.proofs.Rounds.TameParts.{IsTame, deliver_lead, deliveries_lead, polls_lead, turn_line_lead}
use Rattle.rx_closing.proofs.Rounds.TameParts.{turns_lead}

-- ---- events that make no connection

abbrev pub IsUnlinked : Event → Type 0
IsUnlinked (events.Linked to its first got) = ⊥
IsUnlinked _ = Unit {0}

-- a connection that is made is with the server of these nodes
abbrev pub LinksHost : List Node → Event → Type 0
LinksHost nodes e = (h : Host) → option_map (λ (n : Node). n.host) (slice_get nodes 0) ≡ Some h → LinksAt h e

unlinked_tame : (e : Event) → IsTame e → IsUnlinked e
unlinked_tame (events.Linked to its first got) tame = absurd tame
unlinked_tame e tame = tt

unlinked_at : (h : Host) (e : Event) → IsUnlinked e → LinksAt h e
unlinked_at h (events.Linked to its first got) un = absurd un
unlinked_at h e un = tt

un_asked : (c : CallName) (e : Event) → IsAsked c e → IsUnlinked e
un_asked c (events.Ended call got) i = tt
un_asked c e i = elim i [ ]

un_polled : (e : Event) → IsPolled e → IsUnlinked e
un_polled (events.Polled got) i = tt
un_polled e i = elim i [ ]

un_clocked : (now : ℕ) (e : Event) → IsClocked now e → IsUnlinked e
un_clocked now (events.Clocked moment) i = tt
un_clocked now e i = elim i [ ]

un_cancelled : (c : CallName) (code : _) (e : Event) → IsCancelled c code e → IsUnlinked e
un_cancelled c code (events.Cancelled call with got) i = tt
un_cancelled c code e i = elim i [ ]

un_called : (cid : ℕ) (e : Event) → IsCalled cid e → IsUnlinked e
un_called cid (events.Called its got) i = tt
un_called cid e i = elim i [ ]

linked_at : (to h : Host) (service first : ℕ) (e : Event) → IsLinked to service first e → to ≡ h → LinksAt h e
linked_at to h service first (events.Linked host its low got) i same = i.0 ∙ same
linked_at to h service first e i same = elim i [ ]

-- ---- parts

-- each connection was made with the server
abbrev pub AreLinked : Stage → Type 0
AreLinked s = Every (λ e. LinksHost s.nodes e.event) s.history

-- the same of nodes and a history
abbrev pub Linked : List Node → List Noted → Type 0
Linked nodes h = Every (λ e. LinksHost nodes e.event) h

-- an event that makes no connection
pub tame_step : (nodes : List Node) (h : List Noted) (node : ℕ) (e : Event) → IsTame e
    → Every (λ f. LinksHost nodes f.event) h → Every (λ f. LinksHost nodes f.event) (noted node e ∷ h)
tame_step nodes h node e tame so = (λ host at. unlinked_at host e (unlinked_tame e tame), so)

module _ (g : Handlers) where
  un_lead : (s : Stage) (node : ℕ) (is : Event → Type 0) (came : Event → Stage → Came Stage)
      → ((e : Event) → is e → LinksHost s.nodes e)
      → ((e : Event) → is e → AreLinked (with_event node e s) → IfTo AreLinked (came e (with_event node e s)))
      → AreLinked s → Leads AreLinked (event_with node is came s)
  un_lead s node is came un next so =
      then_lead (λ e. is e) AreLinked (One node (IsAllowedNext s node is))
      (λ e. ends (came e (with_event node e s)))
      (one_lead is node (IsAllowedNext s node is) (λ e there. there.0))
      (λ e there. ends_lead AreLinked (came e (with_event node e s)) (next e there (un e there, so)))

  quiet_lead : (s : Stage) (node : ℕ) (is : Event → Type 0) → ((e : Event) → is e → IsUnlinked e) → AreLinked s
      → Leads AreLinked (event node is s)
  quiet_lead s node is un so =
      un_lead s node is (λ e t. To t) (λ e there h at. unlinked_at h e (un e there)) (λ e there after. after) so

  rest_lead : (s : Stage) → AreLinked s → Leads AreLinked (ends (To s))
  rest_lead s so = ends_lead AreLinked (To s) so

  refused_lead : (why : PlanWhy) → Leads AreLinked (ends (Refused why))
  refused_lead why = ends_lead AreLinked (Refused why) tt

  found_lead : {X : Type 0} (why : PlanWhy) (next : X → Stage → Part Stage) (o : Option X) (s : Stage)
      → ((x : X) → o ≡ Some x → Leads AreLinked (next x s)) → Leads AreLinked (found_or why next o s)
  found_lead why next None s lead = refused_lead why
  found_lead why next (Some x) s lead = lead x refl

  moves_lead : (o : Option ℕ) (s : Stage) → AreLinked s → Leads AreLinked (moves_by o s)
  moves_lead None s so = rest_lead s so
  moves_lead (Some time) s so =
      test_lead AreLinked (not (time == 0) && may_move time s) _ _
      (each_lead AreLinked (moves_on time)
      (λ node t there.
      quiet_lead t node (IsClocked (moment node t.history + time)) (un_clocked (moment node t.history + time)) there)
      (clients_first s) s so) (rest_lead s so)

  pub settles_link : (quiet : Bool) (s : Stage) → AreLinked s → Leads AreLinked (settles quiet s)
  settles_link quiet s so =
      test_lead AreLinked quiet _ _ (moves_lead (least_wait s.nodes s.history) s so) (rest_lead s so)

  -- ---- rounds

  pub round_links : (s : Stage) → AreLinked s → Leads AreLinked (round g s)
  round_links s so =
      then_lead (λ r. AreLinked r.stage) AreLinked (polls s) _ (polls_lead g Linked tame_step s so)
      (λ p polled.
      then_lead AreLinked AreLinked (each delivers p.given p.stage) _
      (deliveries_lead g Linked tame_step p.given p.stage polled)
      (λ t came.
      then_lead AreLinked AreLinked (turns g t) _ (turns_lead g Linked tame_step t came)
      (λ u turned. settles_link (length p.given == 0) u turned)))

  pub rounds_link : (n : ℕ) (s : Stage) → AreLinked s → Leads AreLinked (rounds g n s)
  rounds_link zero s so = rest_lead s so
  rounds_link (suc n) s so =
      test_lead AreLinked (any_lives s.nodes s.history) _ _
      (then_lead AreLinked AreLinked (round g s) (rounds g n) (round_links s so) (λ t there. rounds_link n t there))
      (rest_lead s so)

  lossy_lead : (l : Lossy) → AreLinked l.stage → Leads (λ m. AreLinked m.stage) (lossy_round g l)
  lossy_lead l so =
      then_lead (λ r. AreLinked r.stage) (λ m. AreLinked m.stage) (polls l.stage) _
      (polls_lead g Linked tame_step l.stage so)
      (λ p polled.
      then_lead AreLinked (λ m. AreLinked m.stage)
      (each delivers (gathered comes (fated l.words p.given) ++ l.held) p.stage) _
      (deliveries_lead g Linked tame_step (gathered comes (fated l.words p.given) ++ l.held) p.stage polled)
      (λ t came.
      then_lead AreLinked (λ m. AreLinked m.stage) (turns g t) _ (turns_lead g Linked tame_step t came)
      (λ u turned.
      then_lead AreLinked (λ m. AreLinked m.stage) (settles ((length p.given == 0) && (length l.held == 0)) u) _
      (settles_link ((length p.given == 0) && (length l.held == 0)) u turned)
      (λ w settled. ends_lead (λ m. AreLinked m.stage) _ settled))))

  lossies_lead : (n : ℕ) (l : Lossy) → AreLinked l.stage → Leads AreLinked (lossy_rounds g n l)
  lossies_lead zero l so = rest_lead l.stage so
  lossies_lead (suc n) l so =
      test_lead AreLinked (any_lives l.stage.nodes l.stage.history) _ _
      (then_lead (λ m. AreLinked m.stage) AreLinked (lossy_round g l) (lossy_rounds g n) (lossy_lead l so)
      (λ m there. lossies_lead n m there)) (rest_lead l.stage so)

  -- ---- lines

  packet_lead : (o : Option Datagram) (s : Stage) → AreLinked s → IfTo AreLinked (with_packet o s)
  packet_lead None s so = so
  packet_lead (Some d) s so = of (nat_le MAX_PACKETS (length s.packets))
    where
      of : (b : Bool)
          → IfTo AreLinked (if b then Refused causes.Bag else To (record s { packets = s.packets ++ d ∷ [] }))
      of true = tt
      of false = so

  caller_lead : (line : ℕ) (bytes : List ℕ) (node : ℕ) (e : Event) (s : Stage) → AreLinked s
      → AreLinked (with_caller node line bytes (name_called e) (with_called node e s))
  caller_lead line bytes node (events.Called its (Ok c)) s so = so
  caller_lead line bytes node (events.Called its (Err refused)) s so = so
  caller_lead line bytes node e s so = so

  invoke_lead : (line cid : ℕ) (bytes : List ℕ) (node : ℕ) (s : Stage) → AreLinked s
      → Leads AreLinked (invokes line cid bytes node s)
  invoke_lead line cid bytes node s so =
      un_lead s node (IsInvoked cid bytes)
      (λ e t. To (with_caller node line bytes (name_called e) (with_called node e t)))
      (λ e there h at. unlinked_at h e (un_called cid e there.0))
      (λ e there after. caller_lead line bytes node e (with_event node e s) after) so

  at_call_lead : (k : ℕ) (is : ClientCall → Event → Type 0) (s : Stage)
      → ((c : ClientCall) (e : Event) → is c e → IsUnlinked e) → AreLinked s
      → Leads AreLinked (at_call k (λ c. event c.node (is c)) s)
  at_call_lead k is s un so =
      found_lead causes.NoCall (λ c. event c.node (is c)) (call_at k s) s
      (λ c there. quiet_lead s c.node (is c) (un c) so)

  jumbo_lead : (first last : ℕ) (s : Stage) → AreLinked s → Leads AreLinked (jumbo_line first last s)
  jumbo_lead first last s so =
      found_lead causes.NoPacket _ (numbered s.packets first) s
      (λ a inside.
      found_lead causes.NoPacket _ (numbered s.packets last) s
      (λ b within.
      test_lead AreLinked (nat_le first last && can_join (packets_in first last s)) _ _
      (deliveries_lead g Linked tame_step (packets_in first last s) s so) (refused_lead causes.Jumbo)))

  clock_lead : (now node : ℕ) (s : Stage) → AreLinked s → Leads AreLinked (clocks now node s)
  clock_lead now node s so =
      test_lead AreLinked (nat_lt now (moment node s.history)) _ _ (refused_lead causes.ClockBack)
      (quiet_lead s node (IsClocked now) (un_clocked now) so)

  clocks_lead : (now : ℕ) (s : Stage) → AreLinked s → Leads AreLinked (clocks_all now s)
  clocks_lead now s so =
      test_lead AreLinked (is_back now s) _ _ (refused_lead causes.ClockBack)
      (each_lead AreLinked (λ node. event node (IsClocked now))
      (λ node t there. quiet_lead t node (IsClocked now) (un_clocked now) there) (clients_first s) s so)

  connect_lead : (first node : ℕ) (s : Stage) → AreLinked s → Leads AreLinked (connects first node s)
  connect_lead first node s so =
      un_lead s node _ (λ e t. To t)
      (λ e there h at. linked_at there.0 h _ first e there.2
      (let both : ◌≡◌ {A = Option Host} (Some there.0) (Some h) = sym there.1 ∙ at in cc (both)))
      (λ e there after. after) so

  -- a line that is driven
  pub line_links : (place : ℕ) (line : PlanLine) (s : Stage) → IsDriven line → AreLinked s
      → Leads AreLinked (line_part g place line s)
  line_links place (lines.Server host service limits key nonce) s driven so = refused_lead causes.Late
  line_links place (lines.Client host epoch limits key) s driven so = refused_lead causes.Late
  line_links place (lines.Connect client first) s driven so =
      found_lead causes.NoNode (connects first) (client_at client s) s (λ k there. connect_lead first k s so)
  line_links place (lines.Ask call) s driven so =
      at_call_lead call (λ c. IsAsked c.name) s (λ c. un_asked c.name) so
  line_links place (lines.Cancel call code) s driven so =
      at_call_lead call (λ c. IsCancelled c.name code) s (λ c. un_cancelled c.name code) so
  line_links place (lines.Poll node) s driven so =
      found_lead causes.NoNode polls_line (node_at node s) s
      (λ k there.
      un_lead s k IsPolled (λ e t. with_packet (given_packet (host_at s k) e) t)
      (λ e polled h at. unlinked_at h e (un_polled e polled))
      (λ e polled after. packet_lead (given_packet (host_at s k) e) (with_event k e s) after) so)
  line_links place (lines.Deliver packet) s driven so =
      found_lead causes.NoPacket delivers (numbered s.packets packet) s
      (λ d there. deliver_lead g Linked tame_step d s so)
  line_links place (lines.Jumbo first last) s driven so = jumbo_lead first last s so
  line_links place (lines.Clock None now) s driven so = clocks_lead now s so
  line_links place (lines.Clock (Some node) now) s driven so =
      found_lead causes.NoNode (clocks now) (node_at node s) s (λ k there. clock_lead now k s so)
  line_links place (lines.Invoke client cid proc up down args) s driven so =
      found_lead causes.NoNode _ (client_at client s) s (λ k there. invoke_lead place cid _ k s so)
  line_links place (lines.Turn node) s driven so =
      found_lead causes.NoNode (turn_line g) (node_at node s) s (λ k there. turn_line_lead g Linked tame_step k s so)
  line_links place (lines.Rounds n) s driven so = rounds_link n s so
  line_links place (lines.Lossy number n) s driven so = lossies_lead n _ so
  line_links place _ s driven so = absurd driven
