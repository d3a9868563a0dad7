-- Events of peers and turns of programs on them leave a history so.
use Rattle.std.proofs.Common.{◌≡◌, ℕ, List, [], ◌∷◌, Option, Some, None, ap, sym, subst, All, slice_get, length}
use Rattle.std.proofs.lemmas.List.Elements.{All-weaker}
use Rattle.rx_asks.specs.Asks.{begun as caller_begun, calling}
use Rattle.rx_asks.specs.declared.ask.TheConstants.{REPLY_BYTES}
use Rattle.rx_jobs.specs.Dispatching.{accepts, dispatching}
use Rattle.rx_law.specs.Worlds.{Datagram}
use Rattle.rx_model.specs.declared.event.Event.{Event}
use Rattle.rx_model.specs.declared.event.Noted.{Noted}
use Rattle.rx_peer.specs.declared.role.Role.TheVariants as roles
use Rattle.rx_peer.specs.PeerWorlds.{PeerNode}
use Rattle.rx_peer.specs.Roles.{node_of}
use Rattle.rx_peer_plan.proofs.Halves.{Good, In, IsFair, calm_fair, good_more, in_behind}
use Rattle.rx_peer_plan.proofs.Safe.{Ends, Safe, all_safe, ends_safe, one_safe, test_safe, then_safe}
use Rattle.rx_peer_plan.specs.Programs.{TurnAcross}
use Rattle.rx_peer_plan.specs.Programs as across
use Rattle.rx_peer_plan.specs.Stages.{IsAllowedOf, PeerHandlers, PeerStage, event, event_with, handlers_at, numbers}
use Rattle.rx_peer_plan.specs.Stages.{peer_stages, with_event}
use Rattle.rx_peer_plan.specs.Turned.{dispatches, jobs_at, turn, turns, turns_for, turns_of, turns_on, turns_where}
use Rattle.rx_plan.proofs.Bags.{behind}
use Rattle.rx_plan.proofs.Soundness.Sound.{IfTo, IsCalm}
use Rattle.rx_plan.proofs.Soundness.SoundTurns.{caller_calm, handler_calm}
use Rattle.rx_plan.specs.Network.{below}
use Rattle.rx_plan.specs.Parts.{Came, One, Part, To, ends}
use Rattle.rx_plan.specs.Stages.{InvokedState}
use Rattle.rx_plan.specs.Turned.{is_of}
use Rattle.rx_run.specs.Parts as run
use Rattle.rx_run.specs.Programs.{IsNext, Stages, Turn, cut_there, goes, is_endless, is_over}
use Rattle.rx_wire.specs.Turns.{Program, noted}

-- a turn on one node is one of a program whose view always says that node
across_one : {S Step Why View Ask : Type 0} (st : Stages S Step) (p : Program View Ask) (node : ℕ) {v : View} {s : S}
    {es : List Step} {out : run.Came Why (View × S)} → Turn st p node v s es out
    → TurnAcross st p (λ w. node) v s es out
across_one st p node (cut_there v s) = across.cut_there v s
across_one st p node (is_over v s none) = across.is_over v s none
across_one st p node (goes v s a e es out asks allowed rest) =
    across.goes v s a e es out asks allowed (across_one st p node rest)
across_one st p node (is_endless v s es turn long) = across.is_endless v s es (across_one st p node turn) long

module _ (peers : List PeerNode) where
  -- ---- stages

  -- a stage with these peers and this history, of which each datagram was given
  pub record Is (h : List Noted) (s : PeerStage) : Type 0 where
    pub at : s.peers ≡ peers
    pub history : s.history ≡ h
    pub packets : All (In peers h) s.packets

  -- a part leaves a history and its stage so
  abbrev pub Keeps : {A : Type 0} → (List Noted → A → Type 0) → List Noted → Part A → Type 0
  Keeps ok h part = Safe (Good peers) ok h part

  pub all_behind : (es h : List Noted) (ds : List Datagram) → All (In peers h) ds → All (In peers (behind es h)) ds
  all_behind es h ds there = All-weaker (In peers h) (In peers (behind es h)) (in_behind peers es h) ds there

  pub is_next : (h : List Noted) (s : PeerStage) (node : ℕ) (e : Event) → Is h s
      → Is (noted node e ∷ h) (with_event node e s)
  is_next h s node e i =
      record {
        at = i.at;
        history = ap (λ k. noted node e ∷ k) i.history;
        packets = all_behind (noted node e ∷ []) h s.packets i.packets;
      }

  pub allowed_in : (h : List Noted) (s : PeerStage) (node : ℕ) (e : Event) → Is h s
      → IsAllowedOf s.peers s.history node e → IsAllowedOf peers h node e
  allowed_in h s node e i allowed =
      subst (λ k. IsAllowedOf peers k node e) i.history (subst (λ ps. IsAllowedOf ps s.history node e) i.at allowed)

  -- ---- one event

  pub next_safe : (h : List Noted) (s : PeerStage) (node : ℕ) (is : Event → Type 0) → Good peers h → Is h s
      → ((e : Event) → is e → IsFair peers h node e)
      → Keeps (λ k e. (k ≡ noted node e ∷ h) × IsNext peer_stages s node is e) h
      (One node (IsNext peer_stages s node is))
  next_safe h s node is g i fair =
      one_safe (Good peers) h node (IsNext peer_stages s node is) g
      (λ e a. good_more peers h node e g (allowed_in h s node e i a.1) (fair e a.0))

  pub event_with_safe : (h : List Noted) (s : PeerStage) (node : ℕ) (is : Event → Type 0)
      (came : Event → PeerStage → Came PeerStage) → Good peers h → Is h s
      → ((e : Event) → is e → IsFair peers h node e)
      → ((e : Event) → is e → IfTo (Is (noted node e ∷ h)) (came e (with_event node e s)))
      → Keeps Is h (event_with node is came s)
  event_with_safe h s node is came g i fair next =
      then_safe (Good peers) (λ k e. (k ≡ noted node e ∷ h) × IsNext peer_stages s node is e) Is h
      (One node (IsNext peer_stages s node is)) (λ e. ends (came e (with_event node e s)))
      (next_safe h s node is g i fair)
      (λ es e good there.
      ends_safe (Good peers) Is (behind es h) (came e (with_event node e s)) good
      (subst (λ k. IfTo (Is k) (came e (with_event node e s))) (sym there.0) (next e there.1.0)))

  -- an event of which nothing more is kept
  pub event_safe : (h : List Noted) (s : PeerStage) (node : ℕ) (is : Event → Type 0) → Good peers h → Is h s
      → ((e : Event) → is e → IsFair peers h node e) → Keeps Is h (event node is s)
  event_safe h s node is g i fair =
      event_with_safe h s node is (λ e t. To t) g i fair (λ e there. is_next h s node e i)

  -- and which takes nothing
  pub calm_safe : (h : List Noted) (s : PeerStage) (node : ℕ) (is : Event → Type 0) → Good peers h → Is h s
      → ((e : Event) → is e → IsCalm e) → Keeps Is h (event node is s)
  calm_safe h s node is g i calm = event_safe h s node is g i (λ e there. calm_fair peers h node e (calm e there))

  -- ---- turns

  -- what a turn came to: a stage, and of what the program knows
  abbrev pub Turned : {View : Type 0} → (List Noted → View → Type 0) → List Noted → View × PeerStage → Type 0
  Turned Q h r = Is h r.1 × Q h r.0

  -- each call of a program takes only what was given, and what is said of its view stays so
  abbrev pub Steps : {View Ask : Type 0} → Program View Ask → (View → ℕ) → (List Noted → View → Type 0) → Type 0
  Steps {View} {Ask} p at Q =
      (h : List Noted) (v : View) (a : Ask) (e : Event) → Q h v → p.is a e
      → IsFair peers h (at v) e × Q (noted (at v) e ∷ h) (p.heard v e)

  pub across_safe : {View Ask : Type 0} (p : Program View Ask) (at : View → ℕ) (Q : List Noted → View → Type 0)
      → Steps p at Q → (h : List Noted) (v : View) (s : PeerStage) → Good peers h → Is h s → Q h v
      → Keeps (Turned Q) h (TurnAcross peer_stages p at v s)
  across_safe {View} {Ask} p at Q steps h v s g i q es out made = of made h g i q
    where
      of : {v : View} {s : PeerStage} {es : List Noted} {out : Came (View × PeerStage)}
          → TurnAcross peer_stages p at v s es out → (h : List Noted) → Good peers h → Is h s → Q h v
          → Ends (Good peers) (Turned Q) (behind es h) out
      of (across.cut_there v s) h g i q = record { good = g; came = tt }
      of (across.is_over v s none) h g i q = record { good = g; came = (i, q) }
      of (across.goes v s a e es out asks allowed rest) h g i q =
          (let step : IsFair peers h (at v) e × Q (noted (at v) e ∷ h) (p.heard v e) = steps h v a e q allowed.0 in
          of rest (noted (at v) e ∷ h) (good_more peers h (at v) e g (allowed_in h s (at v) e i allowed.1) step.0)
          (is_next h s (at v) e i) step.1)
      of (across.is_endless v s es turn long) h g i q = record { good = (of turn h g i q).good; came = tt }

  -- a turn on one node, of a program that takes no datagram
  pub turn_safe : {View Ask : Type 0} (p : Program View Ask) (node : ℕ)
      → ((a : Ask) (e : Event) → p.is a e → IsCalm e)
      → (h : List Noted) (v : View) (s : PeerStage) → Good peers h → Is h s
      → Keeps (Turned (λ k w. Unit {0})) h (Turn peer_stages p node v s)
  turn_safe p node calm h v s g i es out made =
      across_safe p (λ w. node) (λ k w. Unit {0})
      (λ k w a e q there. (calm_fair peers k node e (calm a e there), tt)) h v s g i tt es out
      (across_one peer_stages p node made)

  -- ---- the dispatchers' and the callers'

  dispatches_safe : (g : PeerHandlers) (number : ℕ) (h : List Noted) (s : PeerStage) → Good peers h → Is h s
      → Keeps Is h (dispatches g number s)
  dispatches_safe g number h s good i =
      then_safe (Good peers) (Turned (λ k w. Unit {0})) Is h _ _
      (turn_safe (dispatching (handlers_at g number)) (node_of roles.Served number) handler_calm h
      (accepts (jobs_at number s)) s good i)
      (λ es r now there.
      ends_safe (Good peers) Is (behind es h) _ now
      (record { at = there.0.at; history = there.0.history; packets = there.0.packets }))

  turns_of_safe : (place : ℕ) (c : InvokedState) (h : List Noted) (s : PeerStage) → Good peers h → Is h s
      → Keeps Is h (turns_of place c s)
  turns_of_safe place c h s good i =
      then_safe (Good peers) (Turned (λ k w. Unit {0})) Is h _ _
      (turn_safe (calling REPLY_BYTES) c.node caller_calm h (caller_begun c.caller) s good i)
      (λ es r now there.
      ends_safe (Good peers) Is (behind es h) _ now
      (record { at = there.0.at; history = there.0.history; packets = there.0.packets }))

  -- nothing happens
  pub rests_safe : (h : List Noted) (s : PeerStage) → Good peers h → Is h s → Keeps Is h (ends (To s))
  rests_safe h s good i = ends_safe (Good peers) Is h (To s) good i

  turns_where_safe : (place : ℕ) (o : Option InvokedState) (h : List Noted) (s : PeerStage) → Good peers h → Is h s
      → Keeps Is h (turns_where place o s)
  turns_where_safe place None h s good i = rests_safe h s good i
  turns_where_safe place (Some c) h s good i = turns_of_safe place c h s good i

  turns_for_safe : (node : ℕ) (h : List Noted) (place : ℕ) (s : PeerStage) → Good peers h → Is h s
      → Keeps Is h (turns_for node place s)
  turns_for_safe node h place s good i =
      test_safe (Good peers) Is h (is_of node (slice_get s.callers place)) _ _
      (λ so. turns_where_safe place (slice_get s.callers place) h s good i) (λ so. rests_safe h s good i)

  turns_on_safe : (number : ℕ) (h : List Noted) (s : PeerStage) → Good peers h → Is h s
      → Keeps Is h (turns_on number s)
  turns_on_safe number h s good i =
      all_safe (Good peers) Is (turns_for (node_of roles.Caller number)) (turns_for_safe (node_of roles.Caller number))
      (below (length s.callers)) h s good i

  pub peer_turn_safe : (g : PeerHandlers) (h : List Noted) (number : ℕ) (s : PeerStage) → Good peers h → Is h s
      → Keeps Is h (turn g number s)
  peer_turn_safe g h number s good i =
      then_safe (Good peers) Is Is h (dispatches g number s) (turns_on number) (dispatches_safe g number h s good i)
      (λ es t now is. turns_on_safe number (behind es h) t now is)

  pub turns_safe : (g : PeerHandlers) (h : List Noted) (s : PeerStage) → Good peers h → Is h s
      → Keeps Is h (turns g s)
  turns_safe g h s good i = all_safe (Good peers) Is (turn g) (peer_turn_safe g) (numbers s) h s good i
