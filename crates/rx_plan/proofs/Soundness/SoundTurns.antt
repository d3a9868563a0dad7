-- Turns of programs leave a history sound.
use Rattle.std.proofs.Common.{◌≡◌, ℕ, Bool, true, false, List, ◌∷◌, Option, Some, None, refl, slice_get, length}
use Rattle.rx_model.specs.declared.event.Event.{Event}
use Rattle.rx_model.specs.declared.event.Noted.{Noted}
use Rattle.rx_asks.specs.Asks.{Asking, Offers, Shuts, Reads, Cancels, IsAsked, begun as caller_begun, calling}
use Rattle.rx_asks.specs.declared.ask.TheConstants.{REPLY_BYTES}
use Rattle.rx_jobs.specs.Dispatching.{accepts, dispatching}
use Rattle.rx_jobs.specs.Handlers.{Handlers}
use Rattle.rx_jobs.specs.Jobs.{Ask, IsCall, accept, finish, read, write}
use Rattle.rx_history.specs.Sides.{Node}
use Rattle.rx_wire.specs.Turns.{Program, noted}
use Rattle.rx_plan.specs.Network.{below}
use Rattle.rx_plan.specs.Parts.{Came, To, Part, by_test, each, ends}
use Rattle.rx_plan.specs.Programs.{Turn, cut_there, goes, is_endless, is_over}
use Rattle.rx_plan.specs.Stages.{InvokedState, Stage, is_client}
use Rattle.rx_plan.specs.Turned.{dispatches, is_of, turns_all, turns_at, turns_for, turns_of, turns_on, turns_where}
use Rattle.rx_plan.proofs.Bags.{behind}
use Rattle.rx_plan.proofs.Soundness.Sound.{Ends, Good, Is, IsCalm, IsHonest, Safe, allowed_in, calm_by, calm_honest}
use Rattle.rx_plan.proofs.Soundness.Sound.{each_safe}
use Rattle.rx_plan.proofs.Soundness.Sound.{ends_safe, good_more, is_next, then_safe}

-- no call of a caller takes a datagram
pub caller_calm : (a : Asking) (e : Event) → IsAsked a e → IsCalm e
caller_calm (Offers c bytes) = calm_by (IsAsked (Offers c bytes)) (λ from datagram got i. i)
caller_calm (Shuts c) = calm_by (IsAsked (Shuts c)) (λ from datagram got i. i)
caller_calm (Reads c max) = calm_by (IsAsked (Reads c max)) (λ from datagram got i. i)
caller_calm (Cancels c code) = calm_by (IsAsked (Cancels c code)) (λ from datagram got i. i)

-- nor does one of a dispatcher
pub handler_calm : (a : Ask) (e : Event) → IsCall a e → IsCalm e
handler_calm accept = calm_by (IsCall accept) (λ from datagram got i. (let same = i.1 in absurd cc))
handler_calm (read c) = calm_by (IsCall (read c)) (λ from datagram got i. (let same = i.2 in absurd cc))
handler_calm (write c offer) = calm_by (IsCall (write c offer)) (λ from datagram got i. (let same = i.1 in absurd cc))
handler_calm (finish c code) = calm_by (IsCall (finish c code)) (λ from datagram got i. (let same = i.1 in absurd cc))

module _ (Honest : Type 0) (nodes : List Node) where
  -- ---- turns

  -- what a turn came to: a stage, and of what the program knows
  abbrev pub Turned : {View : Type 0} → (List Noted → View → Type 0) → List Noted → View × Stage → Type 0
  Turned Q h r = Is Honest nodes h r.1 × Q h r.0

  -- each call of the program takes only what was given, and what is said of its view stays so
  abbrev pub Steps : {View Ask : Type 0} → Program View Ask → ℕ → (List Noted → View → Type 0) → Type 0
  Steps {View} {Ask} p node Q =
      (h : List Noted) (v : View) (a : Ask) (e : Event) → Q h v → p.is a e
      → IsHonest Honest nodes h node e × Q (noted node e ∷ h) (p.heard v e)

  pub turn_safe : {View Ask : Type 0} (p : Program View Ask) (node : ℕ) (Q : List Noted → View → Type 0)
      → Steps p node Q → (h : List Noted) (v : View) (s : Stage) → Good Honest nodes h → Is Honest nodes h s → Q h v
      → Safe Honest nodes (Turned Q) h (Turn p node v s)
  turn_safe {View} {Ask} p node Q steps h v s g i q es out made = of made h g i q
    where
      of : {v : View} {s : Stage} {es : List Noted} {out : Came (View × Stage)} → Turn p node v s es out
          → (h : List Noted) → Good Honest nodes h → Is Honest nodes h s → Q h v
          → Ends Honest nodes (Turned Q) (behind es h) out
      of (cut_there v s) h g i q = record { good = g; came = tt }
      of (is_over v s none) h g i q = record { good = g; came = (i, q) }
      of (goes v s a e es out asks allowed rest) h g i q =
          (let step : IsHonest Honest nodes h node e × Q (noted node e ∷ h) (p.heard v e) = steps h v a e q allowed.0 in
          of rest (noted node e ∷ h)
          (good_more Honest nodes h node e g (allowed_in Honest nodes h s node e i allowed.1) step.0)
          (is_next Honest nodes h s node e i) step.1)
      of (is_endless v s es turn long) h g i q = record { good = (of turn h g i q).good; came = tt }

  -- of a program that takes no datagram
  pub calm_turn_safe : {View Ask : Type 0} (p : Program View Ask) (node : ℕ)
      → ((a : Ask) (e : Event) → p.is a e → IsCalm e)
      → (h : List Noted) (v : View) (s : Stage) → Good Honest nodes h → Is Honest nodes h s
      → Safe Honest nodes (Turned (λ k w. Unit {0})) h (Turn p node v s)
  calm_turn_safe p node calm h v s g i =
      turn_safe p node (λ k w. Unit {0})
      (λ k w a e q there. (calm_honest Honest nodes k node e (calm a e there), tt)) h v s g i tt

  -- ---- the dispatcher's and the callers'

  pub dispatches_safe : (g : Handlers) (h : List Noted) (s : Stage) → Good Honest nodes h → Is Honest nodes h s
      → Safe Honest nodes (Is Honest nodes) h (dispatches g s)
  dispatches_safe g h s good i =
      then_safe Honest nodes (Turned (λ k w. Unit {0})) (Is Honest nodes) h _ _
      (calm_turn_safe (dispatching g) 0 handler_calm h (accepts s.jobs) s good i)
      (λ es r now there.
      ends_safe Honest nodes (Is Honest nodes) (behind es h) _ now
      (record { at = there.0.at; history = there.0.history; packets = there.0.packets }))

  turns_of_safe : (place : ℕ) (c : InvokedState) (h : List Noted) (s : Stage) → Good Honest nodes h
      → Is Honest nodes h s → Safe Honest nodes (Is Honest nodes) h (turns_of place c s)
  turns_of_safe place c h s good i =
      then_safe Honest nodes (Turned (λ k w. Unit {0})) (Is Honest nodes) h _ _
      (calm_turn_safe (calling REPLY_BYTES) c.node caller_calm h (caller_begun c.caller) s good i)
      (λ es r now there.
      ends_safe Honest nodes (Is Honest nodes) (behind es h) _ now
      (record { at = there.0.at; history = there.0.history; packets = there.0.packets }))

  -- one of two parts
  pub test_safe : {A : Type 0} (ok : List Noted → A → Type 0) (h : List Noted) (b : Bool) (first other : Part A)
      → (b ≡ true → Safe Honest nodes ok h first) → (b ≡ false → Safe Honest nodes ok h other)
      → Safe Honest nodes ok h (by_test b first other)
  test_safe ok h true first other so or_so = so refl
  test_safe ok h false first other so or_so = or_so refl

  -- nothing happens
  pub rests_safe : (h : List Noted) (s : Stage) → Good Honest nodes h → Is Honest nodes h s
      → Safe Honest nodes (Is Honest nodes) h (ends (To s))
  rests_safe h s good i = ends_safe Honest nodes (Is Honest nodes) h (To s) good i

  turns_where_safe : (place : ℕ) (o : Option InvokedState) (h : List Noted) (s : Stage) → Good Honest nodes h
      → Is Honest nodes h s → Safe Honest nodes (Is Honest nodes) h (turns_where place o s)
  turns_where_safe place None h s good i = rests_safe h s good i
  turns_where_safe place (Some c) h s good i =
      test_safe (Is Honest nodes) h (is_client c.node s) _ _ (λ so. turns_of_safe place c h s good i)
      (λ so. rests_safe h s good i)

  turns_at_safe : (place : ℕ) (h : List Noted) (s : Stage) → Good Honest nodes h → Is Honest nodes h s
      → Safe Honest nodes (Is Honest nodes) h (turns_at place s)
  turns_at_safe place h s good i = turns_where_safe place (slice_get s.callers place) h s good i

  turns_for_safe : (node place : ℕ) (h : List Noted) (s : Stage) → Good Honest nodes h → Is Honest nodes h s
      → Safe Honest nodes (Is Honest nodes) h (turns_for node place s)
  turns_for_safe node place h s good i =
      test_safe (Is Honest nodes) h (is_of node (slice_get s.callers place)) _ _
      (λ so. turns_at_safe place h s good i) (λ so. rests_safe h s good i)

  -- one part for each number, of which nothing is asked
  pub numbers_safe : (part : ℕ → Stage → Part Stage)
      → ((k : ℕ) (h : List Noted) (s : Stage) → Good Honest nodes h → Is Honest nodes h s
      → Safe Honest nodes (Is Honest nodes) h (part k s))
      → (ks : List ℕ) (h : List Noted) (s : Stage) → Good Honest nodes h → Is Honest nodes h s
      → Safe Honest nodes (Is Honest nodes) h (each part ks s)
  numbers_safe part one ks h s good i =
      each_safe Honest nodes (Is Honest nodes) (λ k x. Unit {0}) part (λ es k x there. tt)
      (λ k x t now there is. one x k t now is) ks h s good (λ k x inside. tt) i

  pub turns_on_safe : (node : ℕ) (h : List Noted) (s : Stage) → Good Honest nodes h → Is Honest nodes h s
      → Safe Honest nodes (Is Honest nodes) h (turns_on node s)
  turns_on_safe node h s good i =
      numbers_safe (turns_for node) (turns_for_safe node) (below (length s.callers)) h s good i

  pub turns_all_safe : (h : List Noted) (s : Stage) → Good Honest nodes h → Is Honest nodes h s
      → Safe Honest nodes (Is Honest nodes) h (turns_all s)
  turns_all_safe h s good i = numbers_safe turns_at turns_at_safe (below (length s.callers)) h s good i
