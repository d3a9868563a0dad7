-- Rounds are never refused.
use Rattle.std.proofs.Common.{◌≡◌, ◌==◌, ◌+◌, ◌&&◌, not, ℕ, zero, suc, Bool, true, false, List, [], ◌∷◌, length, Option}
use Rattle.std.proofs.Common.{Some, None}
use Rattle.std.proofs.Common.{refl, inl, inr}
use Rattle.std.specs.Prelude.{set, slice_get}
use Rattle.rx_model.specs.declared.event.Event.{Event}
use Rattle.rx_model.specs.declared.event.Noted.{Noted}
use Rattle.rx_model.specs.declared.names.Host.{Host}
use Rattle.rx_history.specs.Sides.{moment}
use Rattle.rx_law.specs.Worlds.{Datagram}
use Rattle.rx_script.specs.declared.outcome.PlanWhy.{PlanWhy}
use Rattle.rx_asks.specs.Asks.{begun, calling}
use Rattle.rx_asks.specs.declared.ask.TheConstants.{REPLY_BYTES}
use Rattle.rx_events.specs.Events.{IsClocked, IsTaken}
use Rattle.rx_events.specs.Waits.{any_lives, least_wait}
use Rattle.rx_jobs.specs.Dispatching.{accepts, dispatching}
use Rattle.rx_jobs.specs.Handlers.{Handlers}
use Rattle.rx_wire.specs.Turns.{Program}
use Rattle.rx_plan.specs.Network.{all_nodes, below, comes_to, delivers, is_for}
use Rattle.rx_plan.specs.Parts.{Came, To, Refused, Cut, Endless, One, Part, Then, by_test, cut_behind, each, ends}
use Rattle.rx_plan.specs.Parts.{goes_on}
use Rattle.rx_plan.specs.Parts.{makes, not_made}
use Rattle.rx_plan.specs.Programs.{Turn, cut_there, goes, is_endless, is_over}
use Rattle.rx_plan.specs.Rounds.{Polled, clients_first, may_move, moves_by, moves_on, polling, polls, polls_at}
use Rattle.rx_plan.specs.Rounds.{polls_out}
use Rattle.rx_plan.specs.Rounds.{round, rounds, settles, turns}
use Rattle.rx_plan.specs.Stages.{InvokedState, IsAllowedNext, Stage, event, event_with, host_at, is_client, with_event}
use Rattle.rx_plan.specs.Turned.{dispatches, jobs_left, turns_all, turns_at, turns_of, turns_where}

-- a part is never refused
abbrev pub Fine : {A : Type 0} → (List Noted → Came A → Type 0) → Type 0
Fine part = (es : List Noted) (why : PlanWhy) → part es (Refused why) → ⊥

pub fine_ends : {A : Type 0} (a : A) → Fine (ends (To a))
fine_ends a es why (none, inl same) = cc
fine_ends a es why (none, inr same) = cc

pub fine_then : {A B : Type 0} (first : Part A) (next : A → Part B) → Fine first → ((a : A) → Fine (next a))
    → Fine (Then first next)
fine_then {A = A} {B = B} first next one other es why t = of t.came t.made t.goes
  where
    of : (came : Came A) → first t.front came → goes_on next came t.rest (Refused why) → ⊥
    of (To a) made onward = other a t.rest why onward
    of (Refused w) made onward = one t.front w made
    of Cut (made) (none, inl same) = cc
    of Cut (made) (none, inr same) = cc
    of Endless (made) (none, inl same) = cc
    of Endless (made) (none, inr same) = cc

pub fine_one : (node : ℕ) (is : Event → Type 0) → Fine (One node is)
fine_one node is es why made = of es (Refused why) made refl
  where
    of : (es : List Noted) (out : Came Event) → One node is es out → out ≡ Refused why → ⊥
    of es out not_made same = cc
    of es out (cut_behind e holds) same = cc
    of es out (makes e holds) same = cc

pub fine_turn : {View Ask : Type 0} (p : Program View Ask) (node : ℕ) (v : View) (s : Stage) → Fine (Turn p node v s)
fine_turn {View = View} {Ask = Ask} p node v s es why turn = of v s es (Refused why) turn refl
  where
    of : (v : View) (s : Stage) (es : List Noted) (out : Came (View × Stage)) → Turn p node v s es out
        → out ≡ Refused why → ⊥
    of v s es out (cut_there a b) same = cc
    of v s es out (is_over a b none) same = cc
    of v s es out (goes a b ask e more o asked allowed rest) same = of (p.heard v e) (with_event node e s) more o rest
        same
    of v s es out (is_endless a b fs turn_cut long) same = cc

pub fine_event_with : (node : ℕ) (is : Event → Type 0) (came : Event → Stage → Stage) (s : Stage)
    → Fine (event_with node is (λ e t. To (came e t)) s)
fine_event_with node is came s =
    fine_then (One node (IsAllowedNext s node is)) (λ e. ends (To (came e (with_event node e s))))
    (fine_one node (IsAllowedNext s node is))
    (λ e. fine_ends (came e (with_event node e s)))

pub fine_event : (node : ℕ) (is : Event → Type 0) (s : Stage) → Fine (event node is s)
fine_event node is s = fine_event_with node is (λ e t. t) s

fine_each : {A X : Type 0} (part : X → A → Part A) (xs : List X) (a : A) → ((x : X) (b : A) → Fine (part x b))
    → Fine (each part xs a)
fine_each part [] a one = fine_ends a
fine_each part (x ∷ xs) a one = fine_then (part x a) (each part xs) (one x a) (λ b. fine_each part xs b one)

fine_test : {A : Type 0} (b : Bool) (first other : Part A) → Fine first → Fine other → Fine (by_test b first other)
fine_test true first other one two = one
fine_test false first other one two = two

fine_delivers : (d : Datagram) (s : Stage) → Fine (delivers d s)
fine_delivers d s =
    fine_each (comes_to d) (all_nodes s) s
    (λ node t. fine_test (is_for d t node) (event node (IsTaken d.from d.bytes) t) (ends (To t))
    (fine_event node (IsTaken d.from d.bytes) t) (fine_ends t))

fine_out : (node : ℕ) (p : Polled) → Fine (polls_out node p)
fine_out node p = by (host_at p.stage node)
  where
    by : (o : Option Host) → Fine (polls_at node o p)
    by None = fine_ends p
    by (Some from) =
        fine_then (Turn (polling from) node (record { again = true; given = p.given }) p.stage)
        (λ r. ends (To (record { stage = r.1; given = r.0.given })))
        (fine_turn (polling from) node (record { again = true; given = p.given }) p.stage)
        (λ r. fine_ends (record { stage = r.1; given = r.0.given }))

fine_dispatch : (g : Handlers) (s : Stage) → Fine (dispatches g s)
fine_dispatch g s =
    fine_then (Turn (dispatching g) 0 (accepts s.jobs) s) (λ r. ends (To (record r.1 { jobs = jobs_left r.0 })))
    (fine_turn (dispatching g) 0 (accepts s.jobs) s) (λ r. fine_ends (record r.1 { jobs = jobs_left r.0 }))

fine_place : (place : ℕ) (s : Stage) → Fine (turns_at place s)
fine_place place s = by (slice_get s.callers place)
  where
    of : (i : InvokedState) → Fine (turns_of place i s)
    of i =
        fine_then (Turn (calling REPLY_BYTES) i.node (begun i.caller) s)
        (λ r. ends (To (record r.1 { callers = set s.callers place (record i { caller = r.0 }) })))
        (fine_turn (calling REPLY_BYTES) i.node (begun i.caller) s)
        (λ r. fine_ends (record r.1 { callers = set s.callers place (record i { caller = r.0 }) }))

    by : (o : Option InvokedState) → Fine (turns_where place o s)
    by None = fine_ends s
    by (Some i) = fine_test (is_client i.node s) (turns_of place i s) (ends (To s)) (of i) (fine_ends s)

fine_turns : (g : Handlers) (s : Stage) → Fine (turns g s)
fine_turns g s =
    fine_then (dispatches g s) turns_all (fine_dispatch g s)
    (λ t. fine_each turns_at (below (length t.callers)) t fine_place)

fine_settles : (quiet : Bool) (s : Stage) → Fine (settles quiet s)
fine_settles false s = fine_ends s
fine_settles true s = by (least_wait s.nodes s.history)
  where
    by : (o : Option ℕ) → Fine (moves_by o s)
    by None = fine_ends s
    by (Some time) =
        fine_test (not (time == 0) && may_move time s) (each (moves_on time) (clients_first s) s) (ends (To s))
        (fine_each (moves_on time) (clients_first s) s
        (λ node t. fine_event node (IsClocked (moment node t.history + time)) t))
        (fine_ends s)

fine_round : (g : Handlers) (s : Stage) → Fine (round g s)
fine_round g s =
    fine_then (polls s) (λ (p : Polled). Then (each delivers p.given p.stage)
    (λ s1. Then (turns g s1) (settles (length p.given == 0))))
    (fine_each polls_out (clients_first s) (record { stage = s; given = [] }) fine_out)
    (λ p. fine_then (each delivers p.given p.stage) (λ s1. Then (turns g s1) (settles (length p.given == 0)))
    (fine_each delivers p.given p.stage fine_delivers)
    (λ s1. fine_then (turns g s1) (settles (length p.given == 0)) (fine_turns g s1)
    (fine_settles (length p.given == 0))))

pub fine_rounds : (g : Handlers) (n : ℕ) (s : Stage) → Fine (rounds g n s)
fine_rounds g zero s = fine_ends s
fine_rounds g (suc n) s =
    fine_test (any_lives s.nodes s.history) (Then (round g s) (rounds g n)) (ends (To s))
    (fine_then (round g s) (rounds g n) (fine_round g s) (fine_rounds g n)) (fine_ends s)
