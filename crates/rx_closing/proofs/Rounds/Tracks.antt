-- The events of rounds are those that their history has beside what it had.
use Rattle.std.proofs.Common.{◌≡◌, ◌==◌, ◌&&◌, ◌++◌, ◌+◌, not, ℕ, zero, suc, Bool, true, false, List, [], ◌∷◌, Option}
use Rattle.std.proofs.Common.{Some, None, refl, ap, sym, ◌∙◌, length, set, slice_get}
use Rattle.rx_model.specs.declared.event.Event.{Event}
use Rattle.rx_model.specs.declared.event.Noted.{Noted}
use Rattle.rx_model.specs.declared.names.Host.{Host}
use Rattle.rx_law.specs.Worlds.{Datagram}
use Rattle.rx_history.specs.Sides.{moment}
use Rattle.rx_asks.specs.declared.ask.TheConstants.{REPLY_BYTES}
use Rattle.rx_asks.specs.Asks.{begun, calling}
use Rattle.rx_jobs.specs.Dispatching.{accepts, dispatching}
use Rattle.rx_jobs.specs.Handlers.{Handlers}
use Rattle.rx_events.specs.Events.{IsClocked, IsTaken}
use Rattle.rx_events.specs.Waits.{any_lives, least_wait}
use Rattle.rx_wire.specs.Turns.{Program, noted}
use Rattle.rx_plan.specs.Network.{all_nodes, below, comes_to, delivers, is_for}
use Rattle.rx_plan.specs.Parts.{Came, Cut, Endless, One, Part, Refused, Then, To, by_test, each, ends, goes_on, makes}
use Rattle.rx_plan.specs.Programs.{Turn, cut_there, goes, is_endless, is_over}
use Rattle.rx_plan.specs.Rounds.{Polled, clients_first, may_move, moves_by, moves_on, polling, polls, polls_at}
use Rattle.rx_plan.specs.Rounds.{polls_out, round, rounds, settles, turns}
use Rattle.rx_plan.specs.Stages.{InvokedState, IsAllowedNext, Stage, event, host_at, is_client, with_event}
use Rattle.rx_plan.specs.Turned.{dispatches, jobs_left, turns_all, turns_at, turns_of, turns_where}
use Rattle.rx_plan.proofs.Bags.{behind, behind_both}
use Rattle.rx_rounds.proofs.Making.{ends_cut, ends_endless, ends_refused, ends_to, to_is}

-- what was come to has this history behind the events of a part
abbrev pub Tracks : {A : Type 0} → (A → List Noted) → List Noted → Part A → Type 0
Tracks {A} of h part = (es : List Noted) (a : A) → part es (To a) → of a ≡ behind es h

-- ---- parts of any kind

ends_track : {A : Type 0} (of : A → List Noted) (h : List Noted) (a : A) → of a ≡ h → Tracks of h (ends (To a))
ends_track of h a is es b made =
    ap of (ends_to a b es made) ∙ is ∙ ap (λ (xs : List Noted). behind xs h) (sym made.0)

then_track : {A B : Type 0} (mid : A → List Noted) (of : B → List Noted) (h : List Noted) (first : Part A)
    (next : A → Part B) → Tracks mid h first → ((a : A) → Tracks of (mid a) (next a)) → Tracks of h (Then first next)
then_track {A} {B} mid of h first next one two es b t =
    by t.came t.made t.goes ∙ sym (behind_both t.front t.rest h) ∙ ap (λ (xs : List Noted). behind xs h) (sym t.are)
  where
    by : (came : Came A) → first t.front came → goes_on next came t.rest (To b)
        → of b ≡ behind t.rest (behind t.front h)
    by (To a) made onward =
        two a t.rest b onward ∙ ap (λ (k : List Noted). behind t.rest k) (one t.front a made)
    by (Refused why) made onward = absurd (ends_refused why b t.rest onward)
    by Cut made onward = absurd (ends_cut b t.rest onward)
    by Endless made onward = absurd (ends_endless b t.rest onward)

test_track : {A : Type 0} (of : A → List Noted) (h : List Noted) (b : Bool) (first other : Part A) → Tracks of h first
    → Tracks of h other → Tracks of h (by_test b first other)
test_track of h true first other one two = one
test_track of h false first other one two = two

each_track : {A X : Type 0} (of : A → List Noted) (part : X → A → Part A)
    → ((x : X) (a : A) → Tracks of (of a) (part x a)) → (xs : List X) (a : A) → Tracks of (of a) (each part xs a)
each_track of part one [] a = ends_track of (of a) a refl
each_track of part one (x ∷ xs) a =
    then_track of of (of a) (part x a) (each part xs) (one x a) (λ b. each_track of part one xs b)

-- ---- events of stages

abbrev history_of : Stage → List Noted
history_of s = s.history

one_track : (node : ℕ) (is : Event → Type 0) (h : List Noted)
    → Tracks (λ (e : Event). noted node e ∷ h) h (One node is)
one_track node is h es e (makes f holds) = refl

event_track : (node : ℕ) (is : Event → Type 0) (s : Stage) → Tracks history_of s.history (event node is s)
event_track node is s =
    then_track (λ (e : Event). noted node e ∷ s.history) history_of s.history (One node (IsAllowedNext s node is))
    (λ e. ends (To (with_event node e s))) (one_track node (IsAllowedNext s node is) s.history)
    (λ e. ends_track history_of (noted node e ∷ s.history) (with_event node e s) refl)

turn_track : {View Ask : Type 0} (p : Program View Ask) (node : ℕ) (v : View) (s : Stage)
    → Tracks (λ (r : View × Stage). r.1.history) s.history (Turn p node v s)
turn_track {View = View} {Ask = Ask} p node v s es a turn = of v s es (To a) turn refl
  where
    of : (v : View) (s : Stage) (es : List Noted) (out : Came (View × Stage)) → Turn p node v s es out → out ≡ To a
        → a.1.history ≡ behind es s.history
    of v s es out (cut_there x y) is = absurd cc
    of v s es out (is_over x y none) is = ap (λ (z : View × Stage). z.1.history) (sym (to_is (v, s) a is))
    of v s es out (goes x y ask e more o asked allowed rest) is =
        of (p.heard v e) (with_event node e s) more o rest is
    of v s es out (is_endless x y fs turn_cut long) is = absurd cc

-- ---- the parts of a round

abbrev polled_history : Polled → List Noted
polled_history p = p.stage.history

out_track : (node : ℕ) (o : Option Host) (p : Polled) → Tracks polled_history (polled_history p) (polls_at node o p)
out_track node None p = ends_track polled_history (polled_history p) p refl
out_track node (Some from) p =
    then_track (λ r. r.1.history) polled_history (polled_history p)
    (Turn (polling from) node (record { again = true; given = p.given }) p.stage)
    (λ r. ends (To (record { stage = r.1; given = r.0.given })))
    (turn_track (polling from) node (record { again = true; given = p.given }) p.stage)
    (λ r. ends_track polled_history r.1.history (record { stage = r.1; given = r.0.given }) refl)

polls_track : (s : Stage) → Tracks polled_history s.history (polls s)
polls_track s =
    each_track polled_history polls_out (λ node p. out_track node (host_at p.stage node) p) (clients_first s)
    (record { stage = s; given = [] })

deliver_track : (d : Datagram) (s : Stage) → Tracks history_of s.history (delivers d s)
deliver_track d s =
    each_track history_of (comes_to d)
    (λ node u. test_track history_of u.history (is_for d u node) (event node (IsTaken d.from d.bytes) u) (ends (To u))
    (event_track node (IsTaken d.from d.bytes) u) (ends_track history_of u.history u refl)) (all_nodes s) s

dispatch_track : (g : Handlers) (s : Stage) → Tracks history_of s.history (dispatches g s)
dispatch_track g s =
    then_track (λ r. r.1.history) history_of s.history (Turn (dispatching g) 0 (accepts s.jobs) s)
    (λ r. ends (To (record r.1 { jobs = jobs_left r.0 }))) (turn_track (dispatching g) 0 (accepts s.jobs) s)
    (λ r. ends_track history_of r.1.history (record r.1 { jobs = jobs_left r.0 }) refl)

caller_track : (place : ℕ) (o : Option InvokedState) (s : Stage) → Tracks history_of s.history (turns_where place o s)
caller_track place None s = ends_track history_of s.history s refl
caller_track place (Some i) s =
    test_track history_of s.history (is_client i.node s) (turns_of place i s) (ends (To s))
    (then_track (λ r. r.1.history) history_of s.history (Turn (calling REPLY_BYTES) i.node (begun i.caller) s)
    (λ r. ends (To (record r.1 { callers = set s.callers place (record i { caller = r.0 }) })))
    (turn_track (calling REPLY_BYTES) i.node (begun i.caller) s)
    (λ r. ends_track history_of r.1.history
    (record r.1 { callers = set s.callers place (record i { caller = r.0 }) }) refl))
    (ends_track history_of s.history s refl)

turns_track : (g : Handlers) (s : Stage) → Tracks history_of s.history (turns g s)
turns_track g s =
    then_track history_of history_of s.history (dispatches g s) turns_all (dispatch_track g s)
    (λ u. each_track history_of turns_at (λ place v. caller_track place (slice_get v.callers place) v)
    (below (length u.callers)) u)

settles_track : (quiet : Bool) (s : Stage) → Tracks history_of s.history (settles quiet s)
settles_track false s = ends_track history_of s.history s refl
settles_track true s = by (least_wait s.nodes s.history)
  where
    by : (o : Option ℕ) → Tracks history_of s.history (moves_by o s)
    by None = ends_track history_of s.history s refl
    by (Some time) =
        test_track history_of s.history (not (time == 0) && may_move time s)
        (each (moves_on time) (clients_first s) s) (ends (To s))
        (each_track history_of (moves_on time)
        (λ node u. event_track node (IsClocked (moment node u.history + time)) u) (clients_first s) s)
        (ends_track history_of s.history s refl)

round_track : (g : Handlers) (s : Stage) → Tracks history_of s.history (round g s)
round_track g s =
    then_track polled_history history_of s.history (polls s)
    (λ p. Then (each delivers p.given p.stage) (λ u. Then (turns g u) (settles (length p.given == 0))))
    (polls_track s)
    (λ p. then_track history_of history_of (polled_history p) (each delivers p.given p.stage)
    (λ u. Then (turns g u) (settles (length p.given == 0)))
    (each_track history_of delivers deliver_track p.given p.stage)
    (λ u. then_track history_of history_of u.history (turns g u) (settles (length p.given == 0)) (turns_track g u)
    (λ v. settles_track (length p.given == 0) v)))

-- ---- rounds

pub rounds_track : (g : Handlers) (n : ℕ) (s : Stage) → Tracks history_of s.history (rounds g n s)
rounds_track g zero s = ends_track history_of s.history s refl
rounds_track g (suc n) s =
    test_track history_of s.history (any_lives s.nodes s.history) (Then (round g s) (rounds g n)) (ends (To s))
    (then_track history_of history_of s.history (round g s) (rounds g n) (round_track g s) (λ u. rounds_track g n u))
    (ends_track history_of s.history s refl)

-- an event of rounds stands in the history between what came before and behind it
pub split_behind : (first : List Noted) (e : Noted) (last h : List Noted)
    → behind (first ++ e ∷ last) h ≡ behind last (e ∷ behind first h)
split_behind first e last h = behind_both first (e ∷ last) h
