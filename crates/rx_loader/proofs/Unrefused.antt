-- Parts of a load are never refused: its nodes stay, so that each client is found.
use Rattle.std.proofs.Common.{◌≡◌, ◌⊎◌, ◌==◌, ◌+◌, ◌&&◌, not, ℕ, zero, suc, Bool, true, false, List, [], ◌∷◌, ◌++◌}
use Rattle.std.proofs.Common.{Option, Some, None, refl, inl, inr, sym, subst, length, slice_get, All}
use Rattle.std.specs.Prelude.{nat_lt}
use Rattle.std.proofs.lemmas.List.Elements.{All-cons, All-head, All-nil, All-tail}
use Rattle.rand_pcg.specs.Lcg.{Lcg}
use Rattle.rand_pcg.specs.Pcg.{pcg32}
use Rattle.rx_asks.specs.Asks.{begun as caller_begun, calling}
use Rattle.rx_asks.specs.declared.ask.TheConstants.{REPLY_BYTES}
use Rattle.rx_history.specs.Sides.{Node, moment}
use Rattle.rx_jobs.specs.Dispatching.{accepts, dispatching}
use Rattle.rx_jobs.specs.Handlers.{Handlers}
use Rattle.rx_law.specs.Worlds.{Datagram}
use Rattle.rx_model.specs.declared.event.Event.{Event}
use Rattle.rx_model.specs.declared.event.Noted.{Noted}
use Rattle.rx_model.specs.declared.names.CallName.{CallName}
use Rattle.rx_model.specs.declared.names.Host.{Host}
use Rattle.rx_events.specs.Events.{IsClocked, IsTaken}
use Rattle.rx_events.specs.Waits.{least_wait}
use Rattle.rx_script.specs.declared.outcome.PlanWhy.TheVariants as causes
use Rattle.rx_wire.specs.Turns.{Program}
use Rattle.rx_plan.specs.Finds.{at_client, found_or, where_true}
use Rattle.rx_plan.specs.Lines.{IsInvoked, connects, invokes, with_called, with_caller}
use Rattle.rx_plan.specs.Lossy.{Lossy, carries, comes, fated, gathered}
use Rattle.rx_plan.specs.Network.{all_nodes, below, comes_to, delivers, is_for}
use Rattle.rx_plan.specs.Parts.{Came, To, Refused, Cut, Endless, One, Part, Then, by_test, cut_behind, each, ends}
use Rattle.rx_plan.specs.Parts.{goes_on, makes, not_made}
use Rattle.rx_plan.specs.Programs.{Turn, cut_there, goes, is_endless, is_over}
use Rattle.rx_plan.specs.Rounds.{Polled, clients_first, may_move, moves_by, moves_on, polling, polls, polls_at}
use Rattle.rx_plan.specs.Rounds.{polls_out, settles, turns}
use Rattle.rx_plan.specs.Stages.{InvokedState, IsAllowedNext, Stage, event, event_with, host_at, is_client, name_called}
use Rattle.rx_plan.specs.Stages.{with_event}
use Rattle.rx_plan.specs.Turned.{dispatches, turns_all, turns_at, turns_of, turns_where}
use Rattle.rx_load.specs.Loads.{Load, all_ended, body_length, clients, connects_all, load_begun, load_handlers}
use Rattle.rx_load.specs.Loads.{load_nodes, load_part, load_request, load_round, load_rounds, lossy_with, may_open}
use Rattle.rx_load.specs.Loads.{next_call, opens, opens_all, opens_free, opens_number}

-- what was come to is so, and is no refusal
abbrev pub IfGoes : {A : Type 0} → (A → Type 0) → Came A → Type 0
IfGoes ok (To a) = ok a
IfGoes ok (Refused why) = ⊥
IfGoes ok Cut = Unit {0}
IfGoes ok Endless = Unit {0}

-- a part comes to what is so, and isn't refused
abbrev pub Goes : {A : Type 0} → (A → Type 0) → Part A → Type 0
Goes {A} ok part = (es : List Noted) (came : Came A) → part es came → IfGoes ok came

-- ---- parts of parts

ends_goes : {A : Type 0} (ok : A → Type 0) (came : Came A) → IfGoes ok came → Goes ok (ends came)
ends_goes {A} ok came there es out made = of made.1
  where
    of : (out ≡ came) ⊎ (out ≡ Cut) → IfGoes ok out
    of (inl same) = subst (λ c. IfGoes ok c) (sym same) there
    of (inr same) = subst (λ c. IfGoes ok c) (sym same) tt

then_goes : {A B : Type 0} (ok : A → Type 0) (fine : B → Type 0) (first : Part A) (next : A → Part B) → Goes ok first
    → ((a : A) → ok a → Goes fine (next a)) → Goes fine (Then first next)
then_goes {A} {B} ok fine first next whole more es out t = onward t.came (whole t.front t.came t.made) t.goes
  where
    onward : (came : Came A) → IfGoes ok came → goes_on next came t.rest out → IfGoes fine out
    onward (To a) there made = more a there t.rest out made
    onward (Refused why) there made = elim there [ ]
    onward Cut there made = ends_goes fine Cut tt t.rest out made
    onward Endless there made = ends_goes fine Endless tt t.rest out made

each_goes : {A X : Type 0} (ok : A → Type 0) (P : X → Type 0) (part : X → A → Part A)
    → ((x : X) (a : A) → P x → ok a → Goes ok (part x a)) → (xs : List X) (a : A) → All P xs → ok a
    → Goes ok (each part xs a)
each_goes ok P part one [] a all there = ends_goes ok (To a) there
each_goes ok P part one (x ∷ xs) a all there =
    then_goes ok ok (part x a) (each part xs) (one x a (All-head P x xs all) there)
    (λ b next. each_goes ok P part one xs b (All-tail P x xs all) next)

-- of which nothing is asked
all_go : {A X : Type 0} (ok : A → Type 0) (part : X → A → Part A) → ((x : X) (a : A) → ok a → Goes ok (part x a))
    → (xs : List X) (a : A) → ok a → Goes ok (each part xs a)
all_go ok part one xs a there =
    each_goes ok (λ x. Unit {0}) part (λ x b any next. one x b next) xs a (λ x k inside. tt) there

test_goes : {A : Type 0} (ok : A → Type 0) (test : Bool) (first other : Part A) → Goes ok first → Goes ok other
    → Goes ok (by_test test first other)
test_goes ok true first other so or_so = so
test_goes ok false first other so or_so = or_so

one_goes : (node : ℕ) (is : Event → Type 0) → Goes (λ (e : Event). Unit {0}) (One node is)
one_goes node is es out made = of made
  where
    of : {es : List Noted} {out : Came Event} → One node is es out → IfGoes (λ (e : Event). Unit {0}) out
    of not_made = tt
    of (cut_behind e i) = tt
    of (makes e i) = tt

-- ---- stages

module _ (nodes : List Node) where
  -- a stage with these nodes
  abbrev pub Has : Stage → Type 0
  Has s = s.nodes ≡ nodes

  rests : (s : Stage) → Has s → Goes Has (ends (To s))
  rests s has = ends_goes Has (To s) has

  event_with_goes : (node : ℕ) (is : Event → Type 0) (came : Event → Stage → Came Stage) (s : Stage)
      → ((e : Event) → IfGoes Has (came e (with_event node e s))) → Goes Has (event_with node is came s)
  event_with_goes node is came s next =
      then_goes (λ (e : Event). Unit {0}) Has (One node (IsAllowedNext s node is))
      (λ e. ends (came e (with_event node e s))) (one_goes node (IsAllowedNext s node is))
      (λ e there. ends_goes Has (came e (with_event node e s)) (next e))

  event_goes : (node : ℕ) (is : Event → Type 0) (s : Stage) → Has s → Goes Has (event node is s)
  event_goes node is s has = event_with_goes node is (λ e t. To t) s (λ e. has)

  -- what a turn came to
  abbrev Turned : {View : Type 0} → View × Stage → Type 0
  Turned r = Has r.1

  turn_goes : {View Ask : Type 0} (p : Program View Ask) (node : ℕ) (v : View) (s : Stage) → Has s
      → Goes Turned (Turn p node v s)
  turn_goes {View} {Ask} p node v s has es out made = of made has
    where
      of : {v : View} {s : Stage} {es : List Noted} {out : Came (View × Stage)} → Turn p node v s es out → Has s
          → IfGoes Turned out
      of (cut_there v s) has = tt
      of (is_over v s none) has = has
      of (goes v s a e es out asks allowed rest) has = of rest has
      of (is_endless v s es turn long) has = tt

  -- ---- deliveries, turns and clocks

  delivers_goes : (d : Datagram) (s : Stage) → Has s → Goes Has (delivers d s)
  delivers_goes d s has =
      all_go Has (comes_to d)
      (λ node t there.
      test_goes Has (is_for d t node) (event node (IsTaken d.from d.bytes) t) (ends (To t))
      (event_goes node (IsTaken d.from d.bytes) t there) (rests t there))
      (all_nodes s) s has

  dispatches_goes : (g : Handlers) (s : Stage) → Has s → Goes Has (dispatches g s)
  dispatches_goes g s has =
      then_goes Turned Has (Turn (dispatching g) 0 (accepts s.jobs) s) _
      (turn_goes (dispatching g) 0 (accepts s.jobs) s has) (λ r there. ends_goes Has _ there)

  turns_of_goes : (place : ℕ) (i : InvokedState) (s : Stage) → Has s → Goes Has (turns_of place i s)
  turns_of_goes place i s has =
      then_goes Turned Has (Turn (calling REPLY_BYTES) i.node (caller_begun i.caller) s) _
      (turn_goes (calling REPLY_BYTES) i.node (caller_begun i.caller) s has) (λ r there. ends_goes Has _ there)

  turns_where_goes : (place : ℕ) (o : Option InvokedState) (s : Stage) → Has s → Goes Has (turns_where place o s)
  turns_where_goes place None s has = rests s has
  turns_where_goes place (Some i) s has =
      test_goes Has (is_client i.node s) (turns_of place i s) (ends (To s)) (turns_of_goes place i s has) (rests s has)

  turns_goes : (g : Handlers) (s : Stage) → Has s → Goes Has (turns g s)
  turns_goes g s has =
      then_goes Has Has (dispatches g s) turns_all (dispatches_goes g s has)
      (λ t there.
      all_go Has turns_at (λ place u next. turns_where_goes place (slice_get u.callers place) u next)
      (below (length t.callers)) t there)

  moves_by_goes : (o : Option ℕ) (s : Stage) → Has s → Goes Has (moves_by o s)
  moves_by_goes None s has = rests s has
  moves_by_goes (Some time) s has =
      test_goes Has (not (time == 0) && may_move time s) (each (moves_on time) (clients_first s) s) (ends (To s))
      (all_go Has (moves_on time)
      (λ node t there. event_goes node (IsClocked (moment node t.history + time)) t there) (clients_first s) s has)
      (rests s has)

  settles_goes : (quiet : Bool) (s : Stage) → Has s → Goes Has (settles quiet s)
  settles_goes quiet s has =
      test_goes Has quiet (moves_by (least_wait s.nodes s.history) s) (ends (To s))
      (moves_by_goes (least_wait s.nodes s.history) s has) (rests s has)

  -- ---- polls

  polls_at_goes : (node : ℕ) (o : Option Host) (p : Polled) → Has p.stage
      → Goes (λ (q : Polled). Has q.stage) (polls_at node o p)
  polls_at_goes node None p has = ends_goes (λ (q : Polled). Has q.stage) (To p) has
  polls_at_goes node (Some from) p has =
      then_goes Turned (λ (q : Polled). Has q.stage)
      (Turn (polling from) node (record { again = true; given = p.given }) p.stage) _
      (turn_goes (polling from) node (record { again = true; given = p.given }) p.stage has)
      (λ r there. ends_goes (λ (q : Polled). Has q.stage) _ there)

  polls_goes : (s : Stage) → Has s → Goes (λ (q : Polled). Has q.stage) (polls s)
  polls_goes s has =
      all_go (λ (q : Polled). Has q.stage) polls_out
      (λ node p there. polls_at_goes node (host_at p.stage node) p there) (clients_first s)
      (record { stage = s; given = [] }) has

  -- ---- a lossy round behind its polls

  carries_goes : (g : Handlers) (words : Lcg) (held given : List Datagram) (s : Stage) → Has s
      → Goes (λ (net : Lossy). Has net.stage) (carries g words held given s)
  carries_goes g words held given s has =
      then_goes Has (λ (net : Lossy). Has net.stage) (each delivers (gathered comes (fated words given) ++ held) s) _
      (all_go Has delivers delivers_goes (gathered comes (fated words given) ++ held) s has)
      (λ t there.
      then_goes Has (λ (net : Lossy). Has net.stage) (turns g t) _ (turns_goes g t there)
      (λ u next.
      then_goes Has (λ (net : Lossy). Has net.stage) (settles ((length given == 0) && (length held == 0)) u) _
      (settles_goes ((length given == 0) && (length held == 0)) u next)
      (λ v last. ends_goes (λ (net : Lossy). Has net.stage) _ last)))

-- ---- the clients of a load

-- a client's number
abbrev IsNumber : ℕ → Type 0
IsNumber client = (not (client == 0) && nat_lt client (length load_nodes)) ≡ true

are_numbers : All IsNumber clients
are_numbers =
    All-cons IsNumber 1 (2 ∷ 3 ∷ 4 ∷ []) refl
    (All-cons IsNumber 2 (3 ∷ 4 ∷ []) refl
    (All-cons IsNumber 3 (4 ∷ []) refl (All-cons IsNumber 4 [] refl (All-nil IsNumber))))

-- it is found
client_goes : (client : ℕ) (next : ℕ → Stage → Part Stage) (s : Stage) → IsNumber client → Has load_nodes s
    → Goes (Has load_nodes) (next client s) → Goes (Has load_nodes) (at_client client next s)
client_goes client next s is has there =
    (let found : is_client client s ≡ true =
    subst (λ (ns : List Node). (not (client == 0) && nat_lt client (length ns)) ≡ true) (sym has) is in
    subst (λ b. Goes (Has load_nodes) (found_or causes.NoNode next (where_true b client) s)) (sym found) there)

connects_goes : (client : ℕ) (s : Stage) → IsNumber client → Has load_nodes s
    → Goes (Has load_nodes) (at_client client (connects 1) s)
connects_goes client s is has =
    client_goes client (connects 1) s is has (event_goes load_nodes client _ s has)

with_caller_has : (node line : ℕ) (bytes : List ℕ) (o : Option CallName) (s : Stage) → Has load_nodes s
    → Has load_nodes (with_caller node line bytes o s)
with_caller_has node line bytes None s has = has
with_caller_has node line bytes (Some name) s has = has

invokes_goes : (line cid : ℕ) (bytes : List ℕ) (client : ℕ) (s : Stage) → IsNumber client → Has load_nodes s
    → Goes (Has load_nodes) (at_client client (invokes line cid bytes) s)
invokes_goes line cid bytes client s is has =
    client_goes client (invokes line cid bytes) s is has
    (event_with_goes load_nodes client (IsInvoked cid bytes)
    (λ e t. To (with_caller client line bytes (name_called e) (with_called client e t))) s
    (λ e.
    with_caller_has client line bytes (name_called e) (with_called client e (with_event client e s)) has))

-- ---- loads

-- a load at the nodes of loads
abbrev pub HasNodes : Load → Type 0
HasNodes l = Has load_nodes l.net.stage

opens_number_goes : (client number : ℕ) (drawn : ℕ × Lcg) (l : Load) → IsNumber client → HasNodes l
    → Goes HasNodes (opens_number client number drawn l)
opens_number_goes client number drawn l is has =
    then_goes (Has load_nodes) HasNodes
    (at_client client (invokes number 4 (load_request number (body_length drawn.0))) l.net.stage) _
    (invokes_goes number 4 (load_request number (body_length drawn.0)) client l.net.stage is has)
    (λ s there. ends_goes HasNodes _ there)

opens_free_goes : (calls most client : ℕ) (l : Load) → IsNumber client → HasNodes l
    → Goes HasNodes (opens_free calls most client l)
opens_free_goes calls zero client l is has = ends_goes HasNodes (To l) has
opens_free_goes calls (suc most) client l is has =
    test_goes HasNodes (may_open calls client l) (Then (opens client l) (opens_free calls most client)) (ends (To l))
    (then_goes HasNodes HasNodes (opens client l) (opens_free calls most client)
    (opens_number_goes client (next_call l.next client) (pcg32 l.net.words) l is has)
    (λ m there. opens_free_goes calls most client m is there)) (ends_goes HasNodes (To l) has)

lossy_with_goes : (l : Load) → HasNodes l → Goes HasNodes (lossy_with l)
lossy_with_goes l has =
    then_goes (λ (p : Polled). Has load_nodes p.stage) HasNodes (polls l.net.stage) _
    (polls_goes load_nodes l.net.stage has)
    (λ p there.
    then_goes (λ (net : Lossy). Has load_nodes net.stage) HasNodes
    (carries load_handlers l.net.words l.net.held p.given p.stage) _
    (carries_goes load_nodes load_handlers l.net.words l.net.held p.given p.stage there)
    (λ net next. ends_goes HasNodes _ next))

load_round_goes : (calls : ℕ) (l : Load) → HasNodes l → Goes HasNodes (load_round calls l)
load_round_goes calls l has =
    then_goes HasNodes HasNodes (opens_all calls l) lossy_with
    (each_goes HasNodes IsNumber (opens_free calls 4)
    (λ client m is there. opens_free_goes calls 4 client m is there) clients l are_numbers has) lossy_with_goes

load_rounds_goes : (calls n : ℕ) (l : Load) → HasNodes l → Goes HasNodes (load_rounds calls n l)
load_rounds_goes calls zero l has = ends_goes HasNodes (To l) has
load_rounds_goes calls (suc n) l has =
    test_goes HasNodes (all_ended calls l) (ends (To l)) (Then (load_round calls l) (load_rounds calls n))
    (ends_goes HasNodes (To l) has)
    (then_goes HasNodes HasNodes (load_round calls l) (load_rounds calls n) (load_round_goes calls l has)
    (λ m there. load_rounds_goes calls n m there))

connects_all_goes : (l : Load) → HasNodes l → Goes HasNodes (connects_all l)
connects_all_goes l has =
    then_goes (Has load_nodes) HasNodes (each (λ client. at_client client (connects 1)) clients l.net.stage) _
    (each_goes (Has load_nodes) IsNumber (λ client. at_client client (connects 1)) connects_goes clients l.net.stage
    are_numbers has) (λ s there. ends_goes HasNodes _ there)

-- a load isn't refused
pub load_goes : (number calls : ℕ) → Goes HasNodes (load_part number calls)
load_goes number calls =
    then_goes HasNodes HasNodes (ends (To (load_begun number calls)))
    (λ l. Then (connects_all l) (load_rounds calls 1000000))
    (ends_goes HasNodes (To (load_begun number calls)) refl)
    (λ l has.
    then_goes HasNodes HasNodes (connects_all l) (load_rounds calls 1000000) (connects_all_goes l has)
    (λ m there. load_rounds_goes calls 1000000 m there))
