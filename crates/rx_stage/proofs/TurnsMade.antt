-- Turns of the dispatcher and of callers, from what is kept to what is kept.
use Rattle.std.proofs.Common.{◌≡◌, ◌≢◌, ◌∙◌, ◌<◌, ◌≤◌, ◌⊎◌, ◌+◌, ◌==◌, ◌&&◌, not, ℕ, List}
use Rattle.std.proofs.Common.{true, false}
use Rattle.std.proofs.Common.{Option, Some, None, refl, inl, inr, sym, subst, ap, length, set}
use Rattle.std.proofs.Common.{get_or, arith}
use Rattle.std.specs.Prelude.{nat_lt, slice_get}
use Rattle.std.proofs.lemmas.Bool.Decides.{nat_tests}
use Rattle.rx_asks.specs.Asks.{begun as caller_begun, calling}
use Rattle.rx_asks.specs.declared.ask.TheConstants.{REPLY_BYTES}
use Rattle.rx_asks.specs.View.{CallerState}
use Rattle.rx_jobs.specs.Dispatching.{Turning, accepts, dispatching, over}
use Rattle.rx_jobs.specs.Handlers.{Handlers}
use Rattle.rx_jobs.specs.Jobs.{JobState}
use Rattle.rx_dispatch.specs.States.{state_of}
use Rattle.rx_dispatch.specs.declared.dispatcher.Dispatcher.{Dispatcher}
use Rattle.rx_joint.specs.Nodes.{IsClientThere, NodesState}
use Rattle.rx_joint.proofs.Lent.{read_some}
use Rattle.rx_script.specs.Saying.{Answering}
use Rattle.rx_stage.specs.declared.stop.Stop.{Stop}
use Rattle.rx_stage.specs.Ran.{Ran}
use Rattle.rx_plan.specs.Parts.{To, by_test, ends}
use Rattle.rx_stage.specs.TurnsPlayed.{Knows, PlaysTurn}
use Rattle.rx_plan.specs.Programs.{Turn}
use Rattle.rx_plan.specs.Stages.{InvokedState, Stage}
use Rattle.rx_stage.specs.Shown.{Plays, Shows, WorldState, jobs_of, script_of}
use Rattle.rx_stage.specs.Shown.{stage_of}
use Rattle.rx_stage.specs.Tells.{Told}
use Rattle.rx_plan.specs.Turned.{dispatches, is_of, jobs_left, turns_at, turns_for, turns_of}
use Rattle.rx_plan.specs.Turned.{turns_where}
use Rattle.rx_stage.proofs.Following.{ran_as}
use Rattle.rx_stage.proofs.Numbers.{length_shown}
use Rattle.rx_stage.proofs.Running.{ran_to}

-- ---- what is shown

jobs_shown : (w : WorldState) (s : Stage) → Shows w s → s.jobs ≡ jobs_of w
jobs_shown w s shown = ap (λ (t : Stage). t.jobs) shown.is

pub callers_shown : (w : WorldState) (s : Stage) → Shows w s → s.callers ≡ w.callers
callers_shown w s shown = ap (λ (t : Stage). t.callers) shown.is

-- with other jobs
with_jobs : (w : WorldState) (d : Dispatcher) (s : Stage) (jobs : List JobState) → Shows w s
    → jobs ≡ (state_of d).round.jobs → Shows (record w { dispatcher = d }) (record s { jobs = jobs })
with_jobs w d s jobs shown same =
    record {
      is = ap (λ (t : Stage). record t { jobs = jobs }) shown.is
          ∙ ap (λ js. record (stage_of w s.history) { jobs = js }) same;
      standing = shown.standing;
      service = shown.service;
      of_nodes = shown.of_nodes;
      few = shown.few;
    }

-- with other callers
with_callers : (w : WorldState) (s : Stage) (callers given : List InvokedState) → Shows w s → callers ≡ given
    → Shows (record w { callers = given }) (record s { callers = callers })
with_callers w s callers given shown same =
    record {
      is = ap (λ (t : Stage). record t { callers = callers }) shown.is
          ∙ ap (λ is. record (stage_of w s.history) { callers = is }) same;
      standing = shown.standing;
      service = shown.service;
      of_nodes = shown.of_nodes;
      few = shown.few;
    }

-- ---- the dispatcher

-- a turn of it
dispatched : (g : Handlers) (w : WorldState) (nodes : NodesState) (d : Dispatcher) (stop : Option Stop) (a b : Told)
    → PlaysTurn (dispatching g) 0 (accepts (jobs_of w)) (over (state_of d).round.jobs) w.nodes nodes stop a b
    → Plays (dispatches g) w (record w { nodes = nodes; dispatcher = d }) stop a b
dispatched g w nodes d stop a b turn s shown =
    ran_as (Turn (dispatching g) 0 (accepts s.jobs) s)
    (λ (r : Turning × Stage). record r.1 { jobs = jobs_left r.0 })
    (λ r. Knows (over (state_of d).round.jobs) (record w { nodes = nodes }) r.0 r.1)
    (Shows (record w { nodes = nodes; dispatcher = d })) stop a b
    (subst (λ js. Ran (Turn (dispatching g) 0 (accepts js) s)
    (λ r. Knows (over (state_of d).round.jobs) (record w { nodes = nodes }) r.0 r.1) stop a b)
    (sym (jobs_shown w s shown)) (turn w refl s shown))
    (λ r known. with_jobs (record w { nodes = nodes }) d r.1 (jobs_left r.0) known.1 (ap jobs_left known.0))

-- the same of what a run keeps
pub dispatch_plays : (hs : List Answering → Handlers) (w old : WorldState) (nodes : NodesState) (d : Dispatcher)
    (stop : Option Stop) (a b : Told) → w ≡ old
    → PlaysTurn (dispatching (hs (script_of w))) 0 (accepts (jobs_of w)) (over (state_of d).round.jobs) w.nodes nodes
    stop a b
    → Plays (dispatches (hs (script_of old))) old (record w { nodes = nodes; dispatcher = d }) stop a b
dispatch_plays hs w old nodes d stop a b is turn =
    subst (λ (u : WorldState). Plays (dispatches (hs (script_of u))) u (record w { nodes = nodes; dispatcher = d })
    stop a b) is (dispatched (hs (script_of w)) w nodes d stop a b turn)

-- ---- a caller

-- a client that is there is one
client_test : (node n : ℕ) → 1 ≤ node → node < n → (not (node == 0) && nat_lt node n) ≡ true
client_test node n some low = grind (arith, nat_tests)

-- another number isn't
other_test : (node n : ℕ) → (node ≡ 0) ⊎ (n ≤ node) → (not (node == 0) && nat_lt node n) ≡ false
other_test node n (inl is) = grind (arith, nat_tests)
other_test node n (inr high) = grind (arith, nat_tests)

-- what is there is one thing
some_same : (i j : InvokedState) → Some i ≡ Some j → i ≡ j
some_same i j same = cc (same)

-- a turn of a caller on its client
called : (w : WorldState) (place : ℕ) (i : InvokedState) (now : CallerState) (nodes : NodesState)
    (callers : List InvokedState) (stop : Option Stop) (a b : Told)
    → callers ≡ set w.callers place (record i { caller = now })
    → PlaysTurn (calling REPLY_BYTES) i.node (caller_begun i.caller) now w.nodes nodes stop a b
    → Plays (turns_of place i) w (record w { nodes = nodes; callers = callers }) stop a b
called w place i now nodes callers stop a b same turn s shown =
    ran_as (Turn (calling REPLY_BYTES) i.node (caller_begun i.caller) s)
    (λ (r : CallerState × Stage). record r.1 { callers = set s.callers place (record i { caller = r.0 }) })
    (λ r. Knows now (record w { nodes = nodes }) r.0 r.1) (Shows (record w { nodes = nodes; callers = callers }))
    stop a b
    (turn w refl s shown)
    (λ r known. with_callers (record w { nodes = nodes }) r.1 (set s.callers place (record i { caller = r.0 })) callers
    known.1 (ap (λ cs. set cs place (record i { caller = r.0 })) (callers_shown w s shown)
    ∙ (ap (λ x. set w.callers place (record i { caller = x })) known.0 ∙ sym same)))

-- what is at a place
at_place : (w : WorldState) (place : ℕ) (i : InvokedState) (s : Stage) → slice_get w.callers place ≡ Some i → Shows w s
    → slice_get s.callers place ≡ Some i
at_place w place i s there shown = ap (λ cs. slice_get cs place) (callers_shown w s shown) ∙ there

module _ (w old : WorldState) (place : ℕ) (i : InvokedState) (now : CallerState) (nodes : NodesState)
    (callers : List InvokedState) (stop : Option Stop) (a b : Told) where
  -- a turn of the caller at a place, where its client is there
  pub caller_plays : w ≡ old → slice_get w.callers place ≡ Some i
      → callers ≡ set w.callers place (record i { caller = now }) → IsClientThere w.nodes i.node
      → PlaysTurn (calling REPLY_BYTES) i.node (caller_begun i.caller) now w.nodes nodes stop a b
      → Plays (turns_at place) old (record w { nodes = nodes; callers = callers }) stop a b
  caller_plays is at same there turn =
      subst (λ (u : WorldState). Plays (turns_at place) u (record w { nodes = nodes; callers = callers }) stop a b) is
      of
    where
      of : Plays (turns_at place) w (record w { nodes = nodes; callers = callers }) stop a b
      of s shown =
          subst (λ o. Ran (turns_where place o s) (Shows (record w { nodes = nodes; callers = callers })) stop a b)
          (sym (at_place w place i s at shown))
          (subst (λ x. Ran (by_test x (turns_of place i s) (ends (To s)))
          (Shows (record w { nodes = nodes; callers = callers })) stop a b)
          (sym (client_test i.node (length s.nodes) there.0
          (let long : length s.nodes ≡ length w.nodes.clients + 1 = length_shown w s (length w.nodes.clients + 1) shown
          refl in
          omega (arith, there.1, long))))
          (called w place i now nodes callers stop a b same turn s shown))

-- its client isn't there: nothing is made
pub caller_rests : (w : WorldState) (place : ℕ) (i : InvokedState) (t : Told) → slice_get w.callers place ≡ Some i
    → (i.node ≡ 0) ⊎ (length w.nodes.clients < i.node) → Plays (turns_at place) w w None t t
caller_rests w place i t at apart s shown =
    subst (λ o. Ran (turns_where place o s) (Shows w) None t t) (sym (at_place w place i s at shown))
    (subst (λ x. Ran (by_test x (turns_of place i s) (ends (To s))) (Shows w) None t t)
    (sym (other_test i.node (length s.nodes) (of apart))) (ran_to (Shows w) s t shown))
  where
    of : (i.node ≡ 0) ⊎ (length w.nodes.clients < i.node) → (i.node ≡ 0) ⊎ (length s.nodes ≤ i.node)
    of (inl is) = inl is
    of (inr high) =
        (let long : length s.nodes ≡ length w.nodes.clients + 1 = length_shown w s (length w.nodes.clients + 1) shown
        refl in
        inr (omega (arith, high, long)))

-- what the code reads of a list is there, and is seen so
seen_at : (callers : List InvokedState) (place : ℕ) (i seen : InvokedState) → place < length callers → seen ≡ i
    → i ≡ get_or callers place i → slice_get callers place ≡ Some seen
seen_at callers place i seen low is read = read_some callers place i low read ∙ ap Some (sym is)

module _ (w old : WorldState) (place : ℕ) (i read j written : InvokedState) (now : CallerState) (nodes : NodesState)
    (callers : List InvokedState) (stop : Option Stop) (a b : Told) where
  -- a caller's turn is made, of which the code read the client before
  pub caller_made : w ≡ old → place < length old.callers → read ≡ i → i ≡ get_or w.callers place i → written ≡ j
      → j ≡ get_or w.callers place j → read.node ≢ 0 → read.node ≤ length w.nodes.clients
      → callers ≡ set w.callers place (record written { caller = now })
      → PlaysTurn (calling REPLY_BYTES) read.node (caller_begun written.caller) now w.nodes nodes stop a b
      → Plays (turns_at place) old (record w { nodes = nodes; callers = callers }) stop a b
  caller_made is low sees reads shows writes some within same
      turn =
      (let here : place < length w.callers = subst (λ (u : WorldState). place < length u.callers) (sym is) low in
      let first : slice_get w.callers place ≡ Some read = seen_at w.callers place i read here sees reads in
      let next : slice_get w.callers place ≡ Some written = seen_at w.callers place j written here shows writes in
      let one : read ≡ written = some_same read written (sym first ∙ next) in
      caller_plays w old place written now nodes callers stop a b is next same
      (subst (λ (x : InvokedState). IsClientThere w.nodes x.node) one (omega (arith, some), within))
      (subst (λ (x : InvokedState). PlaysTurn (calling REPLY_BYTES) x.node (caller_begun written.caller) now w.nodes
      nodes
      stop a b) one turn))

-- no turn of it is made
pub caller_unmade : (w old : WorldState) (place : ℕ) (i read : InvokedState) (t : Told) → w ≡ old
    → place < length old.callers → read ≡ i → i ≡ get_or w.callers place i
    → (read.node ≡ 0) ⊎ (length w.nodes.clients < read.node) → Plays (turns_at place) old old None t t
caller_unmade w old place i read t is low sees reads apart =
    (let here : place < length w.callers = subst (λ (u : WorldState). place < length u.callers) (sym is) low in
    subst (λ (u : WorldState). Plays (turns_at place) u u None t t) is
    (caller_rests w place read t (seen_at w.callers place i read here sees reads) apart))

-- ---- the callers of a client

-- it is this client's
pub own_plays : (node place : ℕ) (w new : WorldState) (i : InvokedState) (stop : Option Stop) (a b : Told)
    → slice_get w.callers place ≡ Some i → i.node ≡ node → Plays (turns_at place) w new stop a b
    → Plays (turns_for node place) w new stop a b
own_plays node place w new i stop a b at own plays s shown =
    subst (λ x. Ran (by_test x (turns_at place s) (ends (To s))) (Shows new) stop a b)
    (sym (ap (is_of node) (at_place w place i s at shown) ∙ (let k : (i.node == node) ≡ true = grind (
      arith,
      nat_tests,
    ) in k)))
    (plays s shown)

-- it isn't
pub other_rests : (node place : ℕ) (w : WorldState) (i : InvokedState) (t : Told) → slice_get w.callers place ≡ Some i
    → i.node ≢ node → Plays (turns_for node place) w w None t t
other_rests node place w i t at other s shown =
    subst (λ x. Ran (by_test x (turns_at place s) (ends (To s))) (Shows w) None t t)
    (sym (ap (is_of node) (at_place w place i s at shown)
    ∙ (let k : (i.node == node) ≡ false = grind (arith, nat_tests, other) in k))) (ran_to (Shows w) s t shown)

module _ (node place : ℕ) (w old new : WorldState) (i read : InvokedState) (stop : Option Stop) (a b : Told) where
  -- the same of what the code read
  pub own_made : w ≡ old → place < length old.callers → read ≡ i → i ≡ get_or w.callers place i → read.node ≡ node
      → Plays (turns_at place) old new stop a b → Plays (turns_for node place) old new stop a b
  own_made is low sees reads own plays =
      own_plays node place old new read stop a b
      (subst (λ (u : WorldState). slice_get u.callers place ≡ Some read) is
      (seen_at w.callers place i read (subst (λ (u : WorldState). place < length u.callers) (sym is) low) sees reads))
      own plays

pub other_unmade : (node place : ℕ) (w old : WorldState) (i read : InvokedState) (t : Told) → w ≡ old
    → place < length old.callers → read ≡ i → i ≡ get_or w.callers place i → read.node ≢ node
    → Plays (turns_for node place) old old None t t
other_unmade node place w old i read t is low sees reads other =
    other_rests node place old read t
    (subst (λ (u : WorldState). slice_get u.callers place ≡ Some read) is
    (seen_at w.callers place i read (subst (λ (u : WorldState). place < length u.callers) (sym is) low) sees reads))
    other
