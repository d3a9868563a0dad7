-- Lines that make one event of what they name.
use Rattle.std.proofs.Common.{◌≡◌, ◌∙◌, ℕ, List, [], ◌∷◌, Bool, true, false, Option, Some, None, Result, Ok, Err}
use Rattle.std.proofs.Common.{refl, sym, subst, ap, arith, slice_get, inl, inr}
use Rattle.std.specs.Result.{IsErr, IsErrAnd}
use Rattle.rx_model.specs.declared.names.Host.{Host}
use Rattle.rx_model.specs.declared.event.Event.{Event}
use Rattle.rx_events.specs.Events.{IsLinked}
use Rattle.rx_joint.specs.Nodes.{IsNodeThere, Makes, NodesState, host_of}
use Rattle.rx_script.specs.declared.outcome.PlanWhy.{PlanWhy}
use Rattle.rx_script.specs.declared.outcome.PlanWhy.TheVariants as causes
use Rattle.rx_wire.specs.Turns.{noted}
use Rattle.rx_stage.specs.declared.stop.Stop.{Stop}
use Rattle.rx_stage.specs.declared.stop.Stop.TheVariants as stops
use Rattle.rx_stage.specs.LinesPlayed.{Found}
use Rattle.rx_plan.specs.Finds.{found_or}
use Rattle.rx_jobs.specs.Handlers.{Handlers}
use Rattle.rx_script.specs.declared.plan.PlanLine.{PlanLine}
use Rattle.rx_plan.specs.Lines.{connects, line_part}
use Rattle.rx_plan.specs.Parts.{Came, Refused, Cut, One, Part, by_test, each, ends}
use Rattle.rx_stage.specs.Ran.{Ran, fits_wants}
use Rattle.rx_plan.specs.Parts.{not_made}
use Rattle.rx_stage.specs.Ran.{stop_of}
use Rattle.rx_plan.specs.Stages.{IsAllowedNext, Stage, event, event_with, host_at}
use Rattle.rx_stage.specs.Shown.{Plays, Shows, WorldState}
use Rattle.rx_plan.specs.Stages.{service_of}
use Rattle.rx_plan.specs.Stages.{with_event}
use Rattle.rx_stage.specs.Tells.{IsTold, Told, wants_more}
use Rattle.rx_stage.proofs.Finding.{host_shown}
use Rattle.rx_stage.proofs.Running.{ran_none, ran_one, ran_refused, ran_stops, ran_then, ran_wants}
use Rattle.rx_stage.proofs.Stepping.{event_plays, made_here, shown_behind}

-- ---- an event, and what a run comes to by it

module _ (w : WorldState) (nodes : NodesState) (new : WorldState) (node : ℕ) (is : Stage → Event → Type 0)
    (came : Stage → Event → Stage → Came Stage) (e : Event) (stop : Stop) (a b : Told) where
  -- a call was made, and the run ended as it was told
  pub event_ends : Makes w.nodes nodes node e → ((s : Stage) → Shows w s → is s e)
      → IsTold (Some stop) a b (noted node e) → Plays (λ s. event_with node (is s) (came s) s) w new (Some stop) a b
  event_ends made asked told s shown =
      ran_stops (One node (IsAllowedNext s node (is s))) (λ x. ends (came s x (with_event node x s))) (λ x. x ≡ e)
      (Shows new) stop a b
      (ran_one node (IsAllowedNext s node (is s)) e (Some stop) a b
      (made_here w s nodes node (is s) e shown made (asked s shown)) told)

-- memory was wanted before the call
pub event_lacks : (w new : WorldState) (node : ℕ) (is : Stage → Event → Type 0)
    (came : Stage → Event → Stage → Came Stage) (stop : Stop) (t : Told) → stop ≡ stops.OutOfMemory
    → Plays (λ s. event_with node (is s) (came s) s) w new (Some stop) t t
event_lacks w new node is came stop t wants s shown =
    subst (λ why. Ran (event_with node (is s) (came s) s) (Shows new) (Some why) t t) (sym wants)
    (ran_stops (One node (IsAllowedNext s node (is s))) (λ x. ends (came s x (with_event node x s))) (λ x. ⊥)
    (Shows new) stops.OutOfMemory t t (ran_none node (IsAllowedNext s node (is s)) (λ x. ⊥) t))

module _ (w : WorldState) (nodes : NodesState) (new : WorldState) (node : ℕ) (is : Stage → Event → Type 0)
    (came : Stage → Event → Stage → Came Stage) (e : Event) (stop : Option Stop) (a b : Told) where
  -- a call was made and told, and then this was come to
  pub event_comes : Makes w.nodes nodes node e → IsNodeThere w.nodes node → ((s : Stage) → Shows w s → is s e)
      → IsTold None a b (noted node e)
      → ((s t : Stage) → Shows w s → Shows (record w { nodes = nodes }) t
      → Ran (ends (came s e t)) (Shows new) stop b b)
      → Plays (λ s. event_with node (is s) (came s) s) w new stop a b
  event_comes made there asked told next s shown =
      ran_then (One node (IsAllowedNext s node (is s))) (λ x. ends (came s x (with_event node x s))) (λ x. x ≡ e)
      (Shows new) stop a b b
      (ran_one node (IsAllowedNext s node (is s)) e None a b
      (made_here w s nodes node (is s) e shown made (asked s shown)) told)
      (λ x same. subst (λ y. Ran (ends (came s y (with_event node y s))) (Shows new) stop b b) (sym same)
      (next s (with_event node e s) shown (shown_behind w s nodes node e shown made there)))

-- ---- what a line names

-- it isn't there
pub found_stops : {X : Type 0} (why : PlanWhy) (next : X → Stage → Part Stage) (sought : Stage → Option X)
    (w new : WorldState) (stop : Stop) (t : Told) → ((s : Stage) → Shows w s → Found (sought s) why (Err stop))
    → Plays (λ s. found_or why next (sought s) s) w new (Some stop) t t
found_stops why next sought w new stop t found s shown =
    subst (λ st. Ran (found_or why next (sought s) s) (Shows new) (Some st) t t) (sym (found s shown).1)
    (subst (λ o. Ran (found_or why next o s) (Shows new) (Some (stops.Refused why)) t t) (sym (found s shown).0)
    (ran_refused (Shows new) why t))

-- it is there
pub found_goes : {X : Type 0} (why : PlanWhy) (next : X → Stage → Part Stage) (sought : Stage → Option X) (x : X)
    (w new : WorldState) (stop : Option Stop) (a b : Told) → ((s : Stage) → Shows w s → Found (sought s) why (Ok x))
    → Plays (next x) w new stop a b → Plays (λ s. found_or why next (sought s) s) w new stop a b
found_goes why next sought x w new stop a b found plays s shown =
    subst (λ o. Ran (found_or why next o s) (Shows new) stop a b) (sym (found s shown)) (plays s shown)

-- ---- choices

-- a test that holds
pub where_holds : (test : Stage → Bool) (first other : Stage → Part Stage) (w new : WorldState) (stop : Option Stop)
    (a b : Told) → ((s : Stage) → Shows w s → test s ≡ true) → Plays first w new stop a b
    → Plays (λ s. by_test (test s) (first s) (other s)) w new stop a b
where_holds test first other w new stop a b holds plays s shown =
    subst (λ v. Ran (by_test v (first s) (other s)) (Shows new) stop a b) (sym (holds s shown)) (plays s shown)

-- a test that fails
pub where_fails : (test : Stage → Bool) (first other : Stage → Part Stage) (w new : WorldState) (stop : Option Stop)
    (a b : Told) → ((s : Stage) → Shows w s → test s ≡ false) → Plays other w new stop a b
    → Plays (λ s. by_test (test s) (first s) (other s)) w new stop a b
where_fails test first other w new stop a b fails plays s shown =
    subst (λ v. Ran (by_test v (first s) (other s)) (Shows new) stop a b) (sym (fails s shown)) (plays s shown)

-- ---- a run may be cut off first

-- memory is wanted before anything is made
pub cut_off : {A : Type 0} (part : Part A) (shows : A → Type 0) (stop : Stop) (t : Told) → part [] Cut
    → stop ≡ stops.OutOfMemory → Ran part shows (Some stop) t t
cut_off part shows stop t cut wants =
    subst (λ st. Ran part shows (Some st) t t) (sym wants)
    (record { events = []; came = Cut; made = cut; fits = fits_wants t t [] (wants_more t) })

pub event_cut : (node : ℕ) (is : Event → Type 0) (s : Stage) → event node is s [] Cut
event_cut node is s =
    record { front = []; rest = []; are = refl; came = Cut; made = not_made; goes = (refl, inl refl) }

pub each_cut : {A X : Type 0} (part : X → A → Part A) → ((x : X) (a : A) → part x a [] Cut) → (xs : List X) (a : A)
    → each part xs a [] Cut
each_cut part cut [] a = (refl, inr refl)
each_cut part cut (x ∷ xs) a =
    record { front = []; rest = []; are = refl; came = Cut; made = cut x a; goes = (refl, inl refl) }

-- ---- why a method ends the run

-- for the cause that it was told
pub stop_is : (r : Result (Unit {0}) Stop) (why : Stop) → IsErr r × IsErrAnd r (λ stop. stop ≡ why)
    → stop_of r ≡ Some why
stop_is (Ok x) why was = elim was.1 [ ]
stop_is (Err stop) why was = ap Some was.1

-- what the line names isn't there
pub names_none : {X : Type 0} (why : PlanWhy) (next : X → Stage → Part Stage) (sought : Stage → Option X)
    (w new : WorldState) (r : Result (Unit {0}) Stop) (stop : Stop) (t : Told)
    → IsErr r × IsErrAnd r (λ x. x ≡ stop) → ((s : Stage) → Shows w s → Found (sought s) why (Err stop))
    → Plays (λ s. found_or why next (sought s) s) w new (stop_of r) t t
names_none why next sought w new r stop t was found =
    subst (λ o. Plays (λ s. found_or why next (sought s) s) w new o t t) (sym (stop_is r stop was))
    (found_stops why next sought w new stop t found)

-- it is there, and memory was wanted
pub names_wants : {X : Type 0} (why : PlanWhy) (next : X → Stage → Part Stage) (sought : Stage → Option X) (x : X)
    (w new : WorldState) (r : Result (Unit {0}) Stop) (t : Told)
    → IsErr r × IsErrAnd r (λ stop. stop ≡ stops.OutOfMemory) → ((s : Stage) → Shows w s → Found (sought s) why (Ok x))
    → ((s : Stage) → next x s [] Cut) → Plays (λ s. found_or why next (sought s) s) w new (stop_of r) t t
names_wants why next sought x w new r t was found cut =
    subst (λ o. Plays (λ s. found_or why next (sought s) s) w new o t t) (sym (stop_is r stops.OutOfMemory was))
    (found_goes why next sought x w new (Some stops.OutOfMemory) t t found
    (λ s shown. cut_off (next x s) (Shows new) stops.OutOfMemory t (cut s) refl))

-- memory was wanted before anything was made
pub cut_as : (part : Stage → Part Stage) (w new : WorldState) (r : Result (Unit {0}) Stop) (stop : Stop) (t : Told)
    → IsErr r × IsErrAnd r (λ x. x ≡ stop) → stop ≡ stops.OutOfMemory → ((s : Stage) → part s [] Cut)
    → Plays part w new (stop_of r) t t
cut_as part w new r stop t was wants cut =
    subst (λ o. Plays part w new o t t) (sym (stop_is r stop was))
    (λ s shown. cut_off (part s) (Shows new) stop t (cut s) wants)

-- ---- methods

module _ (node : ℕ) (is : Stage → Event → Type 0) (e : Event) (i w new : WorldState) (nodes : NodesState)
    (stop : Option Stop) (a b : Told) where
  -- a call was made and told, from the parts of what a run keeps
  pub event_told : i ≡ w → new ≡ record i { nodes = nodes } → Makes i.nodes nodes node e → IsNodeThere w.nodes node
      → ((s : Stage) → Shows w s → is s e) → IsTold stop a b (noted node e)
      → Plays (λ s. event node (is s) s) w new stop a b
  event_told parts same made there asked told s shown =
      subst (λ v. Ran (event node (is s) s) (Shows v) stop a b)
      (ap (λ (v : WorldState). record v { nodes = nodes }) (sym parts) ∙ sym same)
      (event_plays w nodes node (is s) e stop a b (subst (λ (v : WorldState). Makes v.nodes nodes node e) parts made)
      there
      (asked s shown) told s shown)

-- the client of a connection, as the law of its event says
pub linked_shown : (i w : WorldState) (to : Host) (first : ℕ) (e : Event) → i ≡ w → to ≡ host_of i.nodes 0
    → IsLinked to i.service first e → (s : Stage) → Shows w s
    → (h : Host) × (host_at s 0 ≡ Some h) × IsLinked h (service_of (slice_get s.nodes 0)) first e
linked_shown i w to first e parts is linked s shown = (
  to,
  host_shown w s 0 shown (omega arith) ∙ ap Some (sym (is ∙ ap (λ (v : WorldState). host_of v.nodes 0) parts)),
  subst (λ sv. IsLinked to sv first e) (ap (λ (v : WorldState). v.service) parts ∙ shown.service) linked,
)

module _ (node : ℕ) (to : Host) (first : ℕ) (e : Event) (i w new : WorldState) (nodes : NodesState) (stop : Option Stop)
    (a b : Told) where
  -- a connection was made and told
  pub link_told : i ≡ w → new ≡ record i { nodes = nodes } → Makes i.nodes nodes node e → IsNodeThere w.nodes node
      → to ≡ host_of i.nodes 0 → IsLinked to i.service first e → IsTold stop a b (noted node e)
      → Plays (connects first node) w new stop a b
  link_told parts same made there host linked told =
      event_told node
      (λ s x. (h : Host) × (host_at s 0 ≡ Some h) × IsLinked h (service_of (slice_get s.nodes 0)) first x) e i w new
      nodes
      stop a b parts same made there (linked_shown i w to first e parts host linked) told

module _ (node : ℕ) (is : Stage → Event → Type 0) (came : Stage → Event → Stage → Came Stage) (e : Event)
    (i w new : WorldState) (nodes : NodesState) (r : Result (Unit {0}) Stop) (stop : Stop) (a b : Told) where
  -- a call was made, and the run ended as it was told
  pub event_stopped : i ≡ w → Makes i.nodes nodes node e → ((s : Stage) → Shows w s → is s e)
      → IsTold (Some stop) a b (noted node e) → IsErr r × IsErrAnd r (λ x. x ≡ stop)
      → Plays (λ s. event_with node (is s) (came s) s) w new (stop_of r) a b
  event_stopped parts made asked told was =
      subst (λ o. Plays (λ s. event_with node (is s) (came s) s) w new o a b) (sym (stop_is r stop was))
      (event_ends w nodes new node is came e stop a b
      (subst (λ (v : WorldState). Makes v.nodes nodes node e) parts made)
      asked told)

module _ (node : ℕ) (is : Stage → Event → Type 0) (came : Stage → Event → Stage → Came Stage) (e : Event)
    (i w m new : WorldState) (nodes : NodesState) (stop : Option Stop) (a b : Told) where
  -- a call was made and told, and then this was come to
  pub event_kept : i ≡ w → m ≡ record i { nodes = nodes } → Makes i.nodes nodes node e → IsNodeThere w.nodes node
      → ((s : Stage) → Shows w s → is s e) → IsTold None a b (noted node e)
      → ((s t : Stage) → Shows w s → Shows m t → Ran (ends (came s e t)) (Shows new) stop b b)
      → Plays (λ s. event_with node (is s) (came s) s) w new stop a b
  event_kept parts same made there asked told next =
      event_comes w nodes new node is came e stop a b
      (subst (λ (v : WorldState). Makes v.nodes nodes node e) parts made)
      there asked told
      (λ s t shown after. next s t shown (subst (λ v. Shows v t)
      (ap (λ (v : WorldState). record v { nodes = nodes }) (sym parts) ∙ sym same) after))

module _ (node : ℕ) (is : Stage → Event → Type 0) (came : Stage → Event → Stage → Came Stage) (e : Event)
    (i w new : WorldState) (nodes : NodesState) (r : Result (Unit {0}) Stop) (a b : Told) where
  -- a call was made and told, and then memory was wanted
  pub event_unkept : i ≡ w → Makes i.nodes nodes node e → IsNodeThere w.nodes node → ((s : Stage) → Shows w s → is s e)
      → IsTold None a b (noted node e) → IsErr r × IsErrAnd r (λ stop. stop ≡ stops.OutOfMemory)
      → Plays (λ s. event_with node (is s) (came s) s) w new (stop_of r) a b
  event_unkept parts made there asked told was =
      subst (λ o. Plays (λ s. event_with node (is s) (came s) s) w new o a b) (sym (stop_is r stops.OutOfMemory was))
      (event_kept node is came e i w (record i { nodes = nodes }) new nodes (Some stops.OutOfMemory) a b parts refl made
      there asked told (λ s t shown after. ran_wants (Shows new) (came s e t) b))

-- memory was wanted before the call
pub event_lacks_as : (node : ℕ) (is : Stage → Event → Type 0) (came : Stage → Event → Stage → Came Stage)
    (w new : WorldState) (r : Result (Unit {0}) Stop) (t : Told) → IsErr r × IsErrAnd r (λ stop. stop
    ≡ stops.OutOfMemory)
    → Plays (λ s. event_with node (is s) (came s) s) w new (stop_of r) t t
event_lacks_as node is came w new r t was =
    subst (λ o. Plays (λ s. event_with node (is s) (came s) s) w new o t t) (sym (stop_is r stops.OutOfMemory was))
    (event_lacks w new node is came stops.OutOfMemory t refl)

-- the server is there
pub server_there : (n : NodesState) → IsNodeThere n 0
server_there n = omega arith

-- memory is wanted before what a line names is looked for
pub named_cut : {X : Type 0} (why : PlanWhy) (next : X → Stage → Part Stage) (sought : Stage → Option X)
    → ((x : X) (s : Stage) → next x s [] Cut) → (s : Stage) → found_or why next (sought s) s [] Cut
named_cut {X} why next sought cut s = of (sought s)
  where
    of : (o : Option X) → found_or why next o s [] Cut
    of None = (refl, inr refl)
    of (Some x) = cut x s

-- before an event
pub event_with_cut : (node : ℕ) (is : Event → Type 0) (came : Event → Stage → Came Stage) (s : Stage)
    → event_with node is came s [] Cut
event_with_cut node is came s =
    record { front = []; rest = []; are = refl; came = Cut; made = not_made; goes = (refl, inl refl) }

-- ---- lines

-- a line that is this one
pub line_is : (g : Handlers) (place : ℕ) (l m : PlanLine) (w new : WorldState) (stop : Option Stop) (a b : Told) → l ≡ m
    → Plays (line_part g place m) w new stop a b → Plays (line_part g place l) w new stop a b
line_is g place l m w new stop a b same plays =
    subst (λ k. Plays (line_part g place k) w new stop a b) (sym same) plays

-- a line that makes a node is late
pub late_line : (w : WorldState) (t : Told) → Plays (λ s. ends (Refused causes.Late)) w w (Some (stops.Refused
    causes.Late)) t t
late_line w t s shown = ran_refused (Shows w) causes.Late t

-- bytes that are these
pub bytes_are : (part : List ℕ → Stage → Part Stage) (given bytes : List ℕ) (w new : WorldState) (stop : Option Stop)
    (a b : Told) → given ≡ bytes → Plays (part given) w new stop a b → Plays (part bytes) w new stop a b
bytes_are part given bytes w new stop a b same plays = subst (λ bs. Plays (part bs) w new stop a b) same plays
