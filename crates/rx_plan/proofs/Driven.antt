-- What holds behind each event of a driven plan: of what callers and handlers make, and of what else happens.
use Rattle.std.proofs.Common.{◌≡◌, ◌==◌, ◌&&◌, ℕ, zero, suc, List, []}
use Rattle.std.proofs.Common.{◌∷◌, ◌++◌, set, Some, None, Ok, Err, refl, subst, ap}
use Rattle.std.proofs.Common.{◌+◌, if◌then◌else◌, slice_get}
use Rattle.rx_model.specs.declared.event.Event.{Event}
use Rattle.rx_model.specs.declared.event.Event.TheVariants as events
use Rattle.rx_model.specs.declared.event.Noted.{Noted}
use Rattle.rx_model.specs.declared.names.CallName.{CallName}
use Rattle.hex.specs.Hex.{IsBytes}
use Rattle.rx_asks.specs.Asks.{Asking, IsAsked as IsAskedOf, begun as caller_begun, calling, heard}
use Rattle.rx_asks.specs.View.{CallerState, caller_for}
use Rattle.rx_asks.specs.declared.ask.TheConstants.{REPLY_BYTES}
use Rattle.rx_jobs.specs.Dispatching.{Turning, accepts, dispatching, over}
use Rattle.rx_jobs.specs.Handlers.{Handlers}
use Rattle.rx_jobs.specs.Jobs.{Ask, IsCall, JobState}
use Rattle.rx_history.specs.Sides.{Node}
use Rattle.rx_events.specs.Events.{IsCalled}
use Rattle.rx_events.specs.Joint.{IsAllowedAt}
use Rattle.rx_wire.specs.Turns.{noted}
use Rattle.rx_plan.specs.Lines.{IsInvoked, invokes}
use Rattle.rx_plan.specs.Lines.{with_called, with_caller}
use Rattle.rx_plan.specs.Parts.{To, each}
use Rattle.rx_plan.specs.Programs.{Turn}
use Rattle.rx_plan.specs.Rounds.{turns}
use Rattle.rx_plan.specs.Stages.{InvokedState, Stage, event}
use Rattle.rx_plan.specs.Stages.{name_called}
use Rattle.rx_plan.specs.Stages.{with_event}
use Rattle.rx_plan.specs.Turned.{dispatches, turns_of}
use Rattle.rx_plan.proofs.Handling.{IsQuiet}
use Rattle.rx_plan.proofs.Leading.{IsSteady, Leads, ends_lead, heard_steady, steady_over}
use Rattle.rx_plan.proofs.Leading.{then_lead, turn_lead}
use Rattle.rx_plan.proofs.QuietEvents.{IsQuietOf, LinksServed}
use Rattle.rx_plan.proofs.Shaped.{IsCarried, LineShapes, Shapes, event_lead}

-- ---- what is followed

-- a stage's nodes and history, its callers, and where its dispatcher stands
pub record Seen : Type 0 where
  pub nodes : List Node
  pub history : List Noted
  pub callers : List InvokedState
  pub turning : Turning

-- between its parts
abbrev pub seen : Stage → Seen
seen s = record { nodes = s.nodes; history = s.history; callers = s.callers; turning = over s.jobs }

-- behind an event of a node
abbrev pub seen_behind : ℕ → Event → Seen → Seen
seen_behind node e x = record x { history = noted node e ∷ x.history }

-- the caller of an invoke's line, with these bytes to say
abbrev pub invoked : ℕ → ℕ → ℕ → CallName → List ℕ → InvokedState
invoked call node line c bytes = record { call = call; node = node; line = line; caller = caller_for c bytes }

-- an invoke's caller with what it knows now
abbrev pub with_view : InvokedState → CallerState → InvokedState
with_view k v = record k { caller = v }

-- it holds behind each event of a driven plan
pub record Carries (g : Handlers) (Asks : ℕ → List ℕ → Type 0) (Q : Seen → Type 0) : Type 0 where
  pub quiet :
      (x : Seen) (node : ℕ) (e : Event) → IsQuiet e → LinksServed x.nodes e → IsAllowedAt x.nodes x.history node e
      → Q x → Q (seen_behind node e x)
  pub invokes :
      (x : Seen) (call node line cid : ℕ) (c : CallName) (bytes : List ℕ) → Asks line bytes → IsBytes bytes
      → IsAllowedAt x.nodes x.history node (events.Called cid (Ok c)) → Q x
      → Q (record (seen_behind node (events.Called cid (Ok c)) x) {
        callers = x.callers ++ invoked call node line c bytes ∷ [];
      })
  pub accepts_first :
      (x : Seen) (jobs : List JobState) → x.turning ≡ over jobs → Q x → Q (record x { turning = accepts jobs })
  pub serves :
      (x : Seen) (a : Ask) (e : Event) → (dispatching g).asks x.turning ≡ Some a → IsCall a e
      → IsAllowedAt x.nodes x.history 0 e → Q x
      → Q (record (seen_behind 0 e x) { turning = (dispatching g).heard x.turning e })
  pub offers_first :
      (x : Seen) (place : ℕ) (k : InvokedState) → slice_get x.callers place ≡ Some k → Q x
      → Q (record x { callers = set x.callers place (with_view k (caller_begun k.caller)) })
  pub calls :
      (x : Seen) (place : ℕ) (k : InvokedState) (a : Asking) (e : Event) → slice_get x.callers place ≡ Some k
      → (calling REPLY_BYTES).asks k.caller ≡ Some a → IsAskedOf a e → IsAllowedAt x.nodes x.history k.node e → Q x
      → Q (record (seen_behind k.node e x) { callers = set x.callers place (with_view k (heard k.caller e)) })

-- ---- a list with a changed place

pub set_own : {X : Type 0} (xs : List X) (n : ℕ) (y x : X) → slice_get xs n ≡ Some y → slice_get (set xs n x) n ≡ Some x
set_own [] n y x is = absurd cc
set_own (z ∷ xs) zero y x is = refl
set_own (z ∷ xs) (suc n) y x is = set_own xs n y x is

pub set_twice : {X : Type 0} (xs : List X) (n : ℕ) (x y : X) → set (set xs n x) n y ≡ set xs n y
set_twice [] n x y = refl
set_twice (z ∷ xs) zero x y = refl
set_twice (z ∷ xs) (suc n) x y = ap (λ zs. z ∷ zs) (set_twice xs n x y)

-- what the network and the clocks do is quiet
quiet_carried : (nodes : List Node) (e : Event) → IsCarried e → IsQuietOf nodes e
quiet_carried nodes (events.Taken from bytes got) carried = (tt, tt)
quiet_carried nodes (events.Clocked now) carried = (tt, tt)
quiet_carried nodes e carried = elim carried [ ]

module _ (g : Handlers) (Asks : ℕ → List ℕ → Type 0) (Q : Seen → Type 0) (carries : Carries g Asks Q) where
  -- it holds of a stage
  abbrev pub At : Stage → Type 0
  At s = Q (seen s)

  -- ---- turns

  serve_lead : (s : Stage) → At s → Leads At (dispatches g s)
  serve_lead s so =
      then_lead (λ r. R r.0 r.1 × ((dispatching g).asks r.0 ≡ None)) At (Turn (dispatching g) 0 (accepts s.jobs) s) _
      (turn_lead (dispatching g) 0 R
      (λ v t a e there asked is allowed. (
        carries.serves (record (seen t) { turning = v }) a e asked is allowed there.0,
        heard_steady g v e,
      )) (accepts s.jobs) s (carries.accepts_first (seen s) s.jobs refl so, tt))
      (λ r there.
      ends_lead At _
      (subst (λ (v : Turning). Q (record (seen r.1) { turning = v })) (steady_over g r.0 there.0.1 there.1) there.0.0))
    where
      R : Turning → Stage → Type 0
      R v t = Q (record (seen t) { turning = v }) × IsSteady g v

  call_lead : (place : ℕ) (k : InvokedState) (s : Stage) → slice_get s.callers place ≡ Some k → At s
      → Leads At (turns_of place k s)
  call_lead place k s at so =
      then_lead (λ r. R r.0 r.1 × ((calling REPLY_BYTES).asks r.0 ≡ None)) At _ _
      (turn_lead (calling REPLY_BYTES) k.node R
      (λ v t a e there asked is allowed.
      subst (λ (cs : List InvokedState). Q (record (seen_behind k.node e (seen t)) { callers = cs }))
      (set_twice s.callers place (with_view k v) (with_view k (heard v e)))
      (carries.calls (record (seen t) { callers = set s.callers place (with_view k v) }) place (with_view k v) a e
      (set_own s.callers place k (with_view k v) at) asked is allowed there)) (caller_begun k.caller) s
      (carries.offers_first (seen s) place k at so))
      (λ r there. ends_lead At _ there.0)
    where
      R : CallerState → Stage → Type 0
      R v t = Q (record (seen t) { callers = set s.callers place (with_view k v) })

  -- ---- calls

  -- a call that was answered has a caller
  invoke_lead : (line cid : ℕ) (bytes : List ℕ) (node : ℕ) (s : Stage) → Asks line bytes → At s
      → Leads At (invokes line cid bytes node s)
  invoke_lead line cid bytes node s asks so =
      event_lead At s node (IsInvoked cid bytes)
      (λ e t. To (with_caller node line bytes (name_called e) (with_called node e t)))
      (λ e there allowed. of e there.0 there.1 allowed)
    where
      of : (e : Event) → IsCalled cid e → IsBytes bytes → IsAllowedAt s.nodes s.history node e
          → At (with_caller node line bytes (name_called e) (with_called node e (with_event node e s)))
      of (events.Called its (Ok c)) there fits allowed =
          carries.invokes (seen s) _ node line its c bytes asks fits allowed so
      of (events.Called its (Err refused)) there fits allowed =
          carries.quiet (seen s) node (events.Called its (Err refused)) tt tt allowed so
      of e there fits allowed = elim there [ ]

  -- ---- all of a plan

  pub shaped : Shapes g At
  shaped = record {
    carried = λ s node e carried allowed so. (
        let quiet = quiet_carried s.nodes e carried in carries.quiet (seen s) node e quiet.0 quiet.1 allowed so);
    serves = serve_lead;
    calls = call_lead;
  }

  pub line_shaped : LineShapes Asks At
  line_shaped = record {
    quiet = λ s node e quiet allowed so. carries.quiet (seen s) node e quiet.0 quiet.1 allowed so;
    packets = λ s ds so. so;
    invokes = invoke_lead;
  }
