-- Events of a driven plan that no caller and no handler makes.
use Rattle.std.proofs.Common.{List, slice_get, subst, sym, ℕ, ℤ}
use Rattle.rx_model.specs.declared.event.Event.{Event}
use Rattle.rx_model.specs.declared.event.Event.TheVariants as events
use Rattle.rx_model.specs.declared.event.Noted.{Noted}
use Rattle.rx_model.specs.declared.names.CallName.{CallName}
use Rattle.rx_model.specs.declared.names.Host.{Host}
use Rattle.rx_rules.proofs.EveryLaws.{Every}
use Rattle.rx_history.specs.Sides.{Node}
use Rattle.rx_asks.specs.Asks.{Asking, Cancels, IsAsked as IsAskedOf, Offers, Reads, Shuts}
use Rattle.rx_jobs.specs.Jobs.{Ask, IsCall, accept, finish, read, write}
use Rattle.rx_events.specs.Events.{IsAsked, IsCancelled, IsClocked, IsLinked, IsPolled, IsTaken}
use Rattle.rx_plan.specs.Stages.{service_of}
use Rattle.rx_plan.proofs.Handling.{IsQuiet}
use Rattle.rx_plan.proofs.Keys.ServicesStay.{LinksTo}

-- a connection that is made is for the service of the server of these nodes
abbrev pub LinksServed : List Node → Event → Type 0
LinksServed nodes e = LinksTo (service_of (slice_get nodes 0)) e

-- each connection that was made is for the service of the server
abbrev pub AreServed : List Node → List Noted → Type 0
AreServed nodes h = Every (λ e. LinksServed nodes e.event) h

-- a quiet event, of these nodes
abbrev pub IsQuietOf : List Node → Event → Type 0
IsQuietOf nodes e = IsQuiet e × LinksServed nodes e

pub quiet_linked : (nodes : List Node) (to : Host) (first : ℕ) (e : Event)
    → IsLinked to (service_of (slice_get nodes 0)) first e → IsQuietOf nodes e
quiet_linked nodes to first (events.Linked host its low got) i = (tt, i.1)
quiet_linked nodes to first e i = elim i [ ]

pub quiet_asked : (nodes : List Node) (c : CallName) (e : Event) → IsAsked c e → IsQuietOf nodes e
quiet_asked nodes c (events.Ended call got) i = (tt, tt)
quiet_asked nodes c e i = elim i [ ]

pub quiet_taken : (nodes : List Node) (from : Host) (bytes : List ℕ) (e : Event) → IsTaken from bytes e
    → IsQuietOf nodes e
quiet_taken nodes from bytes (events.Taken sender given got) i = (tt, tt)
quiet_taken nodes from bytes e i = elim i [ ]

pub quiet_polled : (nodes : List Node) (e : Event) → IsPolled e → IsQuietOf nodes e
quiet_polled nodes (events.Polled got) i = (tt, tt)
quiet_polled nodes e i = elim i [ ]

pub quiet_clocked : (nodes : List Node) (now : ℕ) (e : Event) → IsClocked now e → IsQuietOf nodes e
quiet_clocked nodes now (events.Clocked moment) i = (tt, tt)
quiet_clocked nodes now e i = elim i [ ]

pub quiet_cancelled : (nodes : List Node) (c : CallName) (code : ℤ) (e : Event) → IsCancelled c code e
    → IsQuietOf nodes e
quiet_cancelled nodes c code (events.Cancelled call with got) i = (tt, tt)
quiet_cancelled nodes c code e i = elim i [ ]

-- ---- events of callers and handlers

-- a dispatcher makes no connection
pub call_links : (nodes : List Node) (a : Ask) (e : Event) → IsCall a e → LinksServed nodes e
call_links nodes accept e is = subst (LinksServed nodes) (sym is.1) tt
call_links nodes (read c) e is = subst (LinksServed nodes) (sym is.2) tt
call_links nodes (write c offer) e is = subst (LinksServed nodes) (sym is.1) tt
call_links nodes (finish c code) e is = subst (LinksServed nodes) (sym is.1) tt

-- nor does a caller
pub asked_links : (nodes : List Node) (a : Asking) (e : Event) → IsAskedOf a e → LinksServed nodes e
asked_links nodes (Offers c block) (events.Linked to its first got) is = absurd is
asked_links nodes (Shuts c) (events.Linked to its first got) is = absurd is
asked_links nodes (Reads c max) (events.Linked to its first got) is = absurd is
asked_links nodes (Cancels c code) (events.Linked to its first got) is = absurd is
asked_links nodes a e is = tt
