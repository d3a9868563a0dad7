-- The history of a client along the passes of a call, as one that its caller drives.
use Rattle.std.proofs.Common.{◌≡◌, ℕ, true, List, [], ◌∷◌, ◌++◌, Option, Some}
use Rattle.std.proofs.Common.{None, Ok, sym, subst}
use Rattle.std.specs.Prelude.{is_some}
use Rattle.rx_asks.specs.Asks.{begun}
use Rattle.rx_asks.specs.History.{Drives, begins as turn_begins, leaves, starts}
use Rattle.rx_asks.specs.View.{CallerState, caller_for}
use Rattle.rx_asks.specs.declared.ask.TheConstants.{REPLY_BYTES}
use Rattle.rx_asks.proofs.Driving.{drives_on}
use Rattle.rx_model.specs.declared.event.Event.{Event}
use Rattle.rx_model.specs.declared.event.Event.TheVariants as events
use Rattle.rx_model.specs.declared.names.CallName.{CallName}
use Rattle.rx_model.specs.declared.names.Host.{Host}
use Rattle.rx_jumbo.specs.Parts.{parts_of}
use Rattle.rx_wire.specs.Wire.{Came as Arrived, Logged}
use Rattle.rx_wire.specs.Turns.{after_all}
use Rattle.rx_wire.proofs.TurnLaws.{after_all-append}
use Rattle.rx_wire_loop.specs.declared.calling.Calling.{Calling as Words}
use Rattle.rx_wire_loop.specs.Calls.{CallPassed, CallTerms, Calls}
use Rattle.rx_wire_loop.specs.Calls.{IsEnded, begins, begins_on, begins_to, links}
use Rattle.rx_wire_loop.specs.Calls.{call_play, call_take, calls, calls_ended}
use Rattle.rx_wire_loop.specs.Parts.{Part, Place, Then, To, behind, ends}
use Rattle.rx_wire_loop.specs.Ports.{TakesAll, clocks, polled_all, polls, takes_came, takes_parts, takes_until}
use Rattle.rx_wire_loop.specs.Ports.{until_of, waits}
use Rattle.rx_wire_loop.specs.Serves.{pass, passed_more, passed_none}
use Rattle.rx_wire_loop.proofs.Bringing.{Brings, brings_ends, brings_one, brings_then}

-- nothing is said of a history
abbrev Any : List Event → Type 0
Any h = Unit {0}

module _ (request : List ℕ) where
  abbrev Driven : CallerState → List Event → Type 0
  Driven v h = Drives REPLY_BYTES request v h

  -- ---- the beginning

  -- the caller of a call of this name, which was just made
  abbrev New : CallName → List Event → Type 0
  New name = Driven (caller_for name request)

  begun_on : (cid : ℕ) → Brings (begins_on cid) Any New
  begun_on cid = brings_one (λ name. events.Called cid (Ok name)) Any New (λ name h any. starts cid name h)

  begun_to : (to : Host) (service : ℕ) → Brings (begins_to to service) Any New
  begun_to to service =
      brings_then (links to service) begins_on Any (λ cid. Any) New (λ p es ls cid any made. tt) begun_on

  -- a call was begun
  pub call_begun : (w : Words) → Brings (begins w) Any New
  call_begun w =
      brings_then clocks (λ u. begins_to w.to w.service) Any (λ u. Any) New (λ p es ls u any made. tt)
      (λ u. begun_to w.to w.service)

  -- ---- passes

  module _ (v : CallerState) where
    clocks_left : Brings clocks (Driven v) (λ u. Driven v)
    clocks_left p =
        brings_one (λ u. events.Clocked p.now) (Driven v) (λ u. Driven v)
        (λ u h at. leaves v (events.Clocked p.now) h tt at) p

    polled : (ds : List (Host × List ℕ)) (h : List Event) → Driven v h
        → Driven v (after_all (polled_all ds ++ events.Polled None ∷ []) h)
    polled [] h at = leaves v (events.Polled None) h tt at
    polled (d ∷ ds) h at =
        polled ds (events.Polled (Some d) ∷ h) (leaves v (events.Polled (Some d)) h tt at)

    polls_left : (most : ℕ) → Brings (polls most) (Driven v) (λ u. Driven v)
    polls_left most p es ls u at made =
        rw made.events (polled made.polled p.history at)

    taken : (from : Host) (bs : List (List ℕ)) (es h : List Event) → TakesAll from bs es → Driven v h
        → Driven v (after_all es h)
    taken from [] es h all at = rw all at
    taken from (b ∷ bs) [] h all at = absurd all
    taken from (b ∷ bs) (e ∷ es) h all at =
        taken from bs es (e ∷ h) all.1 (leaves v e h (rw all.0.1 tt) at)

    came_left : (came : Option Arrived) → Brings (takes_came came) (Driven v) (λ u. Driven v)
    came_left None p es ls u at made = rw made.0 at
    came_left (Some came) p es ls u at made =
        brings_then clocks (λ t. takes_parts came.from (parts_of came.bytes)) (Driven v) (λ t. Driven v) (λ u. Driven v)
        clocks_left (λ t q fs ms done here all. taken came.from (parts_of came.bytes) fs q.history all.1 here)
        p es ls u at made

    takes_left : (until : ℕ) → Brings (takes_until until) (Driven v) (λ u. Driven v)
    takes_left until =
        brings_then (waits until) takes_came (Driven v) (λ came. Driven v) (λ u. Driven v)
        (λ p es ls came at made. rw made.0 at) came_left

    turn_made : Brings (calls v) (Driven v) Driven
    turn_made p es ls w at made =
        drives_on REPLY_BYTES request (begun v) w es p.history made.1.runs (turn_begins v p.history at)

  -- a last part that leaves the call
  last_left : (v : CallerState) (part : Part (Unit {0})) → Brings part (Driven v) (λ u. Driven v)
      → Brings (Then part (λ u. ends (To v))) (Driven v) Driven
  last_left v part left =
      brings_then part (λ u. ends (To v)) (Driven v) (λ u. Driven v) Driven left
      (λ u. brings_ends (To v) (Driven v) Driven
      (λ w h same at. (let is : v ≡ w = cc in subst (λ (x : CallerState). Driven x h) is at)))

  play_made : (t : CallTerms) (v : CallerState) → Brings (call_play t v) (Driven v) Driven
  play_made t v =
      brings_then clocks (λ u. polled_first) (Driven v) (λ u. Driven v) Driven (clocks_left v)
      (λ u. brings_then (polls t.most) (λ u. turned) (Driven v) (λ u. Driven v) Driven (polls_left v t.most)
      (λ u. brings_then (calls v) polled_last (Driven v) Driven Driven (turn_made v)
      (λ w. last_left w (polls t.most) (polls_left w t.most))))
    where
      polled_last : CallerState → Part CallerState
      polled_last w = Then (polls t.most) (λ u. ends (To w))

      turned : Part CallerState
      turned = Then (calls v) polled_last

      polled_first : Part CallerState
      polled_first = Then (polls t.most) (λ u. turned)

  pass_made : (t : CallTerms) (v : CallerState) → Brings (pass (call_play t) (call_take t) v) (Driven v) Driven
  pass_made t v =
      brings_then (call_play t v) (λ w. Then (call_take t) (λ u. ends (To w))) (Driven v) Driven Driven (play_made t v)
      (λ w. last_left w (call_take t) (λ p. takes_left w (until_of t.setup None p.history) p))

  -- several of them
  passes_made : (t : CallTerms) (v : CallerState) (p : Place) (n : ℕ) (es : List Event) (ls : List Logged)
      (w : CallerState) → Driven v p.history → CallPassed t v p n es ls w → Driven w (after_all es p.history)
  passes_made t v p n es ls w at passed_none = at
  passes_made t v p n es ls w at (passed_more m fs later ms later_log x u before more goes) =
      subst (Driven u) (sym (after_all-append fs later p.history))
      (pass_made t x (behind fs ms p) later later_log u (passes_made t v p m fs ms x at before) more)

  -- those of a call that ended
  pub call_ended : (t : CallTerms) (v : CallerState) (p : Place) (es : List Event) (ls : List Logged) (u : CallerState)
      → Driven v p.history → Calls t v p es ls (IsEnded u) → (is_some u.end ≡ true) × Driven u (after_all es p.history)
  call_ended t v p es ls u at (calls_ended n fs later ms later_log w x within passed played is) = (
    is,
    subst (Driven x) (sym (after_all-append fs later p.history))
        (play_made t w (behind fs ms p) later later_log x (passes_made t v p n fs ms w at passed) played),
  )
