-- How the call of a client begins.
use Rattle.std.proofs.Common.{◌≡◌, ◌≤◌, ℕ, List, [], ◌∷◌, Option, Some, None, Result, Err, refl, inl, inr, sym}
use Rattle.std.proofs.Common.{arith, subst}
use Rattle.rx_asks.specs.View.{CallerState, caller_for}
use Rattle.rx_history.specs.Sides.{with_clock}
use Rattle.rx_model.specs.declared.event.Event.{Event}
use Rattle.rx_model.specs.declared.event.Event.TheVariants as events
use Rattle.rx_model.specs.declared.event.Noted.{Noted}
use Rattle.rx_model.specs.declared.names.CallName.{CallName}
use Rattle.rx_rules.specs.After.{looks}
use Rattle.rx_rules.specs.Setup.{Setup}
use Rattle.rx_wire.specs.Wire.{Logged}
use Rattle.rx_wire_loop.specs.declared.calling.CallEnd.{CallEnd}
use Rattle.rx_wire_loop.specs.declared.calling.Calling.{Calling as Words}
use Rattle.rx_drive.specs.declared.stop.Stop.{Stop}
use Rattle.rx_drive.specs.declared.stop.Stop.TheVariants as stops
use Rattle.rx_wire_loop.specs.Calls.{CallMade, CallsBound, begins, call_terms}
use Rattle.rx_drive.specs.Nodes.{Answers}
use Rattle.rx_wire_loop.specs.Ports.{NotesOne, clocks}
use Rattle.rx_wire_loop.specs.Parts.{Came, Cut, One, Place, To, behind, makes, refuses}
use Rattle.rx_wire_loop.specs.Runs.{Fits, IsAt, Plays, Ran, change}
use Rattle.rx_wire_loop.specs.Tells.{SinkTells, Told, WireTells, told}
use Rattle.rx_wire_loop.specs.Texts.{event_line}
use Rattle.rx_wire_loop.proofs.Callings.{call_terms_by}
use Rattle.rx_wire_loop.proofs.Noting.{one_noted, one_refused}

-- ---- one event, and what it answered

module _ {A : Type 0} (n : ℕ) (s : Setup) (s0 s1 : List Event → Type 0) (book after : Option (List Noted))
    (sink : SinkTells) (wire : WireTells) (event : A → Event) (a : A) (quiet : event_line (event a) ≡ [])
    (still : (m : ℕ) → with_clock (event a) m ≡ m) (answers : Answers s s0 s1 (event a)) where
  -- by what became of its note
  pub answered : (shows : A → Type 0) (stop : Option Stop) → (stop ≡ None → shows a)
      → NotesOne n book after (event a) stop
      → Plays (change n s s0 s1 (told book sink wire) (told after sink wire)) (One event) shows stop
  answered shows None there notes =
      one_noted n s s0 s1 book after sink wire (event a) quiet (One event) a shows answers
      (λ p at. (makes a, subst (λ (m : ℕ). m ≤ p.now) (sym (still (looks s p.history).now)) at.later)) (there refl)
      notes
  answered shows (Some stops.Unnoted) there notes =
      one_refused n s s0 s1 book after sink wire (event a) quiet (One event) shows answers (λ p at. refuses a) notes
  answered shows (Some stops.OutOfMemory) there notes = absurd notes
  answered shows (Some stops.SinkFault) there notes = absurd notes
  answered shows (Some stops.WireFault) there notes = absurd notes
  answered shows (Some stops.Endless) there notes = absurd notes
  answered shows (Some stops.Unformatted) there notes = absurd notes

-- a client at the start of its life stands for the clock alone behind it
pub clocked_alone : (n : ℕ) (s : Setup) (s0 s1 : List Event → Type 0) (a b : Told) (shows : Unit {0} → Type 0) → s0 []
    → Plays (change n s s0 s1 a b) clocks shows None → (now : ℕ) × s1 (events.Clocked now ∷ [])
clocked_alone n s s0 s1 a b shows there plays = of r.events r.log r.came r.made r.fits
  where
    start : Place
    start = record { history = []; now = a.wire.moment }

    at : IsAt s s0 a start
    at = (let low : 0 ≤ a.wire.moment = omega arith in record { standing = there; now = refl; later = low })

    r : Ran (change n s s0 s1 a b) clocks shows None start
    r = plays start at

    of : (es : List Event) (ls : List Logged) (came : Came (Unit {0})) → clocks start es ls came
        → Fits (change n s s0 s1 a b) shows start es ls came None → (now : ℕ) × s1 (events.Clocked now ∷ [])
    of es ls came (makes u) fits = (a.wire.moment, fits.2.standing)
    of es ls came (refuses u) fits = absurd fits

-- ---- the whole call

-- memory was wanted before anything was made
pub call_unmade : (w : Words) (request : List ℕ) (s : Setup) (t : Told)
    → CallsBound w request s (Err stops.OutOfMemory) t t
call_unmade w request s t = inl (refl, refl)

module _ (w : Words) (request : List ℕ) (s : Setup) (s0 s1 : List Event → Type 0) (book mid : Option (List Noted))
    (sink : SinkTells) (wire : WireTells) (at_start : s0 []) where
  abbrev start : Place
  start = record { history = []; now = wire.moment }

  is_there : IsAt s s0 (told book sink wire) start
  is_there = (let low : 0 ≤ wire.moment = omega arith in record { standing = at_start; now = refl; later = low })

  abbrev begun : Option Stop → (CallName → Type 0) → Type 0
  begun stop shows = Ran (change 1 s s0 s1 (told book sink wire) (told mid sink wire)) (begins w) shows stop start

  -- it didn't begin
  pub call_unbegun : (shows : CallName → Type 0)
      → Plays (change 1 s s0 s1 (told book sink wire) (told mid sink wire)) (begins w) shows (Some stops.Unnoted)
      → CallsBound w request s (Err stops.Unnoted) (told book sink wire) (told mid sink wire)
  call_unbegun shows plays = of r.came r.made r.fits
    where
      r : begun (Some stops.Unnoted) shows
      r = plays start is_there

      of : (came : Came CallName) → begins w start r.events r.log came
          → Fits (change 1 s s0 s1 (told book sink wire) (told mid sink wire)) shows start r.events r.log came
          (Some stops.Unnoted)
          → CallsBound w request s (Err stops.Unnoted) (told book sink wire) (told mid sink wire)
      of (To x) made fits = absurd fits
      of (Cut why) made fits =
          inr (inl (
            refl,
            (
              r.events,
              r.log,
              subst (λ (k : Stop). begins w start r.events r.log (Cut k)) fits.0 made,
              r.legal tt,
              fits.1,
            ),
          ))

  -- it began, and passes were made
  pub call_begun : (name : CallName) (t : Setup) (most : ℕ) (v : CallerState) (result : Result CallEnd Stop)
      (last : Told)
      → Plays (change 1 s s0 s1 (told book sink wire) (told mid sink wire)) (begins w) (λ x. x ≡ name) None
      → t ≡ s → most ≡ w.jumbo → v ≡ caller_for name request
      → ((p : Place) → IsAt t s1 (told mid sink wire) p
      → CallMade (call_terms_by t most w.turns) v p result (told mid sink wire) last)
      → CallsBound w request s result (told book sink wire) last
  call_begun name t most v result last plays setup joins caller made_of = of r.came r.made r.fits
    where
      r : begun None (λ x. x ≡ name)
      r = plays start is_there

      as_named : (p : Place) → IsAt s s1 (told mid sink wire) p
          → CallMade (call_terms w s) (caller_for name request) p result (told mid sink wire) last
      as_named p at =
          subst (λ (u : CallerState). CallMade (call_terms w s) u p result (told mid sink wire) last) caller
          (subst (λ (k : ℕ). CallMade (call_terms_by s k w.turns) v p result (told mid sink wire) last) joins
          (subst (λ (u : Setup). IsAt u s1 (told mid sink wire) p
          → CallMade (call_terms_by u most w.turns) v p result (told mid sink wire) last) setup (made_of p) at))

      of : (came : Came CallName) → begins w start r.events r.log came
          → Fits (change 1 s s0 s1 (told book sink wire) (told mid sink wire)) (λ x. x ≡ name) start r.events r.log came
          None
          → CallsBound w request s result (told book sink wire) last
      of (To x) made (same, gained, there) =
          inr (inr (
            name,
            r.events,
            r.log,
            told mid sink wire,
            subst (λ (c : CallName). begins w start r.events r.log (To c)) same made,
            gained,
            as_named (behind r.events r.log start) there,
          ))
      of (Cut why) made fits = absurd fits
