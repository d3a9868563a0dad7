-- How what was made of parts is what was made of a part that has them.
use Rattle.std.proofs.Common.{◌≡◌, ◌≤◌, ℕ, List, [], ◌++◌, Option, Some, None, Result, Ok, Err, refl, sym}
use Rattle.std.proofs.Common.{ap, subst}
use Rattle.std.specs.Prelude.{IsErrAnd}
use Rattle.std.proofs.lemmas.List.{append-nil}
use Rattle.rx_model.specs.declared.event.Event.{Event}
use Rattle.rx_rules.specs.After.{looks}
use Rattle.rx_rules.specs.Rules.{Legal}
use Rattle.rx_rules.specs.Setup.{Setup}
use Rattle.rx_wire.specs.Wire.{Logged}
use Rattle.rx_wire.proofs.TurnLaws.{after_all-append}
use Rattle.rx_drive.specs.declared.stop.Stop.{Stop}
use Rattle.rx_drive.specs.declared.stop.Stop.TheVariants as stops
use Rattle.rx_wire_loop.specs.Parts.{Came, To, Cut, Part, Place, Then, behind, ends}
use Rattle.rx_drive.specs.Ran.{stop_of}
use Rattle.rx_wire_loop.specs.Runs.{Fits, IsAt, IsBehind, Plays, Ran, Stops, change}
use Rattle.rx_wire_loop.specs.Tells.{Gains, Told}
use Rattle.rx_wire_loop.proofs.Placing.{behind_both}
use Rattle.rx_wire_loop.proofs.Telling.{breaks_behind, fails_behind, gains_both, gains_none, refuses_behind}
use Rattle.rx_wire_loop.proofs.Telling.{wants_behind}

-- ---- nothing was made

-- this was come to
pub plays_to : {A : Type 0} (n : ℕ) (s : Setup) (stands : List Event → Type 0) (t : Told) (shows : A → Type 0) (a : A)
    → shows a → Plays (change n s stands stands t t) (ends (To a)) shows None
plays_to n s stands t shows a there p at =
    record {
      events = [];
      log = [];
      came = To a;
      made = (refl, refl, refl);
      legal = λ is. is;
      fits = (there, gains_none n t, at);
    }

-- ---- one part and then another

module _ (n : ℕ) (s : Setup) (s0 s1 s2 : List Event → Type 0) (a b c : Told) (es fs : List Event) (ls ms : List Logged)
  where
    -- passes end behind what was told whole
    pub stops_behind : (stop : Stop) → Gains n a b es ls → Stops (change n s s1 s2 b c) fs ms stop
        → Stops (change n s s0 s2 a c) (es ++ fs) (ls ++ ms) stop
    stops_behind stops.OutOfMemory told rest = gains_both n a b c es fs ls ms told rest
    stops_behind stops.Unformatted told rest = wants_behind n a b c es fs ls ms told rest
    stops_behind stops.SinkFault told rest = fails_behind n a b c es fs ls ms told rest
    stops_behind stops.WireFault told rest = breaks_behind n a b c es fs ls ms told rest
    stops_behind stops.Unnoted told rest = refuses_behind n a b c es fs ls ms told rest
    stops_behind stops.Endless told rest = gains_both n a b c es fs ls ms told rest

module _ {B : Type 0} (n : ℕ) (s : Setup) (s0 s1 s2 : List Event → Type 0) (a b c : Told) (after : B → Type 0)
    (p : Place) (es fs : List Event) (ls ms : List Logged) where
  at_behind : IsAt s s2 c (behind fs ms (behind es ls p)) → IsAt s s2 c (behind (es ++ fs) (ls ++ ms) p)
  at_behind there = subst (λ (q : Place). IsAt s s2 c q) (sym (behind_both es fs ls ms p)) there

  -- behind what was told whole
  fits_behind : (came : Came B) (stop : Option Stop) → Gains n a b es ls
      → Fits (change n s s1 s2 b c) after (behind es ls p) fs ms came stop
      → Fits (change n s s0 s2 a c) after p (es ++ fs) (ls ++ ms) came stop
  fits_behind (To x) None told (there, rest, at) =
      (there, gains_both n a b c es fs ls ms told rest, at_behind at)
  fits_behind (To x) (Some stop) told fits = absurd fits
  fits_behind (Cut why) None told fits = absurd fits
  fits_behind (Cut why) (Some stop) told fits = (fits.0, stops_behind n s s0 s1 s2 a b c es fs ls ms stop told fits.1)

module _ {A B D : Type 0} (n : ℕ) (s : Setup) (s0 s1 s2 : List Event → Type 0) (a b c : Told) (first : Part A)
    (second : A → Part B) (third : Part D) (f : B → D) (shows : A → Type 0) (after : B → Type 0) where
  -- the first was made whole and then the second, and both are a third part
  pub plays_join : (last : D → Type 0) (stop : Option Stop)
      → ((p : Place) (es fs : List Event) (ls ms : List Logged) (x : A) (y : B) → shows x → after y
      → first p es ls (To x) → second x (behind es ls p) fs ms (To y) → third p (es ++ fs) (ls ++ ms) (To (f y)))
      → ((p : Place) (es fs : List Event) (ls ms : List Logged) (x : A) (why : Stop) → shows x → first p es ls (To x)
      → second x (behind es ls p) fs ms (Cut why) → third p (es ++ fs) (ls ++ ms) (Cut why))
      → ((y : B) → after y → last (f y)) → Plays (change n s s0 s1 a b) first shows None
      → ((x : A) → shows x → Plays (change n s s1 s2 b c) (second x) after stop)
      → Plays (change n s s0 s2 a c) third last stop
  plays_join last stop whole cut shown plays more p at =
      of r.came r.made r.fits
    where
      r : Ran (change n s s0 s1 a b) first shows None p
      r = plays p at

      both : (x : A) → shows x → first p r.events r.log (To x) → Gains n a b r.events r.log
          → Ran (change n s s1 s2 b c) (second x) after stop (behind r.events r.log p)
          → Ran (change n s s0 s2 a c) third last stop p
      both x there made told m = on m.came stop m.made m.fits
        where
          by : (came : Came D) (why : Option Stop) → third p (r.events ++ m.events) (r.log ++ m.log) came
              → Fits (change n s s1 s2 b c) last (behind r.events r.log p) m.events m.log came why
              → Ran (change n s s0 s2 a c) third last why p
          by came why made_both fits =
              record {
                events = r.events ++ m.events;
                log = r.log ++ m.log;
                came = came;
                made = made_both;
                legal = λ is. subst (λ (h : List Event). Legal s h)
                    (sym (after_all-append r.events m.events p.history)) (m.legal (r.legal is));
                fits = fits_behind n s s0 s1 s2 a b c last p r.events m.events r.log m.log came why told fits;
              }

          on : (came : Came B) (why : Option Stop) → second x (behind r.events r.log p) m.events m.log came
              → Fits (change n s s1 s2 b c) after (behind r.events r.log p) m.events m.log came why
              → Ran (change n s s0 s2 a c) third last why p
          on (To y) None done (is, gained, here) =
              by (To (f y)) None (whole p r.events m.events r.log m.log x y there is made done)
              (shown y is, gained, here)
          on (To y) (Some why) done fits = absurd fits
          on (Cut cause) None done fits = absurd fits
          on (Cut cause) (Some why) done fits =
              by (Cut cause) (Some why) (cut p r.events m.events r.log m.log x cause there made done) fits

      of : (came : Came A) → first p r.events r.log came → Fits (change n s s0 s1 a b) shows p r.events r.log came None
          → Ran (change n s s0 s2 a c) third last stop p
      of (To x) made (there, told, here) = both x there made told (more x there (behind r.events r.log p) here)
      of (Cut why) made fits = absurd fits

module _ {A B : Type 0} (n : ℕ) (s : Setup) (s0 s1 : List Event → Type 0) where
  -- the first was made whole, and the next one then
  pub plays_then : (s2 : List Event → Type 0) (a b c : Told) (first : Part A) (next : A → Part B) (shows : A → Type 0)
      (after : B → Type 0) (stop : Option Stop)
      → Plays (change n s s0 s1 a b) first shows None
      → ((x : A) → shows x → Plays (change n s s1 s2 b c) (next x) after stop)
      → Plays (change n s s0 s2 a c) (Then first next) after stop
  plays_then s2 a b c first next shows after stop =
      plays_join n s s0 s1 s2 a b c first next (Then first next) (λ y. y) shows after after stop
      (λ p es fs ls ms x y there is made goes. record {
        early = es;
        late = fs;
        early_log = ls;
        late_log = ms;
        events = refl;
        log = refl;
        came = To x;
        made = made;
        goes = goes;
      })
      (λ p es fs ls ms x why there made goes. record {
        early = es;
        late = fs;
        early_log = ls;
        late_log = ms;
        events = refl;
        log = refl;
        came = To x;
        made = made;
        goes = goes;
      })
      (λ y is. is)

  -- the first ended the passes
  pub plays_stops : (a b : Told) (first : Part A) (next : A → Part B) (shows : A → Type 0) (after : B → Type 0)
      (stop : Stop)
      → Plays (change n s s0 s1 a b) first shows (Some stop)
      → Plays (change n s s0 s1 a b) (Then first next) after (Some stop)
  plays_stops a b first next shows after stop plays p at = of r.came r.made r.fits
    where
      r : Ran (change n s s0 s1 a b) first shows (Some stop) p
      r = plays p at

      of : (came : Came A) → first p r.events r.log came → Fits (change n s s0 s1 a b) shows p r.events r.log came
          (Some stop)
          → Ran (change n s s0 s1 a b) (Then first next) after (Some stop) p
      of (To x) made fits = absurd fits
      of (Cut why) made fits =
          record {
            events = r.events;
            log = r.log;
            came = Cut why;
            made = record {
              early = r.events;
              late = [];
              early_log = r.log;
              late_log = [];
              events = sym (append-nil r.events);
              log = sym (append-nil r.log);
              came = Cut why;
              made = made;
              goes = (refl, refl, refl);
            };
            legal = r.legal;
            fits = fits;
          }

-- where passes ended nothing was come to
pub stops_any : {A : Type 0} (n : ℕ) (s : Setup) (s0 s1 : List Event → Type 0) (a b : Told) (part : Part A)
    (shows after : A → Type 0) (stop : Stop) → Plays (change n s s0 s1 a b) part shows (Some stop)
    → Plays (change n s s0 s1 a b) part after (Some stop)
stops_any {A} n s s0 s1 a b part shows after stop plays p at = of r.came r.made r.fits
  where
    r : Ran (change n s s0 s1 a b) part shows (Some stop) p
    r = plays p at

    of : (came : Came A) → part p r.events r.log came
        → Fits (change n s s0 s1 a b) shows p r.events r.log came (Some stop)
        → Ran (change n s s0 s1 a b) part after (Some stop) p
    of (To x) made fits = absurd fits
    of (Cut why) made fits =
        record { events = r.events; log = r.log; came = Cut why; made = made; legal = r.legal; fits = fits }

module _ {A B D : Type 0} (n : ℕ) (s : Setup) (s0 s1 s2 : List Event → Type 0) (a b c : Told) (first : Part A)
    (second : A → Part B) (third : Part D) (f : B → D) (shows : A → Type 0) where
  -- the first was made whole and the second ended the passes, and both are a third part that was cut off
  pub plays_cut : (after : B → Type 0) (last : D → Type 0) (stop : Stop)
      → ((p : Place) (es fs : List Event) (ls ms : List Logged) (x : A) (why : Stop) → shows x → first p es ls (To x)
      → second x (behind es ls p) fs ms (Cut why) → third p (es ++ fs) (ls ++ ms) (Cut why))
      → Plays (change n s s0 s1 a b) first shows None
      → ((x : A) → shows x → Plays (change n s s1 s2 b c) (second x) after (Some stop))
      → Plays (change n s s0 s2 a c) third last (Some stop)
  plays_cut after last stop cut plays more =
      plays_join n s s0 s1 s2 a b c first second third f shows (λ y. ⊥) last (Some stop)
      (λ p es fs ls ms x y there none made goes. absurd none) cut (λ y none. absurd none) plays
      (λ x there. stops_any n s s1 s2 b c (second x) after (λ y. ⊥) stop (more x there))

-- ---- the same as another part

module _ {A B : Type 0} (n : ℕ) (s : Setup) (s0 s1 : List Event → Type 0) (a b : Told) (part : Part A) (other : Part B)
    (f : A → B) (shows : A → Type 0) where
  -- what a part makes another makes too
  pub plays_as : (after : B → Type 0) (stop : Option Stop)
      → ((p : Place) (es : List Event) (ls : List Logged) (x : A) → shows x → part p es ls (To x)
      → other p es ls (To (f x)))
      → ((p : Place) (es : List Event) (ls : List Logged) (why : Stop) → part p es ls (Cut why)
      → other p es ls (Cut why))
      → ((x : A) → shows x → after (f x)) → Plays (change n s s0 s1 a b) part shows stop
      → Plays (change n s s0 s1 a b) other after stop
  plays_as after stop whole cut shown plays p at = of r.came r.made stop r.fits
    where
      r : Ran (change n s s0 s1 a b) part shows stop p
      r = plays p at

      by : (came : Came B) (why : Option Stop) → other p r.events r.log came
          → Fits (change n s s0 s1 a b) after p r.events r.log came why → Ran (change n s s0 s1 a b) other after why p
      by came why made fits =
          record { events = r.events; log = r.log; came = came; made = made; legal = r.legal; fits = fits }

      of : (came : Came A) → part p r.events r.log came → (why : Option Stop)
          → Fits (change n s s0 s1 a b) shows p r.events r.log came why → Ran (change n s s0 s1 a b) other after why p
      of (To x) made None (there, told, here) =
          by (To (f x)) None (whole p r.events r.log x there made) (shown x there, told, here)
      of (To x) made (Some why) fits = absurd fits
      of (Cut cause) made None fits = absurd fits
      of (Cut cause) made (Some why) fits = by (Cut cause) (Some why) (cut p r.events r.log cause made) fits

-- ---- results

-- a result that is this error ends passes for it
pub stopped : {T : Type 0} (r : Result T Stop) (stop : Stop) → IsErrAnd r (λ why. why ≡ stop) → stop_of r ≡ Some stop
stopped (Ok x) stop err = absurd err
stopped (Err why) stop err = ap Some err

-- and it is that error
pub is_stopped : {T : Type 0} (r : Result T Stop) (stop : Stop) → IsErrAnd r (λ why. why ≡ stop) → r ≡ Err stop
is_stopped (Ok x) stop err = absurd err
is_stopped (Err why) stop err = ap Err err

module _ {A : Type 0} (n m : ℕ) (s t : Setup) (s0 s1 : List Event → Type 0) (a b : Told) (part : Part A) where
  -- the same of a node with another name for its number and for how it is set up
  pub plays_at : (shows : A → Type 0) (stop : Option Stop) → m ≡ n → t ≡ s
      → Plays (change m t s0 s1 a b) part shows stop → Plays (change n s s0 s1 a b) part shows stop
  plays_at shows stop number setup plays =
      subst (λ (k : ℕ). Plays (change k s s0 s1 a b) part shows stop) number
      (subst (λ (u : Setup). Plays (change m u s0 s1 a b) part shows stop) setup plays)

-- ---- where a node is

-- a node that stands for a history that isn't ahead of the wire is at a place
pub place_of : (s : Setup) (stands : List Event → Type 0) (t : Told) → (h : List Event) → stands h
    → (looks s h).now ≤ t.wire.moment → IsAt s stands t (record { history = h; now = t.wire.moment })
place_of s stands t h there low = record { standing = there; now = refl; later = low }

-- and what is at a place isn't ahead of the wire
pub behind_at : (s : Setup) (stands : List Event → Type 0) (t : Told) (p : Place) → IsAt s stands t p
    → IsBehind s stands t.wire.moment
behind_at s stands t p at =
    (p.history, at.standing, subst (λ (m : ℕ). (looks s p.history).now ≤ m) at.now at.later)

module _ {A : Type 0} (n : ℕ) (s t : Setup) (s0 s1 : List Event → Type 0) (a b : Told) (part : Part A) where
  -- nor is it where a part was made whole
  pub behind_made : (shows : A → Type 0) → t ≡ s → IsBehind s s0 a.wire.moment
      → Plays (change n s s0 s1 a b) part shows None → IsBehind t s1 b.wire.moment
  behind_made shows same (h, there, low) plays =
      subst (λ (u : Setup). IsBehind u s1 b.wire.moment) (sym same) (of r.came r.fits)
    where
      start : Place
      start = record { history = h; now = a.wire.moment }

      r : Ran (change n s s0 s1 a b) part shows None start
      r = plays start (place_of s s0 a h there low)

      of : (came : Came A) → Fits (change n s s0 s1 a b) shows start r.events r.log came None
          → IsBehind s s1 b.wire.moment
      of (To x) (is, told, at) = behind_at s s1 b (behind r.events r.log start) at
      of (Cut why) fits = absurd fits
