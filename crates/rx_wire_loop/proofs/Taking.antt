-- What a take of the wire brings.
use Rattle.std.proofs.Common.{◌≡◌, ◌≤◌, ℕ, List, [], ◌∷◌, Option, Some, None, refl, sym, subst, arith}
use Rattle.std.specs.Prelude.{IfNone}
use Rattle.rx_base.specs.Sink.{HasRisen}
use Rattle.rx_jumbo.specs.JoinerState.{JoinerState}
use Rattle.rx_jumbo.specs.Parts.{parts_of}
use Rattle.rx_model.specs.declared.event.Event.{Event}
use Rattle.rx_model.specs.declared.event.Noted.{Noted}
use Rattle.rx_model.specs.declared.names.Host.{Host}
use Rattle.rx_rules.specs.After.{looks}
use Rattle.rx_rules.specs.Setup.{Setup}
use Rattle.rx_wire.specs.Wire.{Came as Arrived, HasLogged, TookUntil, Traffic}
use Rattle.rx_wire.proofs.TurnLaws.{HasNotedAll-none}
use Rattle.rx_drive.specs.declared.stop.Stop.TheVariants as stops
use Rattle.rx_wire_loop.specs.Parts.{Cut, Part, Then, To}
use Rattle.rx_wire_loop.specs.Ports.{PortsState, clocks, takes_came, takes_parts, takes_until, waits}
use Rattle.rx_wire_loop.specs.Runs.{Plays, change}
use Rattle.rx_wire_loop.specs.Tells.{HasLoggedAll, SinkTells, Told, told, wire_tells}
use Rattle.rx_drive.specs.declared.stop.Stop.{Stop}
use Rattle.rx_wire_loop.proofs.Running.{plays_at, plays_stops, plays_then}
use Rattle.rx_wire_loop.proofs.Telling.{gained_none, gains_none, logged_none, logged_one}

abbrev pub Anything : Unit {0} → Type 0
Anything u = Unit {0}

-- ---- one take

module _ (n : ℕ) (s : Setup) (stands : List Event → Type 0) (book : Option (List Noted)) (sink : SinkTells)
    (old new : Option Traffic) (faults same_faults now moment room until : ℕ) where
  abbrev before : Told
  before = told book sink (wire_tells old faults now)

  abbrev after : Told
  after = told book sink (wire_tells new same_faults moment)

  -- what came, if anything came
  pub waited : (came : Option Arrived) → 65536 ≤ room → now ≤ moment → same_faults ≡ faults
      → HasLogged old new (TookUntil room until came moment) → IfNone came (until ≤ moment)
      → Plays (change n s stands stands before after) (waits until) (λ its. its ≡ came) None
  waited came roomy later same logged reached p at =
      (let here : p.now ≡ now = at.now in
      let low : (looks s p.history).now ≤ p.now = at.later in
      record {
        events = [];
        log = TookUntil room until came moment ∷ [];
        came = To came;
        made = (
          refl,
          record {
            room = room;
            moment = moment;
            log = refl;
            roomy = roomy;
            later = omega (arith, here, later);
            reached = reached;
          },
        );
        legal = λ is. is;
        fits = (
          refl,
          record {
            noted = HasNotedAll-none book n;
            put = gained_none sink.put;
            log = logged_one old new (TookUntil room until came moment) logged;
            puts = refl;
            calls = same;
          },
          record { standing = at.standing; now = refl; later = omega (arith, low, here, later) },
        );
      })

  -- the wire failed
  pub wait_failed : {A : Type 0} (next : Option Arrived → Part A) (shows : A → Type 0) → new ≡ old
      → HasRisen faults same_faults
      → Plays (change n s stands stands before after) (Then (waits until) next) shows (Some stops.WireFault)
  wait_failed next shows same risen =
      plays_stops n s stands stands before after (waits until) next (λ its. ⊥) shows stops.WireFault
      (λ p at. record {
        events = [];
        log = [];
        came = Cut stops.WireFault;
        made = (refl, refl, refl);
        legal = λ is. is;
        fits = (
          refl,
          record {
            noted = HasNotedAll-none book n;
            put = gained_none sink.put;
            log = subst (λ (t : Option Traffic). HasLoggedAll old t []) (sym same) (logged_none old);
            puts = refl;
            calls = risen;
          },
        );
      })

-- nothing came
pub nothing_came : (n : ℕ) (s : Setup) (stands : List Event → Type 0) (t : Told)
    → Plays (change n s stands stands t t) (takes_came None) Anything None
nothing_came n s stands t p at =
    record {
      events = [];
      log = [];
      came = To tt;
      made = (refl, refl);
      legal = λ is. is;
      fits = (tt, gains_none n t, at);
    }

module _ (n : ℕ) (s t : Setup) (s0 s1 s2 : List Event → Type 0) (a b c : Told) (from : Host) (bytes : List ℕ)
    (stop : Option Stop) where
  -- the clock was handed in, and what came was taken part by part, by a node whose setup has another name then
  pub came_taken : t ≡ s → Plays (change n s s0 s1 a b) clocks Anything None
      → Plays (change n t s1 s2 b c) (takes_parts from (parts_of bytes)) Anything stop
      → Plays (change n s s0 s2 a c) (takes_came (Some (record { from = from; bytes = bytes }))) Anything stop
  came_taken setup first second =
      plays_then n s s0 s1 s2 a b c clocks (λ u. takes_parts from (parts_of bytes)) Anything Anything stop first
      (λ u is. plays_at n n s t s1 s2 b c (takes_parts from (parts_of bytes)) Anything stop refl setup second)

-- passes ended at the clock
pub came_clocked : (n : ℕ) (s : Setup) (s0 s1 : List Event → Type 0) (a b : Told) (from : Host) (bytes : List ℕ)
    (stop : Stop) → Plays (change n s s0 s1 a b) clocks Anything (Some stop)
    → Plays (change n s s0 s1 a b) (takes_came (Some (record { from = from; bytes = bytes }))) Anything (Some stop)
came_clocked n s s0 s1 a b from bytes stop first =
    plays_stops n s s0 s1 a b clocks (λ u. takes_parts from (parts_of bytes)) Anything Anything stop first

module _ (v : PortsState) (n : ℕ) (j : JoinerState) where
  -- what came was taken, by the view of a node's ports
  pub take_whole : record { node = n; joiner = j } ≡ v
      → (s : Setup) (s0 s1 : List Event → Type 0) (a b c : Told) (until : ℕ) (came : Option Arrived)
      (stop : Option Stop)
      → Plays (change n s s0 s0 a b) (waits until) (λ its. its ≡ came) None
      → Plays (change n s s0 s1 b c) (takes_came came) Anything stop
      → Plays (change v.node s s0 s1 a c) (takes_until until) Anything stop
  take_whole is s s0 s1 a b c until came stop first second =
      subst (λ (w : PortsState). Plays (change w.node s s0 s1 a c) (takes_until until) Anything stop) is
      (plays_then n s s0 s0 s1 a b c (waits until) takes_came (λ its. its ≡ came) Anything stop first
      (λ its same. subst (λ (o : Option Arrived). Plays (change n s s0 s1 b c) (takes_came o) Anything stop) (sym same)
      second))

module _ (v : PortsState) (n : ℕ) (j : JoinerState) (is : record { node = n; joiner = j } ≡ v) (s : Setup)
    (s0 s1 : List Event → Type 0) (a b c : Told) (until : ℕ) (came : Option Arrived) (from : Host) (bytes : List ℕ)
    (stop : Option Stop) where
  -- the same of what is known to have come
  pub take_brought : came ≡ Some (record { from = from; bytes = bytes })
      → Plays (change n s s0 s0 a b) (waits until) (λ its. its ≡ came) None
      → Plays (change n s s0 s1 b c) (takes_came (Some (record { from = from; bytes = bytes }))) Anything stop
      → Plays (change v.node s s0 s1 a c) (takes_until until) Anything stop
  take_brought brings first second =
      take_whole v n j is s s0 s1 a b c until came stop first
      (subst (λ (o : Option Arrived). Plays (change n s s0 s1 b c) (takes_came o) Anything stop) (sym brings) second)
