-- No event of a client that makes a call has a line, so its passes end for no want of one.
use Rattle.std.proofs.Common.{◌≡◌, refl, ℕ, List, Option, None, Some}
use Rattle.rx_asks.specs.View.{CallerState}
use Rattle.rx_model.specs.declared.event.Event.{Event}
use Rattle.rx_model.specs.declared.event.Event.TheVariants as events
use Rattle.rx_model.specs.declared.names.Host.{Host}
use Rattle.rx_rules.specs.Setup.{Setup}
use Rattle.rx_wire.specs.Wire.{Came as Arrived, Logged}
use Rattle.rx_wire_loop.specs.Calls.{calls}
use Rattle.rx_drive.specs.declared.stop.Stop.TheVariants as stops
use Rattle.rx_wire_loop.specs.Parts.{Came, Cut, One, Part, Place, Then, To, behind, ends, goes_on, makes, refuses}
use Rattle.rx_wire_loop.specs.Ports.{clocks, polls, takes, takes_came, takes_parts, until_of, waits}
use Rattle.rx_wire_loop.specs.Serves.{pass, plays}
use Rattle.rx_jumbo.specs.Parts.{parts_of}

-- passes end in a part for no want of a line's text
abbrev IsLineless : {A : Type 0} → Part A → Type 0
IsLineless part = (p : Place) (es : List Event) (ls : List Logged) → part p es ls (Cut stops.Unformatted) → ⊥

then_lineless : {A B : Type 0} (first : Part A) (next : A → Part B) → IsLineless first
    → ((a : A) → IsLineless (next a)) → IsLineless (Then first next)
then_lineless {A} {B} first next none others p es ls x = of x.came x.made x.goes
  where
    of : (came : Came A) → first p x.early x.early_log came
        → goes_on next came (behind x.early x.early_log p) x.late x.late_log (Cut stops.Unformatted) → ⊥
    of (To a) made goes = others a (behind x.early x.early_log p) x.late x.late_log goes
    of (Cut stops.Unformatted) made goes = none p x.early x.early_log made
    of (Cut stops.OutOfMemory) made goes = absurd (cc (goes.2))
    of (Cut stops.SinkFault) made goes = absurd (cc (goes.2))
    of (Cut stops.WireFault) made goes = absurd (cc (goes.2))
    of (Cut stops.Unnoted) made goes = absurd (cc (goes.2))
    of (Cut stops.Endless) made goes = absurd (cc (goes.2))

one_lineless : {A : Type 0} (event : A → Event) → IsLineless (One event)
one_lineless {A} event p es ls x = of es ls (Cut stops.Unformatted) x refl
  where
    of : (fs : List Event) (ms : List Logged) (came : Came A) → One event p fs ms came → came ≡ Cut stops.Unformatted
        → ⊥
    of fs ms came (makes a) is = absurd (cc (is))
    of fs ms came (refuses a) is = absurd (cc (is))

clocks_lineless : IsLineless clocks
clocks_lineless p es ls x = one_lineless (λ u. events.Clocked p.now) p es ls x

ends_lineless : {A : Type 0} (a : A) → IsLineless (ends (To a))
ends_lineless a p es ls x = absurd (cc (x.2))

polls_lineless : (most : ℕ) → IsLineless (polls most)
polls_lineless most p es ls x = x.reason

calls_lineless : (v : CallerState) → IsLineless (calls v)
calls_lineless v p es ls x = x.1.2

waits_lineless : (until : ℕ) → IsLineless (waits until)
waits_lineless until p es ls x = absurd (cc (x.0))

parts_lineless : (from : Host) (bs : List (List ℕ)) → IsLineless (takes_parts from bs)
parts_lineless from bs p es ls x = absurd (cc (x.0))

came_lineless : (came : Option Arrived) → IsLineless (takes_came came)
came_lineless None p es ls x = x
came_lineless (Some came) p es ls x =
    then_lineless clocks (λ u. takes_parts came.from (parts_of came.bytes)) clocks_lineless
    (λ u. parts_lineless came.from (parts_of came.bytes)) p es ls x

takes_lineless : (s : Setup) (end : Option ℕ) → IsLineless (takes s end)
takes_lineless s end p es ls x =
    then_lineless (waits (until_of s end p.history)) takes_came (waits_lineless (until_of s end p.history))
    came_lineless p es ls x

-- up to a take
pub play_lineless : (most : ℕ) (v : CallerState) → IsLineless (plays most calls v)
play_lineless most v p es ls x =
    then_lineless clocks (λ u. Then (polls most) (λ u. Then (calls v) (λ w. Then (polls most) (λ u. ends (To w)))))
    clocks_lineless
    (λ u. then_lineless (polls most) (λ u. Then (calls v) (λ w. Then (polls most) (λ u. ends (To w))))
    (polls_lineless most)
    (λ u. then_lineless (calls v) (λ w. Then (polls most) (λ u. ends (To w))) (calls_lineless v)
    (λ w. then_lineless (polls most) (λ u. ends (To w)) (polls_lineless most) (λ u. ends_lineless w)))) p es ls x

-- and whole
pub pass_lineless : (most : ℕ) (s : Setup) (end : Option ℕ) (v : CallerState)
    → IsLineless (pass (plays most calls) (takes s end) v)
pass_lineless most s end v p es ls x =
    then_lineless (plays most calls v) (λ w. Then (takes s end) (λ u. ends (To w))) (play_lineless most v)
    (λ w. then_lineless (takes s end) (λ u. ends (To w)) (takes_lineless s end) (λ u. ends_lineless w)) p es ls x
