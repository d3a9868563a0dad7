-- A node's clock never goes back; a node acted lately where the server's clock went on for five minutes at most; and a
-- call that isn't silent was heard of lately.
use Rattle.std.proofs.Common.{◌≡◌, ◌<◌, ◌==◌, cond, ◌≤◌, ◌+◌, ◌-◌, ◌++◌, ◌&&◌, nat_le, ℕ, Bool, true, false, List, []}
use Rattle.std.proofs.Common.{◌∷◌, ◌∙◌, ap, sym, append_assoc, leb-false, arith}
use Rattle.rx_model.specs.declared.event.Event.{Event}
use Rattle.rx_model.specs.declared.event.Event.TheVariants as events
use Rattle.rx_model.specs.declared.event.Noted.{Noted}
use Rattle.rx_model.specs.declared.wire.TheConstants.{SILENCE_MS}
use Rattle.rx_rules.specs.Life.{is_active}
use Rattle.rx_rules.specs.Looks.{CallRecord, Looks}
use Rattle.rx_rules.specs.Records.{is_silent}
use Rattle.rx_rules.specs.Rules.{AllowedAt, Legal}
use Rattle.rx_rules.specs.After.{looks}
use Rattle.rx_rules.specs.Setup.{Client, Kind, Server, Setup}
use Rattle.rx_rules.proofs.EveryLaws.{every-append}
use Rattle.rx_history.proofs.Moments.{now-side}
use Rattle.rx_history.specs.Sides.{moment, side, with_clock}
use Rattle.rx_law.proofs.Joint.{legal-before}
use Rattle.rx_law.specs.Times.{is_clock}
use Rattle.rx_wire.specs.Turns.{noted}
use Rattle.rx_closing.proofs.Polls.PollsAct.{Acted, AreStill, moments_still}

-- ---- moments

still_over : (i : ℕ) (es : List Noted) (e : Noted) (before : List Noted) → AreStill (es ++ e ∷ [])
    → moment i (es ++ e ∷ before) ≡ moment i before
still_over i [] e before still = moments_still i (e ∷ []) before still
still_over i (x ∷ es) e before still =
    moments_still i (x ∷ []) (es ++ e ∷ before) (still.0, tt) ∙ still_over i es e before still.1

allowed_clock : (kind : Kind) (s : Setup) (l : Looks) (now : ℕ) → AllowedAt kind s l (events.Clocked now) → l.now ≤ now
allowed_clock (Server service nonces) s l now allowed = allowed.0
allowed_clock (Client host epoch) s l now allowed = allowed.0

one_rises : (s : Setup) (j : ℕ) (e : Noted) (h : List Noted) → Legal s (side j (e ∷ h)) → moment j h ≤ moment j (e ∷ h)
one_rises s j e h legal = of (e.node == j) legal
  where
    on : (event : Event) → AllowedAt s.kind s (looks s (side j h)) event → moment j h ≤ with_clock event (moment j h)
    on (events.Clocked now) allowed =
        (let same = now-side s j h in
        let late = allowed_clock s.kind s (looks s (side j h)) now allowed in
        omega (arith, same, late))
    on event allowed = omega arith

    of : (b : Bool) → Legal s (cond b (e.event ∷ side j h) (side j h))
        → moment j h ≤ cond b (with_clock e.event (moment j h)) (moment j h)
    of true legal_ = on e.event legal_.0
    of false legal_ = omega arith

-- a node's clock never goes back
pub moments_rise : (s : Setup) (j : ℕ) (es h : List Noted) → Legal s (side j (es ++ h))
    → moment j h ≤ moment j (es ++ h)
moments_rise s j [] h legal = omega arith
moments_rise s j (e ∷ es) h legal =
    (let one = one_rises s j e (es ++ h) legal in
    let rest = moments_rise s j es h (legal-before s (e.node == j) e.event (side j (es ++ h)) legal) in
    omega (arith, one, rest))

-- a node acted, and the server's clock went on for at most five minutes since
pub record ActedLately (j : ℕ) (h : List Noted) : Type 0 where
  pub since : List Noted
  pub event : Event
  pub before : List Noted
  pub is : h ≡ since ++ noted j event ∷ before
  pub acts : is_clock event ≡ false
  pub near : moment 0 h ≤ moment 0 before + 300000

pub acted_lately : (j : ℕ) (h later : List Noted) → Acted j h → moment 0 (later ++ h) ≤ moment 0 h + 300000
    → ActedLately j (later ++ h)
acted_lately j h later a near =
    record {
      since = later ++ a.since;
      event = a.event;
      before = a.before;
      is =
          ap (λ (g : List Noted). later ++ g) a.is ∙ sym (append_assoc later a.since (noted j a.event ∷ a.before));
      acts = a.acts;
      near = (let same : moment 0 h ≡ moment 0 a.before =
          ap (moment 0) a.is ∙ still_over 0 a.since (noted j a.event) a.before
          (every-append (λ (n : Noted). is_clock n.event ≡ false) a.since (noted j a.event ∷ []) a.still
          (a.acts, tt)) in
          omega (arith, same, near));
    }

-- a call that is at work and isn't silent was heard of lately
pub awake_near : (now : ℕ) (k : CallRecord) → is_active k.life ≡ true → is_silent now k ≡ false
    → now ≤ k.looks.heard + 12000
awake_near now k active awake =
    (let short : nat_le SILENCE_MS (now - k.looks.heard) ≡ false =
    ap (λ (b : Bool). b && nat_le SILENCE_MS (now - k.looks.heard)) (sym active) ∙ awake in
    let less : now - k.looks.heard < SILENCE_MS = leb-false SILENCE_MS (now - k.looks.heard) short in
    omega (arith, less))
