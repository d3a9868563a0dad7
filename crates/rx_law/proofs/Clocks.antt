-- Clocks that go alike between any two places go alike between the client's own events.
use Rattle.std.proofs.Common.{◌≡◌, ◌==◌, ℕ, cond, Bool, true, false, List, [], ◌∷◌, refl, subst, arith}
use Rattle.rx_model.specs.declared.event.Event.{Event}
use Rattle.rx_model.specs.declared.event.Event.TheVariants as events
use Rattle.rx_model.specs.declared.event.Noted.{Noted}
use Rattle.rx_history.specs.Sides.{moment, with_clock}
use Rattle.rx_law.specs.Times.{AdvancesAlike, AdvancesAlways, GoAlike, GoAlways, is_clock}

-- only a clock event moves a clock
pub clock-stays : (e : Event) (n : ℕ) → is_clock e ≡ false → with_clock e n ≡ n
clock-stays (events.Clocked now) n is = absurd cc
clock-stays (events.Linked to service first got) n is = refl
clock-stays (events.Called cid got) n is = refl
clock-stays (events.Wrote c offered got bytes) n is = refl
clock-stays (events.Shut c got) n is = refl
clock-stays (events.HasRead c max got bytes) n is = refl
clock-stays (events.Ended c got) n is = refl
clock-stays (events.Cancelled c code got) n is = refl
clock-stays (events.Accepted got) n is = refl
clock-stays (events.Finished c code got) n is = refl
clock-stays (events.Taken from bytes got) n is = refl
clock-stays (events.Polled got) n is = refl

pub moment-stays : (n : ℕ) (e : Noted) (h : List Noted) → is_clock e.event ≡ false → moment n (e ∷ h) ≡ moment n h
moment-stays n e h is = of (e.node == n)
  where
    of : (b : Bool) → cond b (with_clock e.event (moment n h)) (moment n h) ≡ moment n h
    of true = clock-stays e.event (moment n h) is
    of false = refl

advances : (server client : ℕ) (h : List Noted) (now own : ℕ) → AdvancesAlways server client h now own
    → AdvancesAlike server client h now own
advances server client [] now own always = tt
advances server client (e ∷ h) now own always = (
  λ acts. (
      let a = moment-stays client e h acts.1 in
      let b = moment-stays server e h acts.1 in
      let is = always.0 in
      omega arith),
  advances server client h now own always.1,
)

-- the same of each two of its events
pub always-alike : (server client : ℕ) (h : List Noted) → GoAlways server client h → GoAlike server client h
always-alike server client [] always = tt
always-alike server client (e ∷ h) always = (
  λ acts. (
      let a = moment-stays client e h acts.1 in
      let b = moment-stays server e h acts.1 in
      advances server client h (moment server h) (moment client h)
      (subst (λ (t : ℕ). AdvancesAlways server client h (moment server h) t) a
      (subst (λ (t : ℕ). AdvancesAlways server client h t (moment client (e ∷ h))) b always.0))),
  always-alike server client h always.1,
)
