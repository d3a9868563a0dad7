-- The polls, deliveries and turns of a round move no clock.
use Rattle.std.proofs.Common.{◌≡◌, ◌==◌, cond, ℕ, Bool, true, false, List, ◌∷◌, refl, ◌∙◌}
use Rattle.rx_model.specs.declared.event.Event.{Event}
use Rattle.rx_model.specs.declared.event.Event.TheVariants as events
use Rattle.rx_model.specs.declared.event.Noted.{Noted}
use Rattle.rx_jobs.specs.Handlers.{Handlers}
use Rattle.rx_history.specs.Sides.{Node, moment, with_clock}
use Rattle.rx_wire.specs.Turns.{noted}
use Rattle.rx_plan.specs.Stages.{Stage}
use Rattle.rx_rounds.proofs.Rounded.{RoundMade}
use Rattle.rx_closing.proofs.Rounds.TameParts.{IsTame, deliveries_lead, polls_lead, serve_lead, turns_at_lead}

-- the moment of this node is this one
abbrev IsAt : ℕ → ℕ → List Node → List Noted → Type 0
IsAt j now nodes h = moment j h ≡ now

tame_clock : (e : Event) (now : ℕ) → IsTame e → with_clock e now ≡ now
tame_clock (events.Clocked moment) now tame = absurd tame
tame_clock e now tame = refl

tame_moment : (j now : ℕ) (nodes : List Node) (h : List Noted) (node : ℕ) (e : Event) → IsTame e → IsAt j now nodes h
    → IsAt j now nodes (noted node e ∷ h)
tame_moment j now nodes h node e tame is = by (node == j)
  where
    by : (b : Bool) → cond b (with_clock e (moment j h)) (moment j h) ≡ now
    by true = tame_clock e (moment j h) tame ∙ is
    by false = is

-- each moment stays through the parts of a round but its end
pub record MomentsStay (g : Handlers) (s t : Stage) (r : RoundMade g s t) : Type 0 where
  pub polled : (j : ℕ) → moment j r.polled.stage.history ≡ moment j s.history
  pub delivered : (j : ℕ) → moment j r.delivered.history ≡ moment j s.history
  pub served : (j : ℕ) → moment j r.served.history ≡ moment j s.history
  pub called : (j : ℕ) → moment j r.called.history ≡ moment j s.history

pub moments_stay : (g : Handlers) (s t : Stage) (r : RoundMade g s t) → MomentsStay g s t r
moments_stay g s t r =
    record {
      polled = λ j. polled_at j;
      delivered = λ j. delivered_at j;
      served = λ j. served_at j;
      called = λ j. called_at j;
    }
  where
    polled_at : (j : ℕ) → moment j r.polled.stage.history ≡ moment j s.history
    polled_at j =
        polls_lead g (IsAt j (moment j s.history)) (tame_moment j (moment j s.history)) s refl r.polls_are.0 r.polled
        r.polls_are.1

    delivered_at : (j : ℕ) → moment j r.delivered.history ≡ moment j s.history
    delivered_at j =
        deliveries_lead g (IsAt j (moment j s.history)) (tame_moment j (moment j s.history)) r.polled.given
        r.polled.stage (polled_at j) r.delivers_are.0 r.delivered r.delivers_are.1

    served_at : (j : ℕ) → moment j r.served.history ≡ moment j s.history
    served_at j =
        serve_lead g (IsAt j (moment j s.history)) (tame_moment j (moment j s.history)) r.delivered (delivered_at j)
        r.serves_are.0 r.served r.serves_are.1

    called_at : (j : ℕ) → moment j r.called.history ≡ moment j s.history
    called_at j =
        turns_at_lead g (IsAt j (moment j s.history)) (tame_moment j (moment j s.history)) r.served (served_at j)
        r.calls_are.0 r.called r.calls_are.1
