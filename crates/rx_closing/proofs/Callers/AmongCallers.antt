-- What a change that brings no call to life leaves of this: no calls live there but some.
use Rattle.std.proofs.Common.{◌≡◌, true, List, Option, Some, None, refl, ap, ◌∙◌}
use Rattle.rx_model.specs.declared.names.CallName.{CallName}
use Rattle.rx_rules.specs.Life.{is_live}
use Rattle.rx_rules.specs.Looks.{CallRecord, Looks, call_at, is_call}
use Rattle.rx_history.proofs.Dimensions.Dims.{Dims}
use Rattle.rx_history.proofs.Dimensions.DimsLeave.{live_stays}
use Rattle.rx_closing.proofs.Frame.{AreAmong}
use Rattle.rx_closing.proofs.Polls.LiveGivings.{LivesIn}

living_of : (l : Looks) (c : CallName) (o : Option CallRecord) → call_at l c ≡ o
    → is_call (λ k. is_live k.life) o ≡ true → LivesIn l c
living_of l c None is lives = absurd cc
living_of l c (Some k) is lives = record { call = k; there = is; living = lives }

-- calls that live among some do so still
pub among_stays : (cs : List CallName) (l m : Looks) → Dims l m → AreAmong cs l → AreAmong cs m
among_stays cs l m dims among d r there living =
    let now : is_call (λ k. is_live k.life) (call_at m d) ≡ true = ap (is_call (λ k. is_live k.life)) there ∙ living in
    let before = living_of l d (call_at l d) refl (live_stays l m d dims now) in
    among d before.call before.there before.living
