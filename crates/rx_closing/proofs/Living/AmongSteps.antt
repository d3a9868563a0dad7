-- What an event of a node leaves of this: no calls live there but some.
use Rattle.std.proofs.Common.{◌≡◌, ◌⊎◌, inl, inr, true, List, ◌∷◌, Some}
use Rattle.rx_model.specs.declared.event.Event.{Event}
use Rattle.rx_model.specs.declared.names.CallName.{CallName}
use Rattle.rx_rules.specs.After.{looks}
use Rattle.rx_rules.specs.Life.{is_live}
use Rattle.rx_rules.specs.Looks.{CallRecord, call_at}
use Rattle.rx_rules.specs.Rules.{Legal}
use Rattle.rx_rules.specs.Setup.{Setup, FitsSetup}
use Rattle.rx_between.proofs.Each.EachStep.{Starts}
use Rattle.rx_between.proofs.Each.EachItem.{In}
use Rattle.rx_closing.proofs.Frame.{AreAmong}
use Rattle.rx_closing.proofs.Rounds.LivesBack.{lived_or_starts}

-- where what starts is one of them
pub among_on : (s : Setup) (h : List Event) (e : Event) (cs : List CallName) → FitsSetup s → Legal s (e ∷ h)
    → ((d : CallName) (r : CallRecord) → Starts s (looks s h) e d r → In d cs) → AreAmong cs (looks s h)
    → AreAmong cs (looks s (e ∷ h))
among_on s h e cs fits legal starts among d r there living =
    of (lived_or_starts s h e d r fits legal there living)
  where
    of : ((q : CallRecord) × (call_at (looks s h) d ≡ Some q) × (is_live q.life ≡ true)) ⊎ Starts s (looks s h) e d r
        → In d cs
    of (inl q) = among d q.0 q.1 q.2
    of (inr new) = starts d r new
