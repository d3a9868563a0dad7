-- Each number of the look-ups of a legal history fits its field.
use Rattle.std.proofs.Common.{◌≡◌, List, [], ◌∷◌, refl, sym, subst}
use Rattle.rx_model.specs.declared.event.Event.{Event}
use Rattle.rx_rules.specs.After.{looks}
use Rattle.rx_rules.specs.Looks.{Looks}
use Rattle.rx_rules.specs.Rules.{Legal}
use Rattle.rx_rules.specs.Setup.{Setup, Kind, Server, Client, FitsSetup, IsServer}
use Rattle.rx_history.proofs.ClientHistory.{client-calls}
use Rattle.rx_history.proofs.Order.OrderlyHistory.{orderly_history}
use Rattle.rx_history.proofs.Server.{Standing}
use Rattle.rx_history.proofs.ServerStands.{server-stands}
use Rattle.rx_history.proofs.Fit.FitCall.{CallsFit}
use Rattle.rx_history.proofs.EventFacts.{event_fits}
use Rattle.rx_history.proofs.Fit.FitEvents.{calls_after}
use Rattle.rx_history.proofs.Fit.FitChannels.{ConnsFit}
use Rattle.rx_history.proofs.Fit.FitConnEvents.{conns_after}
use Rattle.rx_history.proofs.Fit.FitStrays.{StraysFit, strays_after}

-- what stands of a node of either kind
pub node_stands : (s : Setup) (h : List Event) → FitsSetup s → Legal s h → Standing s (looks s h)
node_stands s h fits legal = of s.kind refl
  where
    of : (kind : Kind) → s.kind ≡ kind → Standing s (looks s h)
    of (Server service nonces) is = server-stands s h (subst (λ (k : Kind). IsServer k) (sym is) tt) fits legal
    of (Client host epoch) is = (client-calls s host epoch h is fits legal).standing

-- of all that a node keeps
pub record FitsLooks (s : Setup) (l : Looks) : Type 0 where
  pub conns : ConnsFit s l
  pub calls : CallsFit l.calls
  pub strays : StraysFit l

-- each number of the look-ups of a legal history fits its field
pub fit_history : (s : Setup) (h : List Event) → FitsSetup s → Legal s h → FitsLooks s (looks s h)
fit_history s [] fits legal = record { conns = tt; calls = λ c. tt; strays = tt }
fit_history s (e ∷ h) fits legal =
    let old = fit_history s h fits legal.1 in
    let o = orderly_history s h legal.1 in
    let is = event_fits s (looks s h) fits (node_stands s h fits legal.1).conns o old.calls e legal.0 in
    record {
      conns = conns_after s (looks s h) e fits is o old.calls old.conns;
      calls = calls_after s (looks s h) e fits is old.calls;
      strays = strays_after s (looks s h) e is old.strays;
    }
