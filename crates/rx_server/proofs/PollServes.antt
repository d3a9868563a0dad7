-- A server behind a poll of its node.
use Rattle.std.proofs.Common.{◌∷◌, ℕ, List, Option, sym, subst}
use Rattle.rx_model.specs.declared.event.Event.TheVariants as events
use Rattle.rx_model.specs.declared.names.Host.{Host}
use Rattle.rx_rules.specs.After.{after, looks}
use Rattle.rx_rules.specs.Classes.{Class}
use Rattle.rx_rules.specs.Looks.{Looks}
use Rattle.rx_rules.specs.Setup.{Setup}
use Rattle.rx_history.proofs.Dimensions.DimsEvents.{polled_dims}
use Rattle.rx_node.specs.Mirrors.{Mirrors}
use Rattle.rx_node.specs.Node.{KeepsNode, NodeState, setup_of}
use Rattle.rx_node.specs.Steps.{AnswersNode}
use Rattle.rx_books.specs.Polled.{Polled}
use Rattle.rx_server.specs.Server.{Answered, IsServing, ServerState, Serves}
use Rattle.rx_server.proofs.RestLaws.{polled_rests}
use Rattle.rx_server.proofs.Serving.{parts_stay, role_stays, serves_quiet, serving_by, setup_by}

module _ (class : List ℕ → Class) (sv : ServerState) (new : NodeState) (kept : KeepsNode sv.node new) where
  -- what the node answers the server does
  pub poll_answers : (got : Option (Host × List ℕ)) → AnswersNode class sv.node new (events.Polled got)
      → Answered class sv (record sv { node = new }) (events.Polled got)
  poll_answers got answers h stands =
      let both = answers h (record { legal = stands.legal; mirrors = stands.serves.mirrors }) in (
        both.0,
        record {
          legal = both.1.legal;
          serves = subst
              (λ (s : Setup). Mirrors class new (looks s (events.Polled got ∷ h))
              → Serves class (record sv { node = new }) (looks s (events.Polled got ∷ h)))
              (sym (setup_by class sv.node new (parts_stay sv.node new kept))) serves both.1.mirrors;
        },
      )
    where
      l : Looks
      l = looks (setup_of class sv.node) h

      serves : Mirrors class new (after (setup_of class sv.node) (events.Polled got) l)
          → Serves class (record sv { node = new }) (after (setup_of class sv.node) (events.Polled got) l)
      serves mirrors =
          serves_quiet class sv new l (after (setup_of class sv.node) (events.Polled got) l)
          (role_stays sv.node new kept)
          (polled_dims (setup_of class sv.node) got l) (polled_rests (setup_of class sv.node) got l)
          mirrors stands.serves

  -- it serves on
  pub poll_serving : ((l : Looks) → Mirrors class sv.node l → Polled class new l) → IsServing class sv
      → IsServing class (record sv { node = new })
  poll_serving polled is =
      (let p = polled is.looks is.serves.mirrors in
      let d = p.dimmed in
      serving_by class sv new d.behind (parts_stay sv.node new kept)
      (serves_quiet class sv new is.looks d.behind (role_stays sv.node new kept) d.dims
      (record { firsts = d.firsts; entered = d.entered; proved = p.proved }) d.mirrors is.serves) is)
