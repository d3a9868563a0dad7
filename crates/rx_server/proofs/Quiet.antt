-- A public method that brings no call to life, enters no connection and keeps no packet 1.
use Rattle.std.proofs.Common.{ℕ, List}
use Rattle.rx_model.specs.declared.event.Event.{Event}
use Rattle.rx_rules.specs.After.{after, looks}
use Rattle.rx_rules.specs.Classes.{Class}
use Rattle.rx_rules.specs.Looks.{Looks}
use Rattle.rx_rules.specs.Rules.{Allowed, AllowedAt, AllowedServer}
use Rattle.rx_rules.specs.Setup.{Client, Kind, Server}
use Rattle.rx_history.proofs.Dimensions.Dims.{Dims}
use Rattle.rx_node.specs.Mirrors.{Mirrors}
use Rattle.rx_node.specs.Node.{NodeState, setup_of}
use Rattle.rx_server.specs.Server.{Answered, IsServerOf, IsServing, ServerState, Serves}
use Rattle.rx_server.proofs.RestLaws.{Rests}
use Rattle.rx_server.proofs.Serving.{SameParts, answered_by, role_of, serves_quiet, serving_by, setup_by}

-- ---- what it may answer

-- what the rules allow a server they allow it
pub served_allows : (sv : ServerState) (class : List ℕ → Class) (l : Looks) (e : Event)
    → IsServerOf sv.node.kind sv.service
    → AllowedServer (setup_of class sv.node) l e → Allowed (setup_of class sv.node) l e
served_allows sv class l e is allowed = of sv.node.kind is
  where
    of : (kind : Kind) → IsServerOf kind sv.service → AllowedAt kind (setup_of class sv.node) l e
    of (Server service nonces) is = allowed
    of (Client host epoch) is = absurd is

-- ---- a public method

-- it answers an event that brings no call to life, enters no connection and keeps no packet 1
pub record Quiet (class : List ℕ → Class) (sv : ServerState) (new : NodeState) (e : Event) : Type 0 where
  pub parts : SameParts sv.node new
  pub allowed : (l : Looks) → Serves class sv l → AllowedServer (setup_of class sv.node) l e
  pub mirrors : (l : Looks) → Serves class sv l → Mirrors class new (after (setup_of class sv.node) e l)
  pub dims : (l : Looks) → Dims l (after (setup_of class sv.node) e l)
  pub rests : (l : Looks) → Rests l (after (setup_of class sv.node) e l)

module _ (class : List ℕ → Class) (sv : ServerState) (new : NodeState) (e : Event) (quiet : Quiet class sv new e) where
  pub quiet_serves : (l : Looks) → Serves class sv l
      → Serves class (record sv { node = new }) (after (setup_of class sv.node) e l)
  quiet_serves l serves =
      serves_quiet class sv new l (after (setup_of class sv.node) e l) (role_of sv.node new quiet.parts) (quiet.dims l)
      (quiet.rests l)
      (quiet.mirrors l serves) serves

  -- its answer
  pub quiet_answers : IsServing class sv → Answered class sv (record sv { node = new }) e
  quiet_answers is =
      answered_by class sv (record sv { node = new }) e (setup_by class sv.node new quiet.parts)
      (λ h stands. (
        served_allows sv class (looks (setup_of class sv.node) h) e is.server
            (quiet.allowed (looks (setup_of class sv.node) h) stands.serves),
        quiet_serves (looks (setup_of class sv.node) h) stands.serves,
      ))

  -- it serves on
  pub quiet_serving : IsServing class sv → IsServing class (record sv { node = new })
  quiet_serving is =
      serving_by class sv new (after (setup_of class sv.node) e is.looks) quiet.parts
      (quiet_serves is.looks is.serves) is
