-- The two ends of a call of a stage meet at its connection: the client's is with the server, for its service.
use Rattle.std.specs.Prelude.{option_map}
use Rattle.std.proofs.Common.{◌≡◌, ℕ, suc, refl, ap}
use Rattle.rx_model.specs.declared.names.CallName.{CallName}
use Rattle.rx_model.specs.Names.{connection_of}
use Rattle.rx_rules.specs.Setup.{Client, IsServer, Kind, Server}
use Rattle.rx_rules.proofs.EveryLaws.{Every}
use Rattle.rx_history.specs.Sides.{Node, side}
use Rattle.rx_plan.specs.Stages.{Stage}
use Rattle.rx_plan.proofs.Keys.PlanKeys.{served_side, service_at}
use Rattle.rx_plan.proofs.QuietEvents.{AreServed}
use Rattle.rx_plan.proofs.Keys.ServicesStay.{LinksTo}
use Rattle.rx_closing.specs.Living.{looks_of}
use Rattle.rx_closing.proofs.Conns.PeersTo.{client_conn}
use Rattle.rx_closing.proofs.Conns.PlanLinks.{links_side}
use Rattle.rx_closing.proofs.Conns.PlanPeers.{AreLinked}
use Rattle.rx_closing.proofs.Far.FarStands.{scene_fed}
use Rattle.rx_closing.proofs.Frame.{OneOf}
use Rattle.rx_closing.proofs.Polls.OnePoll.{ConnIs}

-- what a server is for
pub record ServesFor (server : Node) : Type 0 where
  pub service : ℕ
  pub nonces : ℕ
  pub is : server.setup.kind ≡ Server service nonces

kind_for : (server : Node) (q : Kind) → server.setup.kind ≡ q → IsServer q → ServesFor server
kind_for server (Server service nonces) is serves = record { service = service; nonces = nonces; is = is }
kind_for server (Client host epoch) is serves = absurd serves

-- the call's datagrams are for the server
pub scene_conn : (c : CallName) (k : ℕ) (client server : Node) (s : Stage) (service : ℕ) → OneOf c k client server s
    → AreLinked s → Every (LinksTo service) (side (suc k) s.history)
    → ConnIs (looks_of s (suc k) client) (connection_of c) server.host service
scene_conn c k client server s service scene linked served =
    client_conn client.setup c.host c.epoch scene.client_is server.host service (side (suc k) s.history)
    (connection_of c)
    (links_side (suc k) server.host s.nodes s.history
    (ap (option_map (λ (n : Node). n.host)) scene.server_there) linked) served

module _ (c : CallName) (k : ℕ) (client server : Node) (s : Stage) (scene : OneOf c k client server s) where
  pub scene_for : ServesFor server
  scene_for = kind_for server server.setup.kind refl (scene_fed c k client server s scene).server_kind

  -- the client's connection is with the server
  pub work_conn : (f : ServesFor server) → AreServed s.nodes s.history → AreLinked s
      → ConnIs (looks_of s (suc k) client) (connection_of c) server.host f.service
  work_conn f served linked =
      scene_conn c k client server s f.service scene linked
      (served_side (suc k) f.service s.nodes s.history
      (service_at s.nodes server f.service f.nonces scene.server_there f.is)
      served)
