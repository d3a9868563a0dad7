-- What a stage with one call among others brings to the deliveries of its datagrams: its two ends meet, and the
-- client's connections are with the server, for its service.
use Rattle.std.proofs.Common.{◌≡◌, ◌++◌, ℕ, suc, List, [], ◌∷◌, refl, ap, sym, subst, option_map, Some}
use Rattle.std.specs.Prelude.{slice_get}
use Rattle.rx_model.specs.declared.event.Noted.{Noted}
use Rattle.rx_model.specs.declared.names.CallName.{CallName}
use Rattle.rx_model.specs.Names.{connection_of}
use Rattle.rx_rules.specs.Setup.{Client, IsServer, Kind, Server}
use Rattle.rx_rules.proofs.EveryLaws.{Every}
use Rattle.rx_history.specs.Sides.{IsClientAt, Node, side}
use Rattle.rx_law.proofs.World.{if-some}
use Rattle.rx_between.proofs.LawsTrue.{came_in}
use Rattle.rx_plan.specs.Stages.{Stage}
use Rattle.rx_plan.proofs.Keys.PlanKeys.{served_side, service_at}
use Rattle.rx_plan.proofs.QuietEvents.{AreServed}
use Rattle.rx_closing.specs.Living.{looks_of}
use Rattle.rx_closing.proofs.Conns.PeersTo.{IsSo, IsTo, conns_hold, peers_stay}
use Rattle.rx_closing.proofs.Conns.PlanLinks.{links_side}
use Rattle.rx_closing.proofs.Conns.PlanPeers.{AreLinked, LinksHost}
use Rattle.rx_closing.proofs.Far.FarStands.{scene_fed}
use Rattle.rx_closing.proofs.Frame.{IsPlain, OneOf}
use Rattle.rx_closing.proofs.Messages.Arrives.{Meet}
use Rattle.rx_closing.proofs.Rounds.Chains.{Adds}
use Rattle.rx_jobs.proofs.Driving.{every-back}

home_is : (c : CallName) (n : Node) (q : Kind) → q ≡ Client c.host c.epoch → IsClientAt n.host q → n.host ≡ c.host
home_is c n q is at =
    (let own : c.host ≡ n.host = subst (IsClientAt n.host) is at in sym own)

module _ (c : CallName) (k : ℕ) (client server : Node) (s : Stage) (one : OneOf c k client server s) where
  plain : (j : ℕ) (n : Node) → slice_get s.nodes j ≡ Some n → IsPlain n
  plain j n there = if-some (slice_get s.nodes j) n IsPlain there (one.plain j)

  -- its ends meet
  pub one_meets : (service nonces : ℕ) → server.setup.kind ≡ Server service nonces
      → Meet c k client server service nonces s.history
  one_meets service nonces kind =
      record {
        client_is = one.client_is;
        server_is = kind;
        client_open = (plain (suc k) client one.client_there).open_;
        server_open = (plain 0 server one.server_there).open_;
        home =
            home_is c client client.setup.kind one.client_is
            (if-some (slice_get s.nodes (suc k)) client (λ (n : Node). IsClientAt n.host n.setup.kind)
            one.client_there (one.world.sides.nodes_are.clients k));
        fed = scene_fed c k client server s one;
        came =
            came_in s.nodes s.history one.world (suc k) client server (connection_of c) one.client_there one.client_is
            one.server_there;
      }

  -- each connection of the client is with the server, at an earlier stage too
  pub one_peers : AreLinked s → (u : Stage) → Adds u.history s.history
      → Every (IsTo server.host) (looks_of u (suc k) client).conns
  one_peers linked u back =
      conns_hold client.setup c.host c.epoch one.client_is (λ a i. a ≡ server.host) (side (suc k) u.history)
      (links_side (suc k) server.host s.nodes u.history
      (ap (option_map (λ (n : Node). n.host)) one.server_there)
      (every-back (λ (e : Noted). LinksHost s.nodes e.event) back.more u.history
      (subst (λ (h : List Noted). Every (λ (e : Noted). LinksHost s.nodes e.event) h) back.is linked)))

  -- and for its service
  pub one_conns : (service nonces : ℕ) → server.setup.kind ≡ Server service nonces → AreLinked s
      → AreServed s.nodes s.history
      → Every (IsSo (λ host its. (host ≡ server.host) × (its ≡ service))) (looks_of s (suc k) client).conns
  one_conns service nonces kind linked served =
      peers_stay client.setup c.host c.epoch one.client_is server.host service (side (suc k) s.history)
      (links_side (suc k) server.host s.nodes s.history
      (ap (option_map (λ (n : Node). n.host)) one.server_there) linked)
      (served_side (suc k) service s.nodes s.history
      (service_at s.nodes server service nonces one.server_there kind) served)

-- the service of its server
pub one_serves : (c : CallName) (k : ℕ) (client server : Node) (s : Stage) → OneOf c k client server s
    → (service : ℕ) × (nonces : ℕ) × (server.setup.kind ≡ Server service nonces)
one_serves c k client server s one = of server.setup.kind refl (scene_fed c k client server s one).server_kind
  where
    of : (q : Kind) → server.setup.kind ≡ q → IsServer q
        → (service : ℕ) × (nonces : ℕ) × (server.setup.kind ≡ Server service nonces)
    of (Server service nonces) is serves = (service, nonces, is)
    of (Client host epoch) is serves = absurd serves
