-- The nodes of a load are those of a world.
use Rattle.std.proofs.Common.{◌≢◌, ◌<◌, ◌^◌, ℕ, zero, suc, List, [], ◌∷◌, ◌++◌, reverse, refl}
use Rattle.std.proofs.Common.{subst}
use Rattle.std.proofs.Common.{arith, slice_get, IfSome, Option, Some, None}
use Rattle.rx_model.specs.declared.event.Noted.{Noted}
use Rattle.rx_class.specs.NullLaws.{null_fits}
use Rattle.rx_rules.specs.Setup.{FitsLimits, FitsSetup}
use Rattle.rx_history.specs.Sides.{Node, side}
use Rattle.rx_history.proofs.Laws.OnceLaw.{once_under_forgery}
use Rattle.rx_law.specs.Worlds.{AreApart, AreNodes, World}
use Rattle.rx_law.proofs.WorldLaw.{world-law}
use Rattle.rx_plan.specs.Follows.{server_node}
use Rattle.rx_plan.specs.Parts.{Came}
use Rattle.rx_plan.specs.Promises.{AreDistinct}
use Rattle.rx_plan.proofs.Allowed.{AreClients, allowed_before, are_nodes, sides_of}
use Rattle.rx_plan.proofs.Bags.{behind_none, carried_before}
use Rattle.rx_plan.proofs.Soundness.Sound.{Good}
use Rattle.rx_load.specs.Keeping.{LoadPromised, LoadPromises}
use Rattle.rx_load.specs.Loads.{Load, load_client, load_host, load_limits, load_nodes, load_part}
use Rattle.rx_load.proofs.Loading.{load_safe}

-- ---- the nodes

limits_fit : FitsLimits load_limits
limits_fit = record {
  some_conns = omega arith;
  few_conns = omega arith;
  some_calls = omega arith;
  few_calls = omega arith;
  some_slots = omega arith;
  few_slots = omega arith;
  wide = omega arith;
  narrow = omega arith;
}

client_fits : (node : ℕ) → node < 2 ^ 32 → FitsSetup (load_client node).setup
client_fits node low = record { kind = low; limits = limits_fit; class = null_fits }

abbrev load_clients : List Node
load_clients = load_client 1 ∷ load_client 2 ∷ load_client 3 ∷ load_client 4 ∷ []

clients_are : AreClients load_clients
clients_are = (
  (refl, client_fits 1 (omega arith)),
  (
    (refl, client_fits 2 (omega arith)),
    ((refl, client_fits 3 (omega arith)), ((refl, client_fits 4 (omega arith)), tt)),
  ),
)

abbrev load_server : Node
load_server = server_node (load_host 0) 1 load_limits None 0

server_fits : FitsSetup load_server.setup
server_fits = record { kind = (omega arith, omega arith); limits = limits_fit; class = null_fits }

pub nodes_are : AreNodes load_nodes
nodes_are = are_nodes load_server load_clients tt server_fits clients_are

-- a server is apart from every node
server_apart : (o : Option Node)
    → IfSome o (λ m. AreApart (server_node (load_host 0) 1 load_limits None 0).setup.kind m.setup.kind)
server_apart None = tt
server_apart (Some m) = tt

-- a client is apart from those with other epochs
client_apart : (a k : ℕ) → a ≢ k
    → IfSome (slice_get load_nodes k) (λ m. AreApart (load_client a).setup.kind m.setup.kind)
client_apart a zero other = tt
client_apart a (suc zero) other = λ same. other same.1
client_apart a (suc (suc zero)) other = λ same. other same.1
client_apart a (suc (suc (suc zero))) other = λ same. other same.1
client_apart a (suc (suc (suc (suc zero)))) other = λ same. other same.1
client_apart a (suc (suc (suc (suc (suc k))))) other = tt

nodes_apart : AreDistinct load_nodes
nodes_apart zero k other = server_apart (slice_get load_nodes k)
nodes_apart (suc zero) k other = client_apart 1 k other
nodes_apart (suc (suc zero)) k other = client_apart 2 k other
nodes_apart (suc (suc (suc zero))) k other = client_apart 3 k other
nodes_apart (suc (suc (suc (suc zero)))) k other = client_apart 4 k other
nodes_apart (suc (suc (suc (suc (suc j))))) k other = tt

-- ---- what holds of a history of theirs

good_now : (number calls : ℕ) (es : List Noted) (came : Came Load) → load_part number calls es came
    → Good (Unit {0}) load_nodes (reverse es)
good_now number calls es came made =
    subst (Good (Unit {0}) load_nodes) (behind_none es) (load_safe (Unit {0}) number calls es came made).good

world_of : (h : List Noted) → Good (Unit {0}) load_nodes h → World load_nodes h
world_of h good = record {
  sides = sides_of load_nodes h nodes_are good.allowed;
  carried = good.carried tt;
  apart = nodes_apart;
}

pub load_world : (number calls : ℕ) (es : List Noted) (came : Came Load) → load_part number calls es came
    → World load_nodes (reverse es)
load_world number calls es came made = world_of (reverse es) (good_now number calls es came made)

good_before : (later now : List Noted) → Good (Unit {0}) load_nodes (later ++ now) → Good (Unit {0}) load_nodes now
good_before later now good = record {
  allowed = allowed_before load_nodes later now good.allowed;
  carried = λ honest. carried_before load_nodes later now (good.carried honest);
}

promised_of : (h : List Noted) → World load_nodes h → LoadPromised h
promised_of h w = record {
  once = λ forgot. once_under_forgery load_server.setup (side 0 h) tt (w.sides.legal 0) forgot;
  law = λ times. world-law load_nodes h w times;
}

pub load_promises : (number calls : ℕ) (es : List Noted) (came : Came Load) → load_part number calls es came
    → LoadPromises es
load_promises number calls es came made later now is =
    promised_of now
    (world_of now
    (good_before later now (subst (Good (Unit {0}) load_nodes) is (good_now number calls es came made))))
