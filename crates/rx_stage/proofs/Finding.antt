-- What is there, from what a run keeps.
use Rattle.std.proofs.Common.{◌≡◌, ◌<◌, ◌≤◌, ◌∙◌, ◌&&◌, ℕ, zero, suc, List, [], ◌∷◌}
use Rattle.std.proofs.Common.{Some}
use Rattle.std.proofs.Common.{refl, ap, length, map, arith, slice_get, option_map, unwrap_or}
use Rattle.std.proofs.lemmas.List.{length-map}
use Rattle.rx_model.specs.declared.names.Host.{Host}
use Rattle.rx_joint.specs.Nodes.{IsNodeThere, NodesState, client_node, host_of, nodes_of}
use Rattle.rx_joint.specs.declared.nodes.ClientAt.{ClientAt}
use Rattle.rx_stage.specs.Shown.{Shows, WorldState}
use Rattle.rx_plan.specs.Stages.{Stage, host_at}
use Rattle.rx_stage.proofs.Stepping.{nodes_shown}

-- how many nodes there are
pub count_shown : (w : WorldState) (s : Stage) → Shows w s → length s.nodes ≡ suc (length w.nodes.clients)
count_shown w s shown = ap length (nodes_shown w s shown) ∙ ap suc (length-map w.nodes.clients client_node)

-- ---- hosts

pub host_in : (cs : List ClientAt) (k : ℕ) (other : Host) → k < length cs
    → option_map (λ n. n.host) (slice_get (map client_node cs) k) ≡ Some (unwrap_or (option_map (λ c. c.host)
    (slice_get cs k)) other)
host_in [] k other less = absurd (omega (arith, less))
host_in (c ∷ cs) zero other less = refl
host_in (c ∷ cs) (suc k) other less = host_in cs k other (omega (arith, less))

pub host_there : (n : NodesState) (node : ℕ) → IsNodeThere n node
    → option_map (λ m. m.host) (slice_get (nodes_of n) node) ≡ Some (host_of n node)
host_there n zero there = refl
host_there n (suc k) there = host_in n.clients k n.host (omega (arith, there))

-- the host of a node that is there
pub host_shown : (w : WorldState) (s : Stage) (node : ℕ) → Shows w s → IsNodeThere w.nodes node
    → host_at s node ≡ Some (host_of w.nodes node)
host_shown w s node shown there =
    ap (λ ns. option_map (λ m. m.host) (slice_get ns node)) (nodes_shown w s shown) ∙ host_there w.nodes node there
