-- The nodes of a load, and the world that it begins with.
use Rattle.std.proofs.Common.{◌≡◌, ◌≤◌, ◌<◌, ◌+◌, ◌∙◌, ℕ, zero, suc, List, [], ◌∷◌, ◌++◌, ap, arith, refl}
use Rattle.std.proofs.Common.{subst, sym, take}
use Rattle.rx_model.specs.declared.names.Host.{Host}
use Rattle.rx_model.specs.declared.names.Limits.{Limits}
use Rattle.rx_rules.specs.Classes.{null}
use Rattle.rx_rules.specs.Setup.{Client, Server, unprompted}
use Rattle.rx_history.specs.Sides.{Node}
use Rattle.rx_joint.specs.Nodes.{NodesState, Standing, nodes_of}
use Rattle.rx_load.specs.Loads.{first_stage, load_client, load_host, load_limits, load_nodes}
use Rattle.rx_stage.specs.Showing.{started}
use Rattle.rx_stage.specs.Shown.{Shows, WorldState, jobs_of, stage_of}

-- ---- nodes

-- one client more
clients_more : (client : ℕ) → 1 ≤ client → client < 5
    → take client load_nodes ++ load_client client ∷ [] ≡ take (client + 1) load_nodes
clients_more zero some few = absurd (omega arith)
clients_more (suc zero) some few = refl
clients_more (suc (suc zero)) some few = refl
clients_more (suc (suc (suc zero))) some few = refl
clients_more (suc (suc (suc (suc zero)))) some few = refl
clients_more (suc (suc (suc (suc (suc k))))) some few = absurd (omega arith)

-- the server alone
pub server_made : (new : List Node) (host : Host) (limits : Limits) → host ≡ load_host 0 → limits ≡ load_limits
    → new ≡ record { host = host; setup = unprompted (Server 1 0) limits null } ∷ [] → new ≡ take 1 load_nodes
server_made new host limits at within made =
    made
    ∙ ap (λ (h : Host). record { host = h; setup = unprompted (Server 1 0) limits null } ∷ []) at
    ∙ ap (λ (l : Limits). record { host = load_host 0; setup = unprompted (Server 1 0) l null } ∷ []) within

-- a client that is added to those before it
pub client_added : (old new : List Node) (host : Host) (limits : Limits) (client : ℕ) → 1 ≤ client → client < 5
    → old ≡ take client load_nodes → host ≡ load_host client → limits ≡ load_limits
    → new ≡ old ++ record { host = host; setup = unprompted (Client host client) limits null } ∷ []
    → new ≡ take (client + 1) load_nodes
client_added old new host limits client some few made at within added =
    added
    ∙ ap (λ ns. ns ++ record { host = host; setup = unprompted (Client host client) limits null } ∷ []) made
    ∙ ap (λ (h : Host). take client load_nodes
    ++ record { host = h; setup = unprompted (Client h client) limits null } ∷ []) at
    ∙ ap (λ (l : Limits). take client load_nodes ++ record {
      host = load_host client;
      setup = unprompted (Client (load_host client) client) l null;
    } ∷ []) within
    ∙ clients_more client some few

-- all of them
pub all_made : (ns : List Node) (client : ℕ) → ns ≡ take client load_nodes → client ≡ 5 → ns ≡ load_nodes
all_made ns client made end = made ∙ ap (λ k. take k load_nodes) end

-- ---- the world

start_is : (w : WorldState) (ns : NodesState) → w ≡ started ns 1 w.dispatcher → nodes_of ns ≡ load_nodes
    → jobs_of w ≡ [] → first_stage ≡ stage_of w []
start_is w ns kept made none =
    ap (λ (xs : List Node). record first_stage { nodes = xs }) (sym made)
    ∙ ap (λ js. record first_stage { nodes = nodes_of ns; jobs = js }) (sym none)
    ∙ ap (λ (v : WorldState). record (stage_of v []) { jobs = jobs_of w }) (sym kept)

-- a world of the nodes of a load, with nothing kept yet, shows its first stage
pub first_shown : (w : WorldState) (ns : NodesState) → w ≡ started ns 1 w.dispatcher → nodes_of ns ≡ load_nodes
    → Standing ns [] → jobs_of w ≡ [] → Shows w first_stage
first_shown w ns kept made standing none =
    record {
      is = start_is w ns kept made none;
      standing = subst (λ (v : WorldState). Standing v.nodes []) (sym kept) standing;
      service = ap (λ (v : WorldState). v.service) kept;
      of_nodes = tt;
      few = omega arith;
    }
