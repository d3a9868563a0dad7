-- The nodes of a plan: its server, and the clients of the lines right behind it.
use Rattle.std.proofs.Common.{◌≡◌, [], ◌∷◌, None, refl}
use Rattle.rx_model.specs.declared.names.Host.{Host}
use Rattle.rx_model.specs.declared.names.Limits.{Limits}
use Rattle.rx_script.specs.declared.plan.PlanLine.TheVariants as lines
use Rattle.rx_plan.specs.Follows.{client_node, server_node}
use Rattle.rx_plan.specs.Promises.{plan_nodes}

-- the limits of a line that names none
abbrev limits : Limits
limits = record { conns = 1024; calls = 64; slots = 2048; window = 32 }

abbrev server : Host
server = record { addr = 167772161; port = 7000 }

abbrev client : Host
client = record { addr = 167772162; port = 7001 }

-- a client line behind a line that makes no node makes none either
pub two_nodes :
    plan_nodes
    (record { line = 1; what = lines.Server server 1 limits None 0 }
    ∷ record { line = 2; what = lines.Client client 1 limits None }
    ∷ record { line = 3; what = lines.Connect 1 1 }
    ∷ record { line = 4; what = lines.Client client 2 limits None }
    ∷ [])
    ≡ server_node server 1 limits None 0 ∷ client_node client 1 limits None ∷ []
two_nodes = refl

-- without a server line first there are none
pub no_nodes : plan_nodes (record { line = 1; what = lines.Client client 1 limits None } ∷ []) ≡ []
no_nodes = refl
