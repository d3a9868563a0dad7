-- A client among the nodes, as the code finds and lends it.
use Rattle.std.proofs.Common.{◌≡◌, ◌<◌, ◌-◌, ℕ, zero, suc, List, [], ◌∷◌, length, get_or, set}
use Rattle.std.proofs.Common.{Some, option_map, refl, ap, sym, subst, arith}
use Rattle.std.specs.Prelude.{slice_get}
use Rattle.rx_model.specs.declared.names.Host.{Host}
use Rattle.rx_table.specs.Records.{changed_at}
use Rattle.rx_history.specs.Sides.{Node}
use Rattle.rx_node.specs.Node.{NodeState, setup_of}
use Rattle.rx_server.specs.Server.{ServerState}
use Rattle.rx_token.specs.Chosen.{chosen}
use Rattle.rx_joint.specs.Nodes.{IsClientThere, NodesState, client_of, with_client}
use Rattle.rx_joint.specs.declared.nodes.ClientAt.{ClientAt}

-- what is read of a list is there
pub read_some : {X : Type 0} (xs : List X) (k : ℕ) (x : X) → k < length xs → x ≡ get_or xs k x → slice_get xs k ≡ Some x
read_some [] k x low is = absurd (omega arith)
read_some (y ∷ ys) zero x low is = ap Some (sym is)
read_some (y ∷ ys) (suc k) x low is = read_some ys k x (omega arith) is

-- a client that changes in its place
set_changed : (cs : List ClientAt) (k : ℕ) (c : ClientAt) (w : NodeState) → slice_get cs k ≡ Some c
    → set cs k (record { host = c.host; client = w }) ≡ changed_at k (λ d. record d { client = w }) cs
set_changed [] k c w there = refl
set_changed (d ∷ ds) zero c w there =
    (let is : d ≡ c = cc (there) in ap (λ (x : ClientAt). record { host = x.host; client = w } ∷ ds) (sym is))
set_changed (d ∷ ds) (suc k) c w there = ap (λ xs. d ∷ xs) (set_changed ds k c w there)

-- the nodes as their fields
abbrev pub with_fields : Host → ServerState → List ClientAt → NodesState
with_fields host server cs = record { host = host; server = server; clients = cs }

-- the server as the laws see it
abbrev pub server_node : Host → ServerState → Node
server_node host server = record { host = host; setup = setup_of chosen server.node }

-- the client that the code reads
pub client_is : (host : Host) (server : ServerState) (cs : List ClientAt) (n : NodesState) (node : ℕ) (c : ClientAt)
    → with_fields host server cs ≡ n → IsClientThere n node → c ≡ get_or cs (node - 1) c
    → slice_get cs (node - 1) ≡ Some c
client_is host server cs n node c is there read =
    read_some cs (node - 1) c (omega (arith, ap (λ (m : NodesState). length m.clients) is, there.0, there.1)) read

pub client_at : (host : Host) (server : ServerState) (cs : List ClientAt) (n : NodesState) (node : ℕ) (c : ClientAt)
    → with_fields host server cs ≡ n → IsClientThere n node → c ≡ get_or cs (node - 1) c
    → client_of n node ≡ Some c.client
client_at host server cs n node c is there read =
    subst (λ m. client_of m node ≡ Some c.client) is
    (ap (option_map (λ d. d.client)) (client_is host server cs n node c is there read))

-- the nodes with what is left of it
pub client_back : (host : Host) (server : ServerState) (cs : List ClientAt) (n : NodesState) (node : ℕ) (c : ClientAt)
    (w : NodeState) → with_fields host server cs ≡ n → IsClientThere n node → c ≡ get_or cs (node - 1) c
    → with_fields host server (set cs (node - 1) (record { host = c.host; client = w })) ≡ with_client n node w
client_back host server cs n node c w is there read =
    subst (λ m. with_fields host server (set cs (node - 1) (record { host = c.host; client = w })) ≡ with_client m node
    w)
    is (ap (with_fields host server) (set_changed cs (node - 1) c w (client_is host server cs n node c is there read)))
