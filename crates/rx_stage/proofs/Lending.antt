-- Nodes of which one was lent and came back.
use Rattle.std.proofs.Common.{◌≡◌, ◌≢◌, ◌-◌, ◌∷◌, ℕ, zero, suc, List, [], Option, Some, None, refl, sym}
use Rattle.std.proofs.Common.{◌∙◌, subst, ap, option_map, arith, length, map}
use Rattle.std.specs.Prelude.{IfSome, IsSomeAnd, slice_get}
use Rattle.std.proofs.lemmas.Option.{slice_get-map}
use Rattle.rx_model.specs.declared.event.Event.{Event}
use Rattle.rx_model.specs.declared.event.Noted.{Noted}
use Rattle.rx_history.specs.Sides.{Node, side}
use Rattle.rx_rules.specs.Setup.{Setup}
use Rattle.rx_node.specs.Node.{NodeState, setup_of}
use Rattle.rx_node.specs.Steps.{StandsNode}
use Rattle.rx_node.proofs.Steps.TableSteps.{changed-length, changed-other, changed-own, decided}
use Rattle.rx_server.specs.Server.{ServerState, Stands}
use Rattle.rx_token.specs.Chosen.{chosen}
use Rattle.rx_table.specs.Records.{changed_at}
use Rattle.rx_joint.specs.declared.nodes.ClientAt.{ClientAt}
use Rattle.rx_joint.specs.Nodes.{IsClientThere, IsNodeThere, NodesState, Standing, client_node, client_of, nodes_of}
use Rattle.rx_joint.specs.Nodes.{with_client, with_server}
use Rattle.rx_joint.proofs.Standing.{changed, changed_nodes}
use Rattle.rx_joint.proofs.Waiting.{some_stands}

-- behind more events of one node, which stands for its side then, all stand
abbrev pub Lends : NodesState → NodesState → ℕ → (List Event → Type 0) → Type 0
Lends n new node stands =
    (h t : List Noted) → Standing n h → ((k : ℕ) → k ≢ node → side k t ≡ side k h) → stands (side node t)
    → Standing new t

-- one of the nodes was lent: it is set up so, and stood for these histories; now it stands for those
pub record Lent (n new : NodesState) (node : ℕ) (setup : Setup) (stood stands : List Event → Type 0) : Type 0 where
  pub there : IsNodeThere n node
  pub is : IsSomeAnd (slice_get (nodes_of n) node) (λ x. x.setup ≡ setup)
  pub nodes : nodes_of new ≡ nodes_of n
  pub before : (h : List Noted) → Standing n h → stood (side node h)
  pub lends : Lends n new node stands

-- ---- the server

-- it stands behind more of its events
server_lends : (n : NodesState) (new : ServerState) → Lends n (with_server n new) 0 (Stands chosen new)
server_lends n new h t was others stands =
    record {
      server = stands;
      clients = λ k. subst (λ es. IfSome (slice_get n.clients k) (λ c. StandsNode chosen c.client es))
          (sym (others (suc k) (λ p. absurd (omega (arith, p))))) (was.clients k);
    }

-- it was lent
pub server_lent : (n : NodesState) (node : ℕ) (was new : ServerState) → node ≡ 0 → was ≡ n.server
    → setup_of chosen new.node ≡ setup_of chosen was.node
    → Lent n (with_server n new) node (setup_of chosen was.node) (Stands chosen was) (Stands chosen new)
server_lent n node was new is same setup =
    subst (λ k. Lent n (with_server n new) k (setup_of chosen was.node) (Stands chosen was) (Stands chosen new))
    (sym is)
    (subst (λ (s : ServerState). Lent n (with_server n new) 0 (setup_of chosen s.node) (Stands chosen s)
    (Stands chosen new)) (sym same) (of (setup ∙ ap (λ (s : ServerState). setup_of chosen s.node) same)))
  where
    of : setup_of chosen new.node ≡ setup_of chosen n.server.node
        → Lent n (with_server n new) 0 (setup_of chosen n.server.node) (Stands chosen n.server) (Stands chosen new)
    of setup =
        record {
          there = omega arith;
          is = refl;
          nodes = ap (λ s. record { host = n.host; setup = s } ∷ map client_node n.clients) setup;
          before = λ h stands. stands.server;
          lends = server_lends n new;
        }

-- ---- a client

-- all stand behind more of its events
client_lends : (n : NodesState) (k : ℕ) (new : NodeState)
    → Lends n (record n { clients = changed_at k (changed new) n.clients }) (suc k) (StandsNode chosen new)
client_lends n k new h t was others stands =
    record {
      server = subst (Stands chosen n.server) (sym (others 0 (λ p. absurd (omega (arith, p))))) was.server;
      clients = λ j. of j;
    }
  where
    own : (o : Option ClientAt) → IfSome (option_map (changed new) o) (λ d. StandsNode chosen d.client (side (suc k) t))
    own None = tt
    own (Some c) = stands

    of : (j : ℕ) → IfSome (slice_get (changed_at k (changed new) n.clients) j)
        (λ d. StandsNode chosen d.client (side (suc j) t))
    of j =
        decided (IfSome (slice_get (changed_at k (changed new) n.clients) j)
        (λ d. StandsNode chosen d.client (side (suc j) t))) k j
        (λ same. subst (λ i. IfSome (slice_get (changed_at k (changed new) n.clients) i)
        (λ d. StandsNode chosen d.client (side (suc i) t))) same
        (subst (λ (o : Option ClientAt). IfSome o (λ d. StandsNode chosen d.client (side (suc k) t)))
        (sym (changed-own n.clients k (changed new))) (own (slice_get n.clients k))))
        (λ other. subst (λ (o : Option ClientAt). IfSome o (λ d. StandsNode chosen d.client (side (suc j) t)))
        (sym (changed-other n.clients k j (changed new) other))
        (subst (λ es. IfSome (slice_get n.clients j) (λ d. StandsNode chosen d.client es))
        (sym (others (suc j) (λ p. other (omega (arith, p))))) (was.clients j)))

-- how it is set up
found_setup : (o : Option ClientAt) (was : NodeState) → option_map (λ c. c.client) o ≡ Some was
    → IsSomeAnd (option_map client_node o) (λ x. x.setup ≡ setup_of chosen was)
found_setup None was there = absurd (cc (there))
found_setup (Some c) was there = (let is : c.client ≡ was = cc (there) in ap (setup_of chosen) is)

client_lent_at : (n : NodesState) (k : ℕ) (was new : NodeState) → IsNodeThere n (suc k)
    → option_map (λ c. c.client) (slice_get n.clients k) ≡ Some was → setup_of chosen new ≡ setup_of chosen was
    → Lent n (record n { clients = changed_at k (changed new) n.clients }) (suc k) (setup_of chosen was)
    (StandsNode chosen was) (StandsNode chosen new)
client_lent_at n k was new there at setup =
    record {
      there = there;
      is = subst (λ (o : Option Node). IsSomeAnd o (λ x. x.setup ≡ setup_of chosen was))
          (sym (slice_get-map client_node n.clients k)) (found_setup (slice_get n.clients k) was at);
      nodes = ap (λ xs. record { host = n.host; setup = setup_of chosen n.server.node } ∷ xs)
          (changed_nodes n.clients k was new at setup);
      before = λ h stands. some_stands (slice_get n.clients k) was (side (suc k) h) at (stands.clients k);
      lends = client_lends n k new;
    }

-- it was lent
pub client_lent : (n : NodesState) (node : ℕ) (was new : NodeState) → IsClientThere n node
    → client_of n node ≡ Some was → setup_of chosen new ≡ setup_of chosen was
    → Lent n (with_client n node new) node (setup_of chosen was) (StandsNode chosen was) (StandsNode chosen new)
client_lent n zero was new there at setup = absurd (omega (arith, there.0))
client_lent n (suc k) was new there at setup =
    (let is : suc k - 1 ≡ k = omega arith in
    subst (λ i. Lent n (record n { clients = changed_at i (changed new) n.clients }) (suc k) (setup_of chosen was)
    (StandsNode chosen was) (StandsNode chosen new)) (sym is)
    (client_lent_at n k was new there.1
    (subst (λ i. option_map (λ c. c.client) (slice_get n.clients i) ≡ Some was) is at) setup))

-- as many clients are left
pub clients_left : (n : NodesState) (node : ℕ) (client : NodeState)
    → length (with_client n node client).clients ≡ length n.clients
clients_left n node client = changed-length n.clients (node - 1) (λ c. record c { client = client })
