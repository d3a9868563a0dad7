-- Nodes stand for a joint history with one more event, where its node does for its side.
use Rattle.std.proofs.Common.{◌≡◌, ◌==◌, ◌≤◌, ◌-◌, ℕ, zero, suc, false, List, [], ◌∷◌, map}
use Rattle.std.proofs.Common.{Option, Some, None, option_map, refl, ◌∙◌, ap, sym, subst, arith}
use Rattle.std.specs.Prelude.{slice_get, IfSome, IsSomeAnd}
use Rattle.std.proofs.lemmas.Bool.Decides.{nat_tests}
use Rattle.std.proofs.lemmas.Option.{slice_get-map}
use Rattle.rx_model.specs.declared.event.Event.{Event}
use Rattle.rx_model.specs.declared.event.Noted.{Noted}
use Rattle.rx_model.proofs.NameLaws.{number_itself}
use Rattle.rx_rules.specs.After.{looks}
use Rattle.rx_rules.specs.Rules.{Allowed}
use Rattle.rx_history.specs.Sides.{Node, side}
use Rattle.rx_table.specs.Records.{changed_at}
use Rattle.rx_node.specs.Node.{NodeState, setup_of}
use Rattle.rx_node.specs.Steps.{AnswersNode, StandsNode}
use Rattle.rx_node.proofs.Steps.TableSteps.{changed-length, changed-other, changed-own, decided}
use Rattle.rx_server.specs.Server.{Answered, ServerState, Stands}
use Rattle.rx_token.specs.Chosen.{chosen}
use Rattle.rx_joint.specs.Nodes.{ClientsStand, Makes, NodesState, Standing, client_node, client_of}
use Rattle.rx_joint.specs.Nodes.{with_client, with_server}
use Rattle.rx_joint.specs.declared.nodes.ClientAt.{ClientAt}

-- ---- sides

-- another node's stays
pub other-side : (node other : ℕ) (e : Event) (h : List Noted) → (node ≡ other → ⊥)
    → side other (record { node = node; event = e } ∷ h) ≡ side other h
other-side node other e h apart = (let no : (node == other) ≡ false = grind (arith, nat_tests, apart) in rw no refl)

-- its own has the event
pub own-side : (node : ℕ) (e : Event) (h : List Noted)
    → side node (record { node = node; event = e } ∷ h) ≡ e ∷ side node h
own-side node e h = rw (number_itself node) refl

-- ---- the server

-- an event of it
pub server_makes : (n : NodesState) (new : ServerState) (e : Event) → Answered chosen n.server new e
    → setup_of chosen new.node ≡ setup_of chosen n.server.node → Makes n (with_server n new) 0 e
server_makes n new e answered setup =
    record {
      allowed = λ h was. (answered (side 0 h) was.server).0;
      stands = λ h was. record { server = (answered (side 0 h) was.server).1; clients = λ k. of h was k };
      others = record { server = λ apart. absurd (apart refl); clients = λ k apart. refl };
      nodes = ap (λ s. record { host = n.host; setup = s } ∷ map client_node n.clients) setup;
      count = refl;
    }
  where
    of : (h : List Noted) (was : Standing n h) (k : ℕ) → IfSome (slice_get n.clients k)
        (λ c. StandsNode chosen c.client (side (suc k) (record { node = 0; event = e } ∷ h)))
    of h was k =
        subst (λ es. IfSome (slice_get n.clients k) (λ c. StandsNode chosen c.client es))
        (sym (other-side 0 (suc k) e h (λ p. absurd (omega (arith, p))))) (was.clients k)

-- the same of what the code lent and got back
pub server_made : (n : NodesState) (node : ℕ) (was new : ServerState) (e : Event) → node ≡ 0 → was ≡ n.server
    → Answered chosen was new e → setup_of chosen new.node ≡ setup_of chosen was.node
    → Makes n (with_server n new) node e
server_made n node was new e is same answered setup =
    subst (λ k. Makes n (with_server n new) k e) (sym is)
    (server_makes n new e (subst (λ s. Answered chosen s new e) same answered)
    (setup ∙ ap (λ (s : ServerState). setup_of chosen s.node) same))

-- ---- a client

-- what a number names
found_client : (o : Option ClientAt) (was : NodeState) → option_map (λ c. c.client) o ≡ Some was
    → (c : ClientAt) × (o ≡ Some c) × (c.client ≡ was)
found_client None was there = absurd (cc (there))
found_client (Some c) was there = (c, refl, cc (there))

-- another client with the same setup
abbrev pub changed : NodeState → ClientAt → ClientAt
changed new c = record c { client = new }

-- the setups of all clients are then what they were
pub changed_nodes : (cs : List ClientAt) (k : ℕ) (was new : NodeState)
    → option_map (λ c. c.client) (slice_get cs k) ≡ Some was → setup_of chosen new ≡ setup_of chosen was
    → map client_node (changed_at k (changed new) cs) ≡ map client_node cs
changed_nodes [] k was new there same = refl
changed_nodes (d ∷ ds) zero was new there same =
    (let is : d.client ≡ was = cc (there) in
    ap (λ x. x ∷ map client_node ds)
    (ap (λ s. record { host = d.host; setup = s }) (same ∙ ap (setup_of chosen) (sym is))))
changed_nodes (d ∷ ds) (suc k) was new there same =
    ap (λ xs. client_node d ∷ xs) (changed_nodes ds k was new there same)

-- an event of the client at a place
client_makes_at : (n : NodesState) (k : ℕ) (c : ClientAt) (new : NodeState) (e : Event) → slice_get n.clients k ≡ Some c
    → AnswersNode chosen c.client new e → setup_of chosen new ≡ setup_of chosen c.client
    → Makes n (record n { clients = changed_at k (changed new) n.clients }) (suc k) e
client_makes_at n k c new e there answered setup =
    record {
      allowed = λ h was. subst
          (λ (o : Option Node). IsSomeAnd o (λ x. Allowed x.setup (looks x.setup (side (suc k) h)) e))
          (sym (slice_get-map client_node n.clients k ∙ ap (option_map client_node) there))
          (answered (side (suc k) h) (stood h was)).0;
      stands = λ h was. record {
        server = subst (Stands chosen n.server)
            (sym (other-side (suc k) 0 e h (λ p. absurd (omega (arith, p))))) was.server;
        clients = λ j. of h was j;
      };
      others = record {
        server = λ apart. refl;
        clients = λ j apart. changed-other n.clients k j (changed new)
            (λ p. apart (ap suc p));
      };
      nodes = ap (λ xs. record { host = n.host; setup = setup_of chosen n.server.node } ∷ xs)
          (changed_nodes n.clients k c.client new (ap (option_map (λ d. d.client)) there) setup);
      count = changed-length n.clients k (changed new);
    }
  where
    stood : (h : List Noted) → Standing n h → StandsNode chosen c.client (side (suc k) h)
    stood h was =
        subst (λ (o : Option ClientAt). IfSome o (λ d. StandsNode chosen d.client (side (suc k) h))) there
        (was.clients k)

    now : slice_get (changed_at k (changed new) n.clients) k ≡ Some (changed new c)
    now = changed-own n.clients k (changed new) ∙ ap (option_map (changed new)) there

    of : (h : List Noted) → Standing n h
        → ClientsStand (changed_at k (changed new) n.clients) (record { node = suc k; event = e } ∷ h)
    of h was j =
        decided (IfSome (slice_get (changed_at k (changed new) n.clients) j)
        (λ d. StandsNode chosen d.client (side (suc j) (record { node = suc k; event = e } ∷ h)))) k j
        (λ same. subst (λ i. IfSome (slice_get (changed_at k (changed new) n.clients) i)
        (λ d. StandsNode chosen d.client (side (suc i) (record { node = suc k; event = e } ∷ h)))) same
        (subst (λ (o : Option ClientAt). IfSome o
        (λ d. StandsNode chosen d.client (side (suc k) (record { node = suc k; event = e } ∷ h)))) (sym now)
        (subst (StandsNode chosen new) (sym (own-side (suc k) e h)) (answered (side (suc k) h) (stood h was)).1)))
        (λ other. subst (λ (o : Option ClientAt). IfSome o
        (λ d. StandsNode chosen d.client (side (suc j) (record { node = suc k; event = e } ∷ h))))
        (sym (changed-other n.clients k j (changed new) other))
        (subst (λ es. IfSome (slice_get n.clients j) (λ d. StandsNode chosen d.client es))
        (sym (other-side (suc k) (suc j) e h (λ p. other (omega (arith, p))))) (was.clients j)))

-- an event of a client
pub client_makes : (n : NodesState) (node : ℕ) (was new : NodeState) (e : Event) → 1 ≤ node
    → client_of n node ≡ Some was → AnswersNode chosen was new e → setup_of chosen new ≡ setup_of chosen was
    → Makes n (with_client n node new) node e
client_makes n zero was new e some there answered setup = absurd (omega arith)
client_makes n (suc k) was new e some there answered setup =
    (let at : suc k - 1 ≡ k = omega arith in
    let found = found_client (slice_get n.clients k) was
    (subst (λ i. option_map (λ c. c.client) (slice_get n.clients i) ≡ Some was) at there) in
    subst (λ i. Makes n (record n { clients = changed_at i (changed new) n.clients }) (suc k) e) (sym at)
    (client_makes_at n k found.0 new e found.1
    (subst (λ x. AnswersNode chosen x new e) (sym found.2) answered)
    (setup ∙ ap (setup_of chosen) (sym found.2))))

-- a client that comes back as it was
back_changes : (cs : List ClientAt) (k : ℕ) (c : ClientAt) → slice_get cs k ≡ Some c
    → changed_at k (changed c.client) cs ≡ cs
back_changes [] k c there = refl
back_changes (d ∷ ds) zero c there =
    (let is : c ≡ d = cc (there) in ap (λ (x : ClientAt). record { host = d.host; client = x.client } ∷ ds) is)
back_changes (d ∷ ds) (suc k) c there = ap (λ xs. d ∷ xs) (back_changes ds k c there)

-- an event of a client that changes nothing
pub client_asked : (n : NodesState) (node : ℕ) (was : NodeState) (e : Event) → 1 ≤ node → client_of n node ≡ Some was
    → AnswersNode chosen was was e → Makes n n node e
client_asked n node was e some there answered =
    (let found = found_client (slice_get n.clients (node - 1)) was there in
    let back : with_client n node was ≡ n =
    ap (λ xs. record n { clients = xs })
    (subst (λ x. changed_at (node - 1) (changed x) n.clients ≡ n.clients) found.2
    (back_changes n.clients (node - 1) found.0 found.1)) in
    subst (λ m. Makes n m node e) back (client_makes n node was was e some there answered refl))
