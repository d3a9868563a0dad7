-- Loops over clients, each of which stands for its side: whether a call lives, and how late it is.
use Rattle.std.proofs.Common.{◌≡◌, ◌<◌, ◌≤◌, ◌-◌, ◌+◌, ◌||◌, ℕ, zero, suc, Bool, true, false, List, [], ◌∷◌, length}
use Rattle.std.proofs.Common.{get_or}
use Rattle.std.proofs.Common.{drop, map, Option, Some, None, option_map, ◌∙◌, ap, sym, subst, arith, add-one}
use Rattle.std.specs.Prelude.{slice_get, nat_lt, IfSome}
use Rattle.std.specs.List.{list_any}
use Rattle.std.proofs.Math.Seq.{drop-cons}
use Rattle.std.proofs.lemmas.Bool.Decides.{nat_tests}
use Rattle.rx_model.specs.declared.event.Event.{Event}
use Rattle.rx_model.specs.declared.event.Noted.{Noted}
use Rattle.rx_rules.specs.After.{looks}
use Rattle.rx_rules.specs.Slots.{live}
use Rattle.rx_history.specs.Sides.{Node, side}
use Rattle.rx_model.specs.declared.names.Host.{Host}
use Rattle.rx_node.specs.Node.{NodeState, setup_of}
use Rattle.rx_server.specs.Server.{ServerState, Stands}
use Rattle.rx_node.specs.Steps.{StandsNode}
use Rattle.rx_token.specs.Chosen.{chosen}
use Rattle.rx_joint.specs.Nodes.{ClientsStand, NodesState, Standing, client_node, client_of, nodes_of}
use Rattle.rx_events.specs.Waits.{any_lives, is_later, latest, lives_at, over_nodes}
use Rattle.rx_joint.specs.declared.nodes.ClientAt.{ClientAt}
use Rattle.rx_joint.proofs.Lent.{read_some, server_node, with_fields}

-- ---- a list from a place on

pub rest_is : {X : Type 0} (xs : List X) (i : ℕ) (x : X) → i < length xs → x ≡ get_or xs i x
    → drop i xs ≡ x ∷ drop (i + 1) xs
rest_is xs i x low is = rw (add-one, drop-cons xs i x) (ap (λ y. y ∷ drop (suc i) xs) (sym is))

-- ---- the side of a client

pub client_stands : (cs : List ClientAt) (h : List Noted) (i : ℕ) (c : ClientAt) → ClientsStand cs h → i < length cs
    → c ≡ get_or cs i c → StandsNode chosen c.client (side (suc i) h)
client_stands cs h i c stand low is =
    subst (λ (o : Option ClientAt). IfSome o (λ d. StandsNode chosen d.client (side (suc i) h)))
    (read_some cs i c low is) (stand i)

pub some_stands : (o : Option ClientAt) (was : NodeState) (es : List Event) → option_map (λ d. d.client) o ≡ Some was
    → IfSome o (λ d. StandsNode chosen d.client es) → StandsNode chosen was es
some_stands None was es there stand = absurd (cc (there))
some_stands (Some d) was es there stand = subst (λ x. StandsNode chosen x es) (cc (there)) stand

pub node_stands : (n : NodesState) (h : List Noted) (node : ℕ) (was : NodeState) → Standing n h → 1 ≤ node
    → client_of n node ≡ Some was → StandsNode chosen was (side node h)
node_stands n h zero was stand some there = absurd (omega arith)
node_stands n h (suc k) was stand some there =
    (let at : suc k - 1 ≡ k = omega arith in
    some_stands (slice_get n.clients k) was (side (suc k) h)
    (subst (λ i. option_map (λ d. d.client) (slice_get n.clients i) ≡ Some was) at there) (stand.clients k))

-- ---- a test of each client

-- of the nodes of clients from a place on
abbrev pub passes_from : (ℕ → Node → Bool) → List ClientAt → ℕ → Bool
passes_from f cs i = list_any (λ b. b) (over_nodes f (suc i) (map client_node (drop i cs)))

-- by its test and the others
passes_more : (f : ℕ → Node → Bool) (cs : List ClientAt) (i : ℕ) (c : ClientAt) → i < length cs → c ≡ get_or cs i c
    → passes_from f cs i ≡ (f (suc i) (client_node c) || passes_from f cs (i + 1))
passes_more f cs i c low is =
    ap (λ xs. list_any (λ b. b) (over_nodes f (suc i) (map client_node xs))) (rest_is cs i c low is)
    ∙ ap (λ k. f (suc i) (client_node c) || list_any (λ b. b)
    (over_nodes f (suc k) (map client_node (drop (i + 1) cs))))
    (sym (add-one i))

pub passes_on : (f : ℕ → Node → Bool) (cs : List ClientAt) (i : ℕ) (c : ClientAt) → i < length cs → c ≡ get_or cs i c
    → f (suc i) (client_node c) ≡ false → passes_from f cs i ≡ passes_from f cs (i + 1)
passes_on f cs i c low is fails = passes_more f cs i c low is ∙ ap (λ b. b || passes_from f cs (i + 1)) fails

pub passes_here : (f : ℕ → Node → Bool) (cs : List ClientAt) (i : ℕ) (c : ClientAt) → i < length cs
    → c ≡ get_or cs i c → f (suc i) (client_node c) ≡ true → passes_from f cs i ≡ true
passes_here f cs i c low is holds = passes_more f cs i c low is ∙ ap (λ b. b || passes_from f cs (i + 1)) holds

-- ---- tests of numbers

pub is_less : (a b : ℕ) → a < b → nat_lt a b ≡ true
is_less a b low = grind (arith, nat_tests)

pub not_less : (a b : ℕ) → b ≤ a → nat_lt a b ≡ false
not_less a b high = grind (arith, nat_tests)

-- ---- moments

-- those of clients from a place on
abbrev pub later_from : ℕ → List ClientAt → ℕ → Bool
later_from now cs i = is_later now (map (λ c. c.client.moment) (drop i cs))

abbrev pub latest_from : List ClientAt → ℕ → ℕ
latest_from cs i = latest (map (λ c. c.client.moment) (drop i cs))

-- ---- calls that live

-- by how many live there
pub live_true : (h : List Noted) (k : ℕ) (n : Node) (m : ℕ) → m ≡ live (looks n.setup (side k h)) → 0 < m
    → lives_at h k n ≡ true
live_true h k n m is some = is_less 0 (live (looks n.setup (side k h))) (subst (λ (x : ℕ). 0 < x) is some)

pub live_false : (h : List Noted) (k : ℕ) (n : Node) (m : ℕ) → m ≡ live (looks n.setup (side k h)) → m ≤ 0
    → lives_at h k n ≡ false
live_false h k n m is none = not_less 0 (live (looks n.setup (side k h))) (subst (λ (x : ℕ). x ≤ 0) is none)

-- at the server
pub lives_first : (host : Host) (server : ServerState) (cs : List ClientAt) (n : NodesState) (m : ℕ)
    → with_fields host server cs ≡ n
    → ((es : List Event) → Stands chosen server es → m ≡ live (looks (setup_of chosen server.node) es)) → 0 < m
    → (h : List Noted) → Standing n h → true ≡ any_lives (nodes_of n) h
lives_first host server cs n m is exact some h =
    subst (λ k. Standing k h → true ≡ any_lives (nodes_of k) h) is
    (λ stand. sym (ap (λ b. b || list_any (λ b. b) (over_nodes (lives_at h) 1 (map client_node cs)))
    (live_true h 0 (server_node host server) m (exact (side 0 h) stand.server) some)))

module _ (host : Host) (server : ServerState) (cs xs : List ClientAt) (n : NodesState) (m : ℕ) (result : Bool) where
  -- at a client
  pub lives_rest : with_fields host server cs ≡ n → xs ≡ cs
      → ((es : List Event) → Stands chosen server es → m ≡ live (looks (setup_of chosen server.node) es)) → m ≤ 0
      → ((h : List Noted) → ClientsStand xs h
      → result ≡ list_any (λ b. b) (over_nodes (lives_at h) 1 (map client_node xs)))
      → (h : List Noted) → Standing n h → result ≡ any_lives (nodes_of n) h
  lives_rest is same exact none rest h =
      subst (λ k. Standing k h → result ≡ any_lives (nodes_of k) h) is
      (λ stand. rest h (subst (λ ys. ClientsStand ys h) (sym same) stand.clients)
      ∙ ap (λ ys. list_any (λ b. b) (over_nodes (lives_at h) 1 (map client_node ys))) same
      ∙ sym (ap (λ b. b || list_any (λ b. b) (over_nodes (lives_at h) 1 (map client_node cs)))
      (live_false h 0 (server_node host server) m (exact (side 0 h) stand.server) none)))
