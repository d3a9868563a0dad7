-- Moments of nodes as a joint history has them, and how long it is until something is due.
use Rattle.std.proofs.Common.{◌≡◌, ◌<◌, ◌≤◌, ◌-◌, ◌+◌, ℕ, zero, suc, List, [], ◌∷◌, length, get_or}
use Rattle.std.proofs.Common.{drop, map, min, Option, Some, None, option_map, refl, ◌∙◌, ap, sym, subst, arith, add-one}
use Rattle.std.specs.Prelude.{slice_get, unwrap_or, nat_le, if◌then◌else◌, IfSome}
use Rattle.std.proofs.lemmas.Bool.Decides.{nat_tests}
use Rattle.rx_model.specs.declared.event.Event.{Event}
use Rattle.rx_model.specs.declared.event.Noted.{Noted}
use Rattle.rx_rules.specs.After.{looks}
use Rattle.rx_rules.specs.Items.{due}
use Rattle.rx_rules.specs.Least.{lesser_by}
use Rattle.rx_history.specs.Sides.{Node, moment, side}
use Rattle.rx_history.proofs.Moments.{now-side}
use Rattle.rx_model.specs.declared.names.Host.{Host}
use Rattle.rx_node.specs.Node.{NodeState, setup_of}
use Rattle.rx_node.proofs.Steps.TableSteps.{get_some}
use Rattle.rx_server.specs.Server.{ServerState, Stands}
use Rattle.rx_node.specs.Steps.{StandsNode}
use Rattle.rx_token.specs.Chosen.{chosen}
use Rattle.rx_joint.specs.Nodes.{ClientsStand, IsNodeThere, NodesState, Standing, client_node, client_of, moment_of}
use Rattle.rx_joint.specs.Nodes.{nodes_of}
use Rattle.rx_events.specs.Waits.{least_of, least_wait, lesser, over_nodes, wait_at}
use Rattle.rx_joint.specs.Nodes.{moments_of}
use Rattle.rx_joint.specs.declared.nodes.ClientAt.{ClientAt}
use Rattle.rx_joint.proofs.Lent.{server_node, with_fields}
use Rattle.rx_joint.proofs.Waiting.{node_stands, rest_is}

-- ---- moments

-- of the server, and of a client, by what they answer
pub server_moment : (was : ServerState) (n : NodesState) (node m : ℕ) → was ≡ n.server → node ≡ 0
    → ((es : List Event) → Stands chosen was es → m ≡ (looks (setup_of chosen was.node) es).now)
    → (h : List Noted) → Standing n h → m ≡ moment node h
server_moment was n node m same is exact h stand =
    exact (side 0 h) (subst (λ s. Stands chosen s (side 0 h)) (sym same) stand.server)
    ∙ now-side (setup_of chosen was.node) 0 h ∙ ap (λ (k : ℕ). moment k h) (sym is)

pub client_moment : (was : NodeState) (n : NodesState) (node m : ℕ) → 1 ≤ node → client_of n node ≡ Some was
    → ((es : List Event) → StandsNode chosen was es → m ≡ (looks (setup_of chosen was) es).now)
    → (h : List Noted) → Standing n h → m ≡ moment node h
client_moment was n node m some there exact h stand =
    exact (side node h) (node_stands n h node was stand some there) ∙ now-side (setup_of chosen was) node h

-- of a node that is there
pub moment_is : (n : NodesState) (h : List Noted) (node : ℕ) → Standing n h → IsNodeThere n node
    → moment_of n node ≡ moment node h
moment_is n h zero stand there = stand.server.serves.mirrors.now ∙ now-side (setup_of chosen n.server.node) 0 h
moment_is n h (suc k) stand there =
    (let found = get_some n.clients k (omega arith) in
    let stands : StandsNode chosen found.0.client (side (suc k) h) =
    subst (λ (o : Option ClientAt). IfSome o (λ d. StandsNode chosen d.client (side (suc k) h))) found.1
    (stand.clients k) in
    ap (λ (o : Option ClientAt). unwrap_or (option_map (λ c. c.client.moment) o) 0) found.1
    ∙ stands.mirrors.now ∙ now-side (setup_of chosen found.0.client) (suc k) h)

-- of all nodes
moments_from : (cs : List ClientAt) (k : ℕ) (h : List Noted)
    → ((j : ℕ) → IfSome (slice_get cs j) (λ c. StandsNode chosen c.client (side (k + j) h)))
    → map (λ c. c.client.moment) cs ≡ over_nodes (λ i n. moment i h) k (map client_node cs)
moments_from [] k h stand = refl
moments_from (c ∷ cs) k h stand =
    (let start : k + 0 ≡ k = omega arith in
    let here : StandsNode chosen c.client (side k h) = subst (λ i. StandsNode chosen c.client (side i h)) start
    (stand zero) in
    let rest = moments_from cs (suc k) h (λ j. let next : k + suc j ≡ suc k + j = omega arith in
    subst (λ i. IfSome (slice_get cs j) (λ d. StandsNode chosen d.client (side i h))) next (stand (suc j))) in
    ap (λ (m : ℕ). m ∷ map (λ d. d.client.moment) cs) (here.mirrors.now ∙ now-side (setup_of chosen c.client) k h)
    ∙ ap (λ (ms : List ℕ). moment k h ∷ ms) rest)

pub moments_are : (n : NodesState) (h : List Noted) → Standing n h
    → moments_of n ≡ over_nodes (λ k x. moment k h) 0 (nodes_of n)
moments_are n h stand =
    ap (λ (m : ℕ). m ∷ map (λ d. d.client.moment) n.clients) (moment_is n h 0 stand (omega arith))
    ∙ ap (λ (ms : List ℕ). moment 0 h ∷ ms) (moments_from n.clients 1 h (λ j. let next : suc j ≡ 1 + j = omega arith in
    subst (λ i. IfSome (slice_get n.clients j) (λ d. StandsNode chosen d.client (side i h))) next (stand.clients j)))

-- ---- times

lesser_three : (a b c : Option ℕ) → lesser (lesser a b) c ≡ lesser a (lesser b c)
lesser_three None b c = refl
lesser_three (Some a) None c = refl
lesser_three (Some a) (Some b) None = refl
lesser_three (Some a) (Some b) (Some c) = ap Some (let e : min (min a b) c ≡ min a (min b c) = omega arith in e)

min_by : (x y : ℕ) → (if nat_le x y then x else y) ≡ min x y
min_by x y = grind (arith, nat_tests)

lesser_is : (x : ℕ) (o : Option ℕ) → Some (lesser_by (λ m. m) x o) ≡ lesser (Some x) o
lesser_is x None = refl
lesser_is x (Some y) = ap Some (min_by x y)

least_more : (o : Option ℕ) (os : List (Option ℕ)) → least_of (o ∷ os) ≡ lesser o (least_of os)
least_more None os = refl
least_more (Some x) os = lesser_is x (least_of os)

-- the least time of clients from a place on
abbrev pub least_from : List Noted → List ClientAt → ℕ → Option ℕ
least_from h cs i = least_of (over_nodes (wait_at h) (suc i) (map client_node (drop i cs)))

pub least_on : (so_far : Option ℕ) (h : List Noted) (cs : List ClientAt) (i : ℕ) (c : ClientAt) → i < length cs
    → c ≡ get_or cs i c → lesser so_far (least_from h cs i)
    ≡ lesser (lesser so_far (wait_at h (suc i) (client_node c))) (least_from h cs (i + 1))
least_on so_far h cs i c low is =
    ap (λ xs. lesser so_far (least_of (over_nodes (wait_at h) (suc i) (map client_node xs)))) (rest_is cs i c low is)
    ∙ ap (lesser so_far) (least_more (wait_at h (suc i) (client_node c))
    (over_nodes (wait_at h) (suc (suc i)) (map client_node (drop (i + 1) cs))))
    ∙ sym (lesser_three so_far (wait_at h (suc i) (client_node c))
    (least_of (over_nodes (wait_at h) (suc (suc i)) (map client_node (drop (i + 1) cs)))))
    ∙ ap (λ k. lesser (lesser so_far (wait_at h (suc i) (client_node c)))
    (least_of (over_nodes (wait_at h) (suc k) (map client_node (drop (i + 1) cs)))))
    (sym (add-one i))

-- what is due, and from which moment on, by the rules
pub wait_is : (h : List Noted) (k : ℕ) (n : Node) (d : Option ℕ) (m : ℕ) → d ≡ due n.setup (looks n.setup (side k h))
    → m ≡ (looks n.setup (side k h)).now → option_map (λ x. x - m) d ≡ wait_at h k n
wait_is h k n d m is at =
    ap (λ (t : ℕ). option_map (λ x. x - t) d) (at ∙ now-side n.setup k h)
    ∙ ap (option_map (λ x. x - moment k h)) is

module _ (host : Host) (server : ServerState) (cs xs : List ClientAt) (n : NodesState) (d : Option ℕ) (m : ℕ)
    (served result : Option ℕ) where
  -- the least of all, by the server's and the clients'
  pub least_all : with_fields host server cs ≡ n → xs ≡ cs → served ≡ option_map (λ x. x - m) d
      → ((es : List Event) → Stands chosen server es
      → d ≡ due (setup_of chosen server.node) (looks (setup_of chosen server.node) es))
      → ((es : List Event) → Stands chosen server es → m ≡ (looks (setup_of chosen server.node) es).now)
      → ((h : List Noted) → ClientsStand xs h
      → result ≡ lesser served (least_of (over_nodes (wait_at h) 1 (map client_node xs))))
      → (h : List Noted) → Standing n h → result ≡ least_wait (nodes_of n) h
  least_all is same served_is due_is now_is rest h =
      subst (λ k. Standing k h → result ≡ least_wait (nodes_of k) h) is
      (λ stand. rest h (subst (λ ys. ClientsStand ys h) (sym same) stand.clients)
      ∙ ap (λ ys. lesser served (least_of (over_nodes (wait_at h) 1 (map client_node ys)))) same
      ∙ ap (λ o. lesser o (least_of (over_nodes (wait_at h) 1 (map client_node cs))))
      (served_is ∙ wait_is h 0 (server_node host server) d m (due_is (side 0 h) stand.server)
      (now_is (side 0 h) stand.server))
      ∙ sym (least_more (wait_at h 0 (server_node host server)) (over_nodes (wait_at h) 1 (map client_node cs))))
