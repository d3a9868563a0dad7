-- The numbers of nodes, in the order in which loops go over them.
use Rattle.std.proofs.Common.{◌≡◌, ◌∙◌, ◌<◌, ◌≤◌, ◌+◌, ◌^◌, ℕ, zero, suc, List, [], ◌∷◌, ◌++◌}
use Rattle.std.proofs.Common.{Option}
use Rattle.std.proofs.Common.{refl, sym, subst, ap, length, map, drop, arith, append_assoc}
use Rattle.std.proofs.lemmas.List.{drop-append-le, length-map}
use Rattle.rx_law.specs.Worlds.{Datagram}
use Rattle.rx_node.proofs.Steps.TableSteps.{decided}
use Rattle.rx_joint.specs.Nodes.{NodesState, client_node, nodes_of}
use Rattle.rx_plan.specs.Network.{below}
use Rattle.rx_plan.specs.Parts.{Part}
use Rattle.rx_plan.specs.Rounds.{Polled, clients_first}
use Rattle.rx_stage.specs.RoundsPlayed.{PlaysGiven}
use Rattle.rx_stage.specs.Shown.{Plays, PlaysNodes, Shows, WorldState}
use Rattle.rx_plan.specs.Stages.{Stage}
use Rattle.rx_stage.specs.Tells.{Told}
use Rattle.rx_stage.specs.declared.stop.Stop.{Stop}
use Rattle.rx_stage.proofs.Stepping.{nodes_shown}
use Rattle.rx_stage.proofs.Ordering.{below_length}

-- ---- lists of numbers

-- a list with a front and what follows it
pub record At (xs front : List ℕ) (x : ℕ) : Type 0 where
  pub more : List ℕ
  pub are : xs ≡ front ++ x ∷ more

-- each number stands behind those below it
pub below_at : (k n : ℕ) → k < n → At (below n) (below k) k
below_at k zero low = absurd (omega arith)
below_at k (suc n) low =
    decided (At (below (suc n)) (below k) k) k n
    (λ same. record { more = []; are = ap (λ j. below j ++ j ∷ []) (sym same) })
    (λ other. behind (below_at k n (omega (arith, other))))
  where
    behind : At (below n) (below k) k → At (below (suc n)) (below k) k
    behind r =
        record {
          more = r.more ++ n ∷ [];
          are = ap (λ xs. xs ++ n ∷ []) r.are ∙ append_assoc (below k) (k ∷ r.more) (n ∷ []);
        }

-- those but the first, and then the first
pub others_at : (k n : ℕ) → 1 ≤ k → k < n → At (drop 1 (below n) ++ 0 ∷ []) (drop 1 (below k)) k
others_at k n some low = of (below_at k n low)
  where
    of : At (below n) (below k) k → At (drop 1 (below n) ++ 0 ∷ []) (drop 1 (below k)) k
    of r =
        record {
          more = r.more ++ 0 ∷ [];
          are = ap (λ xs. drop 1 xs ++ 0 ∷ []) r.are
              ∙ (ap (λ xs. xs ++ 0 ∷ []) (drop-append-le 1 (below k) (k ∷ r.more) (omega (arith, below_length k)))
              ∙ append_assoc (drop 1 (below k)) (k ∷ r.more) (0 ∷ []));
        }

-- ---- the nodes of a stage that is shown

pub length_shown : (w : WorldState) (s : Stage) (n : ℕ) → Shows w s → n ≡ length w.nodes.clients + 1
    → length s.nodes ≡ n
length_shown w s n shown is =
    (let here : length s.nodes ≡ length (nodes_of w.nodes) = ap (λ ns. length ns) (nodes_shown w s shown) in
    let long : length (map client_node w.nodes.clients) ≡ length w.nodes.clients = length-map w.nodes.clients
    client_node in
    here ∙ (ap suc long ∙ omega (arith, is)))

-- the clients, and then the server
pub clients_listed : (w : WorldState) (s : Stage) (n : ℕ) → Shows w s → n ≡ length w.nodes.clients + 1
    → clients_first s ≡ drop 1 (below n) ++ 0 ∷ []
clients_listed w s n shown is = ap (λ k. drop 1 (below k) ++ 0 ∷ []) (length_shown w s n shown is)

-- the nodes are so few that each has a number
pub few_shown : (w : WorldState) (s : Stage) → Shows w s → length w.nodes.clients + 1 < 2 ^ 32
few_shown w s shown =
    subst (λ n. n < 2 ^ 32) (length_shown w s (length w.nodes.clients + 1) shown refl) shown.few

-- what is played where they are is played
pub plays_few : (part : Stage → Part Stage) (w new : WorldState) (stop : Option Stop) (a b : Told)
    → (length w.nodes.clients + 1 < 2 ^ 32 → Plays part w new stop a b) → Plays part w new stop a b
plays_few part w new stop a b plays s shown = plays (few_shown w s shown) s shown

pub given_few : (part : Polled → Part Polled) (w new : WorldState) (given more : List Datagram) (stop : Option Stop)
    (a b : Told) → (length w.nodes.clients + 1 < 2 ^ 32 → PlaysGiven part w given new more stop a b)
    → PlaysGiven part w given new more stop a b
given_few part w new given more stop a b plays p shown = plays (few_shown w p.stage shown.0) p shown

pub nodes_few : (part : Stage → Part Stage) (old new : NodesState) (stop : Option Stop) (a b : Told)
    → (length old.clients + 1 < 2 ^ 32 → PlaysNodes part old new stop a b) → PlaysNodes part old new stop a b
nodes_few part old new stop a b plays w is s shown =
    plays (subst (λ (n : NodesState). length n.clients + 1 < 2 ^ 32) is (few_shown w s shown)) w is s shown
