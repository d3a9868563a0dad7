-- Nodes stand for the joint histories for which they stood, also with one client more.
use Rattle.std.proofs.Common.{◌≡◌, ◌≤◌, ◌++◌, ℕ, zero, suc, List, [], ◌∷◌, length}
use Rattle.std.proofs.Common.{refl, ◌∙◌, sym, subst, arith}
use Rattle.std.specs.Prelude.{slice_get, IfSome}
use Rattle.std.proofs.lemmas.List.{length-map}
use Rattle.rx_model.specs.declared.event.Noted.{Noted}
use Rattle.rx_model.specs.declared.names.Host.{Host}
use Rattle.rx_history.specs.Sides.{Node, side}
use Rattle.rx_law.specs.Worlds.{AreOf}
use Rattle.rx_node.specs.Steps.{StandsNode}
use Rattle.rx_server.specs.Server.{ServerState}
use Rattle.rx_token.specs.Chosen.{chosen}
use Rattle.rx_joint.specs.Nodes.{ClientsStand, NodesState, Standing, client_node, nodes_of}
use Rattle.rx_joint.specs.declared.nodes.ClientAt.{ClientAt}
use Rattle.rx_joint.proofs.Lent.{with_fields}
use Rattle.rx_joint.proofs.Standing.{other-side}

-- no event is one of a node that isn't there
no_side : (nodes : List Node) (h : List Noted) (k : ℕ) → AreOf nodes h → length nodes ≤ k → side k h ≡ []
no_side nodes [] k are past = refl
no_side nodes (e ∷ h) k are past =
    other-side e.node k e.event h (λ is. absurd (omega (arith, is, are.0))) ∙ no_side nodes h k are.1 past

-- what holds of each by its place, also of one that comes behind them
pub each_pushed : {X : Type 0} (P : ℕ → X → Type 0) (xs : List X) (x : X) → ((k : ℕ) → IfSome (slice_get xs k) (P k))
    → P (length xs) x → (k : ℕ) → IfSome (slice_get (xs ++ x ∷ []) k) (P k)
each_pushed P [] x all last zero = last
each_pushed P [] x all last (suc k) = tt
each_pushed P (y ∷ xs) x all last zero = all zero
each_pushed P (y ∷ xs) x all last (suc k) = each_pushed (λ j. P (suc j)) xs x (λ j. all (suc j)) last k

pub with_one_more : (host : Host) (server : ServerState) (cs : List ClientAt) (n : NodesState) (c : ClientAt)
    (new : List ClientAt) → with_fields host server cs ≡ n → new ≡ cs ++ c ∷ [] → StandsNode chosen c.client []
    → (h : List Noted) → AreOf (nodes_of n) h → Standing n h → Standing (with_fields host server new) h
with_one_more host server cs n c new is pushed fresh h =
    subst (λ m. AreOf (nodes_of m) h → Standing m h → Standing (with_fields host server new) h) is
    (λ are stand. record {
      server = stand.server;
      clients = subst (λ ds. ClientsStand ds h) (sym pushed)
          (each_pushed (λ k d. StandsNode chosen d.client (side (suc k) h)) cs c stand.clients
          (subst (StandsNode chosen c.client)
          (sym (no_side (nodes_of (with_fields host server cs)) h (suc (length cs)) are
          (omega (arith, length-map cs client_node)))) fresh));
    })
