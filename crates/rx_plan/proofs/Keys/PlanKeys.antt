-- The classes of a plan's nodes are those of the keys of its lines, and its clients' connections are for its server's
-- service.
use Rattle.std.proofs.Common.{Bool, List, Some, [], ap, cond, false, refl, slice_get, subst, suc, sym, true}
use Rattle.std.proofs.Common.{zero, ℕ, ◌==◌, ◌∙◌, ◌∷◌, ◌≡◌}
use Rattle.rx_model.specs.declared.event.Noted.{Noted}
use Rattle.rx_rules.specs.Setup.{Kind, Server}
use Rattle.rx_rules.proofs.EveryLaws.{Every}
use Rattle.rx_history.specs.Sides.{Node, side}
use Rattle.rx_script.specs.declared.plan.Numbered.{Numbered}
use Rattle.rx_script.specs.declared.plan.PlanLine.{PlanLine}
use Rattle.rx_script.specs.declared.plan.PlanLine.TheVariants as lines
use Rattle.rx_plan.specs.Causes.{key_at, key_of}
use Rattle.rx_plan.specs.Follows.{class_of, client_node, server_node}
use Rattle.rx_plan.specs.Promises.{client_before, line_kind, plan_clients, plan_nodes, server_before}
use Rattle.rx_plan.specs.Stages.{service_of}
use Rattle.rx_plan.proofs.QuietEvents.{LinksServed}
use Rattle.rx_plan.proofs.Keys.ServicesStay.{LinksTo}

-- ---- classes

-- each of these nodes has the class of the key of the line at its number
abbrev HaveClasses : List Node → List Numbered → Type 0
HaveClasses nodes ls = (j : ℕ) (n : Node) → slice_get nodes j ≡ Some n → n.setup.class ≡ class_of (key_at ls j)

one_node : (a b : Node) → Some a ≡ Some b → a ≡ b
one_node a b is = cc

-- a node more in front of these
front_classes : (n : Node) (ns : List Node) (l : Numbered) (ls : List Numbered)
    → n.setup.class ≡ class_of (key_of l.what) → HaveClasses ns ls → HaveClasses (n ∷ ns) (l ∷ ls)
front_classes n ns l ls own rest zero m is = ap (λ (o : Node). o.setup.class) (sym (one_node n m is)) ∙ own
front_classes n ns l ls own rest (suc j) m is = rest j m is

no_classes : (ls : List Numbered) → HaveClasses [] ls
no_classes ls j n is = absurd cc

client_classes : (ls : List Numbered) → HaveClasses (plan_clients ls) ls
client_classes [] = no_classes []
client_classes (l ∷ ls) = by l.what refl (client_classes ls)
  where
    by : (line : PlanLine) → l.what ≡ line → HaveClasses (plan_clients ls) ls
        → HaveClasses (client_before (line_kind line) (plan_clients ls)) (l ∷ ls)
    by (lines.Client host epoch limits key) is rest =
        front_classes (client_node host epoch limits key) (plan_clients ls) l ls
        (ap (λ (line : PlanLine). class_of (key_of line)) (sym is)) rest
    by line is rest = no_classes (l ∷ ls)

-- so it is of a plan's nodes
pub classes_are : (ls : List Numbered) → HaveClasses (plan_nodes ls) ls
classes_are [] = no_classes []
classes_are (l ∷ ls) = by l.what refl
  where
    by : (line : PlanLine) → l.what ≡ line → HaveClasses (server_before (line_kind line) (plan_clients ls)) (l ∷ ls)
    by (lines.Server host service limits key nonce) is =
        front_classes (server_node host service limits key nonce) (plan_clients ls) l ls
        (ap (λ (line : PlanLine). class_of (key_of line)) (sym is)) (client_classes ls)
    by line is = no_classes (l ∷ ls)

-- ---- services

-- the service of the first node
pub service_at : (nodes : List Node) (server : Node) (service nonces : ℕ) → slice_get nodes 0 ≡ Some server
    → server.setup.kind ≡ Server service nonces → service_of (slice_get nodes 0) ≡ service
service_at nodes server service nonces first is =
    ap service_of first
    ∙ ap (λ (q : Kind). service_of (Some (record server { setup = record server.setup { kind = q } }))) is

-- what holds of each event of a joint history holds of each of a side
pub served_side : (k service : ℕ) (nodes : List Node) (h : List Noted) → service_of (slice_get nodes 0) ≡ service
    → Every (λ e. LinksServed nodes e.event) h → Every (LinksTo service) (side k h)
served_side k service nodes [] is links = tt
served_side k service nodes (n ∷ h) is links =
    of (n.node == k) (served_side k service nodes h is links.1)
  where
    of : (b : Bool) → Every (LinksTo service) (side k h)
        → Every (LinksTo service) (cond b (n.event ∷ side k h) (side k h))
    of true rest = (subst (λ (s : ℕ). LinksTo s n.event) is links.0, rest)
    of false rest = rest
