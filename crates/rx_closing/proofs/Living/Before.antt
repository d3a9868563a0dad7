-- A world at an earlier moment is a world, and a call of a stage is one at each earlier stage of the same nodes.
use Rattle.std.proofs.Common.{◌≡◌, ◌⊎◌, ◌++◌, ℕ, suc, List, [], ◌∷◌, Option, Some, None, ap, sym, subst, ◌∙◌}
use Rattle.std.specs.Prelude.{IfSome, slice_get}
use Rattle.rx_model.specs.declared.event.Noted.{Noted}
use Rattle.rx_model.specs.declared.names.CallName.{CallName}
use Rattle.rx_rules.specs.Rules.{Legal}
use Rattle.rx_history.specs.Sides.{Node, side}
use Rattle.rx_law.specs.Promises.{ServerForgotNone}
use Rattle.rx_law.specs.Times.{Timely}
use Rattle.rx_law.specs.Worlds.{AreOf, World}
use Rattle.rx_plan.specs.Stages.{Stage}
use Rattle.rx_closing.proofs.Frame.{IsPlain, OneOf}
use Rattle.rx_closing.proofs.Rounds.Chains.{Adds}
use Rattle.rx_closing.proofs.Rounds.KeptBefore.{kept_before}
use Rattle.rx_history.proofs.Laws.EnteredLaw.{legal-before}
use Rattle.rx_law.proofs.Law.{side-split}
use Rattle.rx_plan.proofs.Bags.{carried_before}

-- ---- a world

of_before : (nodes : List Node) (more h : List Noted) → AreOf nodes (more ++ h) → AreOf nodes h
of_before nodes [] h are = are
of_before nodes (e ∷ more) h are = of_before nodes more h are.1

pub world_before : (nodes : List Node) (more h : List Noted) → World nodes (more ++ h) → World nodes h
world_before nodes more h w =
    record {
      sides = record {
        nodes_are = w.sides.nodes_are;
        events_are = of_before nodes more h w.sides.events_are;
        legal = λ k. by k (slice_get nodes k) (w.sides.legal k);
      };
      carried = carried_before nodes more h w.carried;
      apart = w.apart;
    }
  where
    by : (k : ℕ) (o : Option Node) → IfSome o (λ n. Legal n.setup (side k (more ++ h)))
        → IfSome o (λ n. Legal n.setup (side k h))
    by k None legal = tt
    by k (Some n) legal =
        legal-before n.setup (side k more) (side k h) (subst (Legal n.setup) (side-split k more h) legal)

-- ---- a call

pub one_before : (c : CallName) (k : ℕ) (client server : Node) (t : Stage) → OneOf c k client server t → (u : Stage)
    → u.nodes ≡ t.nodes → Adds u.history t.history → OneOf c k client server u
one_before c k client server t o u nodes a =
    record {
      world = subst (λ (ns : List Node). World ns u.history) (sym nodes) (world_before t.nodes a.more u.history then_);
      kept =
          subst (λ (ns : List Node). ServerForgotNone ns u.history ⊎ Timely ns u.history) (sym nodes)
          (kept_before t.nodes a.more u.history then_.sides
          (subst (λ (h : List Noted). ServerForgotNone t.nodes h ⊎ Timely t.nodes h) a.is o.kept));
      server_there = ap (λ (ns : List Node). slice_get ns 0) nodes ∙ o.server_there;
      client_there = ap (λ (ns : List Node). slice_get ns (suc k)) nodes ∙ o.client_there;
      client_is = o.client_is;
      plain = λ j. subst (λ (ns : List Node). IfSome (slice_get ns j) IsPlain) (sym nodes) (o.plain j);
    }
  where
    then_ : World t.nodes (a.more ++ u.history)
    then_ = subst (World t.nodes) a.is o.world
