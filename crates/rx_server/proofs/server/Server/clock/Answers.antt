use Rattle.std.proofs.Common.{◌≡◌, ◌≤◌, ◌<◌, ◌^◌, ◌*◌, ℕ, List, ap, refl, sym, subst, length}
use Rattle.rx_model.specs.declared.event.Event.TheVariants as events
use Rattle.rx_rules.specs.Classes.{Class}
use Rattle.rx_history.proofs.Dimensions.Dims.{dims_refl}
use Rattle.rx_node.specs.Mirrors.{StepsNode}
use Rattle.rx_node.specs.Node.{NodeState}
use Rattle.rx_server.specs.Server.{ServerState}
use Rattle.rx_server.proofs.Quiet.{Quiet, quiet_answers, quiet_serving}
use Rattle.rx_server.proofs.Serving.{SameParts}
use Rattle.rx_server.proofs.server.Server.clock.Goals as goal

same : (old new : NodeState) (now : ℕ) → new ≡ record old { moment = now } → SameParts old new
same old new now is =
    record {
      kind = ap (λ (n : NodeState). n.kind) is;
      limits = ap (λ (n : NodeState). n.limits) is;
      prompt = ap (λ (n : NodeState). n.prompt) is;
      secret = ap (λ (n : NodeState). n.secret) is;
      conns = ap (λ (n : NodeState). length n.table.conns) is;
    }

quiet : (class : List ℕ → Class) (sv : ServerState) (new : NodeState) (now : ℕ) → sv.node.moment ≤ now → now < 2 ^ 62
    → new ≡ record sv.node { moment = now } → StepsNode class sv.node new (λ l. record l { now = now })
    → Quiet class sv new (events.Clocked now)
quiet class sv new now later within is steps =
    record {
      parts = same sv.node new now is;
      allowed = λ l serves. (subst (λ (n : ℕ). n ≤ now) serves.mirrors.now later, within);
      mirrors = λ l serves. steps l serves.mirrors;
      dims = λ l. (let stays = dims_refl l in record { calls = stays.calls; conns = stays.conns });
      rests = λ l. record { firsts = refl; entered = refl; proved = refl };
    }

pub invariant_of-self : goal.invariant_of-self
invariant_of-self g c =
    let its = quiet g.C.Class.class_of _ c.clock.new.self c.args.now
    (subst (λ (sv : ServerState). sv.node.moment ≤ c.args.now) (sym c.self.view_is) c.requires.later) c.requires.now
    c.clock.ensures.updates c.clock.ensures.steps in (
      quiet_serving g.C.Class.class_of _ c.clock.new.self (events.Clocked c.args.now) its c.self.invariant.0,
      subst (λ (n : NodeState). 4 * n.limits.conns ≤ length c.self.inside.firsts.ready) (sym c.clock.ensures.updates)
          c.self.invariant.1,
    )

pub returns-clause-answered : goal.returns-clause-answered
returns-clause-answered g c =
    let its = quiet g.C.Class.class_of _ c.clock.new.self c.args.now
    (subst (λ (sv : ServerState). sv.node.moment ≤ c.args.now) (sym c.self.view_is) c.requires.later) c.requires.now
    c.clock.ensures.updates c.clock.ensures.steps in
    rw (← c.self.view_is)
    (quiet_answers g.C.Class.class_of _ c.clock.new.self (events.Clocked c.args.now) its c.self.invariant.0)
