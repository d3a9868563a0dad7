use Rattle.std.proofs.Common.{ap}
use Rattle.rx_node.specs.Node.{NodeState}
use Rattle.rx_node.proofs.DueItems.{death_active}
use Rattle.rx_node.proofs.Steps.MomentSteps.{silence_none, silence_some}
use Rattle.std.proofs.Common.{◌≡◌, ◌+◌, subst}
use Rattle.std.specs.Prelude.{IsSomeAnd}
use Rattle.rx_call.specs.Kept.{call_under}
use Rattle.rx_model.specs.declared.wire.TheConstants.{SILENCE_MS}
use Rattle.rx_node.proofs.node.Node.death_on.Goals as goal

pub returns-clause-answered : goal.returns-clause-answered
returns-clause-answered g c =
    λ l ch m at. death_active g.C.Class.class_of c.args.self.now l m c.args.key ch at c.in_ok-end.end
    c.in_ok-end.ensures.some
    c.self.inside.ends (ap (λ (n : NodeState). n.ends) c.self.view_is) c.dies.result c.dies.ensures.value

pub returns-in_err-end-clause-silence : goal.returns-in_err-end-clause-silence
returns-in_err-end-clause-silence g c =
    rw c.from_residual.ensures (silence_none c.args.self.now c.args.key c.in_err-end.ensures.call)

pub returns-clause-silence : goal.returns-clause-silence
returns-clause-silence g c =
    silence_some c.args.self.now c.args.key _ _ c.in_ok-end.ensures.call
    (subst (λ (n : NodeState). IsSomeAnd (call_under n.ends.calls c.in_ok-end.end)
    (λ e. c.dies.result ≡ e.heard + SILENCE_MS)) c.self.view_is c.dies.ensures.heard)
