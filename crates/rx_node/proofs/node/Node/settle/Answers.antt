use Rattle.std.proofs.Common.{subst, sym}
use Rattle.rx_rules.specs.After.{settled}
use Rattle.rx_rules.specs.Life.{after_acks}
use Rattle.rx_call_ends.specs.Ends.{StandsEnd}
use Rattle.rx_node.specs.Node.{NodeState}
use Rattle.rx_node.proofs.Steps.ActiveSteps.{changed_as}
use Rattle.rx_node.proofs.Steps.EndSteps.{active_call}
use Rattle.rx_node.proofs.node.Node.settle.Goals as goal

pub returns-clause-steps : goal.returns-clause-steps
returns-clause-steps g c =
    let class = g.C.Class.class_of in
    let end = c.args.end in
    let all = c.is_delivered-delivered.result in
    λ l ch m at. (
    let its = active_call class c.args.self.now l m c.args.key end ch at c.requires in
    let k = its.call in
    let same = c.is_delivered-delivered.ensures k.looks
    (subst (λ (n : NodeState). StandsEnd n.ends end k.looks) (sym c.self.view_is) its.stands) in
    changed_as class c.args.self.now l ch m settled c.turn.new.self k (λ j. record j { life = after_acks all j.life })
    its.latest_is (λ i. record k { life = after_acks (same i) k.life }) (c.turn.ensures.steps l ch m at))
