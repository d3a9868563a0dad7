use Rattle.std.proofs.Common.{refl}
use Rattle.rx_node.proofs.KeptNode.{alike_on_place, still_node, still_seated, still_set_up}
use Rattle.rx_node.proofs.Steps.SmallSteps.{mirrors_used}
use Rattle.rx_node.proofs.SameChannels.{same_on_place}
use Rattle.rx_node.proofs.node.Node.touch.Goals as goal

pub invariant_of-self : goal.invariant_of-self
invariant_of-self g c =
    let i = c.self.invariant in
    let place = c.args.place in
    let now = c.self.inside.moment in
    let like = alike_on_place c.self.inside.table place (λ r. record r { last_use = now }) (λ r. refl) (λ r. refl) in
    rw c.touch_now.ensures
    (still_set_up g.C.Class.class_of _ _ like i.0, still_seated g.C.Class.class_of _ _ like i.1, i.2, i.3)

pub returns-clause-steps : goal.returns-clause-steps
returns-clause-steps g c =
    rw (← c.self.view_is, c.touch_now.ensures)
    (λ l x m there. mirrors_used g.C.Class.class_of _ l m c.args.place x there)

pub returns-clause-same : goal.returns-clause-same
returns-clause-same g c =
    let place = c.args.place in
    let now = c.self.inside.moment in
    let like = alike_on_place c.self.inside.table place (λ r. record r { last_use = now }) (λ r. refl) (λ r. refl) in
    rw (← c.self.view_is, c.touch_now.ensures) (still_node g.C.Class.class_of _ _ like)

pub returns-clause-channels : goal.returns-clause-channels
returns-clause-channels g c =
    let now = c.self.inside.moment in
    rw (← c.self.view_is, c.touch_now.ensures)
    (λ q. same_on_place _ c.args.place (λ r. record r { last_use = now }) (λ r. refl) (λ r. refl) q)
