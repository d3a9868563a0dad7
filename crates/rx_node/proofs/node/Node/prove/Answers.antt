use Rattle.std.proofs.Common.{◌/◌, refl, ap, sym, true}
use Rattle.rx_model.specs.Names.{Channel, Connection}
use Rattle.rx_rules.specs.Looks.{on_conn}
use Rattle.rx_node.proofs.KeptNode.{alike_on_place, still_node, still_seated, still_set_up}
use Rattle.rx_node.proofs.KeptKeys.{by_looks}
use Rattle.rx_node.proofs.Steps.SmallSteps.{mirrors_proved}
use Rattle.rx_node.proofs.SameChannels.{same_aside}
use Rattle.rx_node.proofs.node.Node.prove.Goals as goal

pub invariant_of-self : goal.invariant_of-self
invariant_of-self g c =
    let i = c.self.invariant in
    let like = alike_on_place c.self.inside.table (c.args.key / 4) (λ r. record r { proved = true })
    (λ r. refl) (λ r. refl) in
    rw c.prove.ensures
    (still_set_up g.C.Class.class_of _ _ like i.0, still_seated g.C.Class.class_of _ _ like i.1, i.2, i.3)

pub returns-clause-steps : goal.returns-clause-steps
returns-clause-steps g c =
    rw (← c.self.view_is, c.prove.ensures)
    (λ l ch m at. by_looks g.C.Class.class_of _ _ _
    (ap (λ (x : Connection). on_conn x (λ r. record r { proved = true }) l)
    (sym (ap (λ (d : Channel). d.connection) at.is)))
    (mirrors_proved g.C.Class.class_of _ l m (c.args.key / 4) at.conn at.there))

pub returns-clause-same : goal.returns-clause-same
returns-clause-same g c =
    let like = alike_on_place c.self.inside.table (c.args.key / 4) (λ r. record r { proved = true })
    (λ r. refl) (λ r. refl) in
    rw (← c.self.view_is, c.prove.ensures) (still_node g.C.Class.class_of _ _ like)

pub returns-clause-places : goal.returns-clause-places
returns-clause-places g c =
    rw (← c.self.view_is, c.prove.ensures) (λ q apart. same_aside _ (c.args.key / 4) _ _ q apart)
