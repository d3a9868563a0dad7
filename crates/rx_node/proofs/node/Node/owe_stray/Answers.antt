use Rattle.std.proofs.Common.{[], ◌∷◌, ◌++◌}
use Rattle.rx_model.specs.Strays.{last_of}
use Rattle.rx_node.proofs.Steps.SmallSteps.{mirrors_strays}
use Rattle.std.proofs.Common.{refl}
use Rattle.rx_node.proofs.node.Node.owe_stray.Goals as goal

pub returns-clause-steps : goal.returns-clause-steps
returns-clause-steps g c =
    let full = c.self.invariant.3 in
    rw (← c.self.view_is, c.push_back.ensures.items)
    (λ body l m. mirrors_strays g.C.Class.class_of _ l m _ _
    (λ i. last_of (full i) (m.strays i ++ c.stray_of.ensures body i ∷ [])))

pub returns-clause-channels : goal.returns-clause-channels
returns-clause-channels g c = rw (← c.self.view_is) (λ q. record { owed = refl; end = refl })
