use Rattle.std.proofs.Common.{w32, ℤ, subst}
use Rattle.std.proofs.lemmas.Int.{to_z-of_z}
use Rattle.rx_rules.specs.Life.{after_code}
use Rattle.rx_rules.specs.Looks.{latest_name, on_life}
use Rattle.rx_node.specs.Mirrors.{Mirrors}
use Rattle.rx_node.proofs.node.Node.reach.Goals as goal

pub returns-clause-steps : goal.returns-clause-steps
returns-clause-steps g c =
    λ l ch m at.
    subst (λ (z : ℤ). Mirrors g.C.Class.class_of c.turn.new.self (on_life (latest_name l ch) (after_code z) l))
    (to_z-of_z w32 c.args.code c.ranges.code) (c.turn.ensures.steps l ch m at)
