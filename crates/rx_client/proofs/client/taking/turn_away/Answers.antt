use Rattle.std.proofs.Common.{sym, subst}
use Rattle.rx_model.specs.declared.answers.Took.{Took}
use Rattle.rx_packet.specs.Seen.{body_of}
use Rattle.rx_node.specs.Mirrors.{Mirrors}
use Rattle.rx_client.specs.Taking.{turned_from}
use Rattle.rx_client.proofs.client.taking.turn_away.Goals as goal

pub returns-in-Over-clause-steps : goal.returns-in-Over-clause-steps
returns-in-Over-clause-steps g c =
    λ l ch m at. subst (λ (r : Took). Mirrors g.C.Class.class_of c.owe_again.new.self
    (turned_from r (body_of c.args.body.now) ch l))
    (sym c.in-Over.is) (c.owe_again.ensures.steps l ch m at)
