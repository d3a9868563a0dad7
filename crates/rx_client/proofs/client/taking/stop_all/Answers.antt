use Rattle.std.proofs.Common.{ℤ, SFits, w32, sym, subst, rules}
use Rattle.std.proofs.lemmas.Int.{to_z-of_z}
use Rattle.rx_packet.specs.declared.body.Body.{Body}
use Rattle.rx_packet.specs.Seen.{body_of}
use Rattle.rx_rules.specs.After.{stopped_all}
use Rattle.rx_node.specs.Mirrors.{Mirrors}
use Rattle.rx_node.specs.Steps.{stopped_by}
use Rattle.rx_client.proofs.client.taking.stop_all.Goals as goal

pub returns-in-Abort-clause-steps : goal.returns-in-Abort-clause-steps
returns-in-Abort-clause-steps g c =
    let fits : SFits w32 c.in-Abort.code = search rules in
    λ l x m there.
    subst (λ (b : Body). Mirrors g.C.Class.class_of c.reach_all.new.self (stopped_by (body_of b) x.connection l))
    (sym c.in-Abort.is)
    (subst (λ (z : ℤ). Mirrors g.C.Class.class_of c.reach_all.new.self (stopped_all x.connection z l))
    (to_z-of_z w32 c.in-Abort.code fits) (c.reach_all.ensures.steps l x m there))
