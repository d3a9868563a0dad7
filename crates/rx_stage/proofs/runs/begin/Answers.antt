use Rattle.std.proofs.Common.{Ok, false, sym, subst}
use Rattle.rx_token.specs.Chosen.{chosen, secret_of}
use Rattle.rx_plan.specs.Follows.{begins}
use Rattle.rx_stage.specs.Showing.{IsBegun}
use Rattle.rx_stage.proofs.Beginning.{server_begun}
use Rattle.rx_stage.proofs.runs.begin.Goals as goal

pub returns-clause-begun : goal.returns-clause-begun
returns-clause-begun c =
    subst (λ line. IsBegun (begins line)
    (Ok (record { world = c.at_start.result; late = false; slots = c.in-Server.limits.slots }))) (sym c.in-Server.is)
    (server_begun c.in-Server.host c.in-Server.service c.in-Server.limits c.in-Server.key c.in-Server.nonce
    (chosen (secret_of c.class_of.result)) c.in_ok-nodes.nodes c.at_start.result (sym c.if-not-has_slots.ensures)
    c.class_of.ensures c.in_ok-nodes.ensures.stands c.in_ok-nodes.ensures.nodes c.at_start.ensures.kept
    c.at_start.ensures.jobs)
