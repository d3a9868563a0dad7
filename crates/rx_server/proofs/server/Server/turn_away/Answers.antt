use Rattle.std.proofs.Common.{◌∙◌, sym, subst}
use Rattle.rx_rules.specs.Setup.{IsServer}
use Rattle.rx_server.specs.Server.{ServerState}
use Rattle.rx_server.proofs.TurnedSteps.{is_busy, is_crowded, is_over, is_server, is_stopped, takes_aside}
use Rattle.rx_server.proofs.server.Server.turn_away.Goals as goal

pub returns-in-Aside-clause-takes : goal.returns-in-Aside-clause-takes
returns-in-Aside-clause-takes g c =
    let server = subst (λ (sv : ServerState). IsServer sv.node.kind) c.self.view_is
    (is_server c.self.inside.node.kind c.self.inside.service c.self.invariant.0.server) in
    λ l m serves said number rows. takes_aside g.C.Class.class_of _ _ l c.args.c.now m c.args.row server number rows
    (sym c.turn_of.ensures ∙ c.in-Aside.is) (c.touched.ensures.steps l serves)

pub returns-in-Crowded-clause-takes : goal.returns-in-Crowded-clause-takes
returns-in-Crowded-clause-takes g c =
    λ l m serves said number rows. c.turn_crowded.ensures.takes l m serves number
    (λ call. rows call ∙ is_crowded c.args.row (sym c.turn_of.ensures ∙ c.in-Crowded.is))

pub returns-in-Busy-clause-takes : goal.returns-in-Busy-clause-takes
returns-in-Busy-clause-takes g c =
    λ l m serves said number rows. c.turn_busy.ensures.takes l m serves number
    (λ call. rows call ∙ is_busy c.args.row (sym c.turn_of.ensures ∙ c.in-Busy.is))

pub returns-in-Stopped-clause-takes : goal.returns-in-Stopped-clause-takes
returns-in-Stopped-clause-takes g c =
    λ l m serves said number rows. c.turn_stopped.ensures.takes l m serves said number
    (λ call. rows call ∙ is_stopped c.args.row (sym c.turn_of.ensures ∙ c.in-Stopped.is))

pub returns-in-Over-clause-takes : goal.returns-in-Over-clause-takes
returns-in-Over-clause-takes g c =
    λ l m serves said number rows. c.turn_over.ensures.takes l m serves said number
    (λ call. rows call ∙ is_over c.args.row (sym c.turn_of.ensures ∙ c.in-Over.is))
