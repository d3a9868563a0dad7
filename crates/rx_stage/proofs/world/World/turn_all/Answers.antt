use Rattle.rx_jobs.specs.Handlers.{handlers_of}
use Rattle.rx_stage.specs.Shown.{script_of}
use Rattle.rx_plan.specs.Turned.{dispatches, turns_all}
use Rattle.rx_stage.proofs.Playing.{plays_then}
use Rattle.rx_stage.proofs.RoundsMade.{turns_stop}
use Rattle.rx_stage.proofs.world.World.turn_all.Goals as goal

pub returns-in_err-dispatch-clause-plays : goal.returns-in_err-dispatch-clause-plays
returns-in_err-dispatch-clause-plays g c =
    turns_stop (handlers_of c.args.iface.now (script_of c.args.self.now)) c.args.self.now c.dispatch.new.self _
    c.from_residual.result c.in_err-dispatch.field-0.0 _ _ c.in_err-dispatch.ensures.plays c.from_residual.ensures

pub returns-clause-plays : goal.returns-clause-plays
returns-clause-plays g c =
    plays_then (dispatches (handlers_of c.args.iface.now (script_of c.args.self.now))) turns_all c.args.self.now
    c.dispatch.new.self c.turn_of_all.new.self _ _ _ _ c.in_ok-dispatch.ensures.plays c.turn_of_all.ensures.plays
