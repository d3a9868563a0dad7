use Rattle.rx_jobs.specs.Handlers.{handlers_of}
use Rattle.rx_stage.specs.Shown.{script_of}
use Rattle.rx_stage.proofs.LossyRounds.{carried_by, lossy_carried, lossy_polls}
use Rattle.rx_stage.proofs.world.World.lossy_round.Goals as goal

pub returns-in_err-poll_all-clause-plays : goal.returns-in_err-poll_all-clause-plays
returns-in_err-poll_all-clause-plays g c =
    lossy_polls (handlers_of c.args.iface.now (script_of c.args.self.now)) c.args.self.now c.poll_all.new.self _
    c.args.network.now.words _ c.args.network.now.held.items _ c.new-given.result.items c.poll_all.new.given.items
    c.from_residual.result c.in_err-poll_all.field-0.0 _ _ c.new-given.ensures.items c.in_err-poll_all.ensures.plays
    c.from_residual.ensures

pub returns-clause-plays : goal.returns-clause-plays
returns-clause-plays g c =
    lossy_carried (handlers_of c.args.iface.now (script_of c.args.self.now)) c.args.self.now c.poll_all.new.self
    c.carry_round.new.self c.args.network.now.words c.carry_round.new.network.words c.args.network.now.held.items
    c.carry_round.new.network.held.items c.new-given.result.items c.poll_all.new.given.items _ _ _ _
    c.new-given.ensures.items c.in_ok-poll_all.ensures.plays
    (carried_by (handlers_of c.args.iface.now) (script_of c.poll_all.new.self) (script_of c.args.self.now)
    c.poll_all.new.self c.carry_round.new.self c.args.network.now.words c.carry_round.new.network.words
    c.args.network.now.held.items c.carry_round.new.network.held.items c.poll_all.new.given.items _ _ _
    c.poll_all.ensures.script c.carry_round.ensures.plays)
