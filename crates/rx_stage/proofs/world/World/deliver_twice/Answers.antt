use Rattle.rx_stage.proofs.LossyMade.{comes_stops, comes_twice}
use Rattle.rx_stage.proofs.world.World.deliver_twice.Goals as goal

pub returns-in_err-deliver_one-clause-plays : goal.returns-in_err-deliver_one-clause-plays
returns-in_err-deliver_one-clause-plays g c =
    comes_stops c.args.datagram.now c.args.self.now c.deliver_one.new.self c.from_residual.result
    c.in_err-deliver_one.field-0.0 _ _ c.in_err-deliver_one.ensures.plays c.from_residual.ensures

pub returns-clause-plays : goal.returns-clause-plays
returns-clause-plays g c =
    comes_twice c.args.datagram.now c.args.self.now c.deliver_one.new.self c.deliver_one-2.new.self _ _ _ _
    c.in_ok-deliver_one.ensures.plays c.deliver_one-2.ensures.plays
