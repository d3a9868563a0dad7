use Rattle.std.proofs.Common.{None}
use Rattle.rx_plan.specs.declared.fate.Fate.TheVariants as fates
use Rattle.rx_plan.specs.Network.{delivers}
use Rattle.rx_stage.specs.Shown.{Shows}
use Rattle.rx_stage.proofs.Following.{on_none}
use Rattle.rx_stage.proofs.LossyMade.{carried, comes_once, holds_wants}
use Rattle.rx_stage.proofs.world.World.carry.Goals as goal

pub returns-in-Lost-clause-plays : goal.returns-in-Lost-clause-plays
returns-in-Lost-clause-plays g c =
    carried c.args.datagram c.args.fate fates.Lost c.args.self.now c.args.self.now _ _ _ c.in-Lost.is
    (on_none delivers (Shows c.args.self.now) _)

pub returns-in_err-keep-in-Held-clause-plays : goal.returns-in_err-keep-in-Held-clause-plays
returns-in_err-keep-in-Held-clause-plays g c =
    carried c.args.datagram c.args.fate fates.Held c.args.self.now c.args.self.now _ _ _ c.in-Held.is
    (holds_wants c.args.self.now c.args.self.now _ _ c.from_residual.ensures)

pub returns-in_ok-keep-in-Held-clause-plays : goal.returns-in_ok-keep-in-Held-clause-plays
returns-in_ok-keep-in-Held-clause-plays g c =
    carried c.args.datagram c.args.fate fates.Held c.args.self.now c.args.self.now None _ _ c.in-Held.is
    (on_none delivers (Shows c.args.self.now) _)

pub returns-in-Once-clause-plays : goal.returns-in-Once-clause-plays
returns-in-Once-clause-plays g c =
    carried c.args.datagram c.args.fate fates.Once c.args.self.now c.deliver_one.new.self _ _ _ c.in-Once.is
    (comes_once c.args.datagram c.args.self.now c.deliver_one.new.self _ _ _ c.deliver_one.ensures.plays)
