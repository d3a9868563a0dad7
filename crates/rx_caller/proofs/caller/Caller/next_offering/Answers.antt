use Rattle.std.proofs.Common.{arith}
use Rattle.rx_caller.proofs.Blocks.{offers_more}
use Rattle.rx_caller.proofs.caller.Caller.next_offering.Goals as goal

pub returns : goal.returns
returns c =
    let i = c.self.inside in
    let size = i.request.ok.0 in
    let within = c.self.invariant in
    rw (← c.self.view_is) (offers_more i.shut i.accepted i.request.items c.if-self.false (omega arith))
