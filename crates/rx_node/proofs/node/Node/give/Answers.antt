use Rattle.std.proofs.Common.{take, arith}
use Rattle.rx_node.proofs.GivenDatagram.{gave_datagram}
use Rattle.rx_node.proofs.SameChannels.{same_then}
use Rattle.rx_node.proofs.node.Node.give.Goals as goal

pub returns-clause-gives : goal.returns-clause-gives
returns-clause-gives g c =
    λ l i m due. gave_datagram g.C.Class.class_of c.args.self.now c.count-serial.new.self c.give_item.new.self
    c.count-serial.ensures.same l m c.args.due.now i due c.link.result.now c.link.ensures c.count-serial.result
    c.head-head.result (take c.give_item.result c.give_item.new.to) c.count-serial.ensures.serial
    c.count-serial.ensures.steps c.head-head.ensures.head c.give_item.ensures.gives

pub returns-clause-others : goal.returns-clause-others
returns-clause-others g c =
    λ q apart. same_then _ _ _ q (c.count-serial.ensures.channels q) (c.give_item.ensures.others q apart)

pub returns-clause-steps_taken : goal.returns-clause-steps_taken
returns-clause-steps_taken g c =
    let item = c.give_item.ensures.steps_taken in
    λ d power. (
    let count = c.count-serial.ensures.steps_taken d power in
    record {
      grows = omega (arith, count.grows, item.grows);
      most = omega (arith, count.most, item.most);
    })
