use Rattle.rx_call_ends.proofs.Changing.{leaves, turn_keeps}
use Rattle.rx_call_ends.proofs.ends.Ends.leave.Goals as goal

pub invariant_of-self : goal.invariant_of-self
invariant_of-self c =
    let was = c.self.invariant.looks c.args.key in
    turn_keeps _ c.leave.new.self c.args.key was c.self.invariant
    (leaves _ c.leave.new.self c.args.key was c.self.invariant (rw (← c.self.view_is) at c.requires)
    c.leave.ensures.absent c.leave.ensures.others c.leave.ensures.slots c.leave.ensures.live)
