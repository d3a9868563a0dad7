use Rattle.std.proofs.Common.{rules}
use Rattle.rx_call.proofs.KeyLaws.{enters}
use Rattle.rx_call.proofs.calls.Calls.enter.Goals as goal

pub invariant_of-self : goal.invariant_of-self
invariant_of-self c =
    rw c.pop.ensures.capacity
    (enters c.self.inside.entries.slots c.self.inside.pace _ c.self.inside.free.items
    c.pop.new.self.items c.pop.result
    c.pop.ensures.items c.self.invariant).kept

pub returns : goal.returns
returns c =
    let e = (
    enters c.self.inside.entries.slots c.self.inside.pace _ c.self.inside.free.items c.pop.new.self.items c.pop.result
    c.pop.ensures.items c.self.invariant) in
    record {
      full = search rules;
      room = search rules;
      absent = rw (← c.self.view_is) e.absent;
      idle = rw (← c.self.view_is) e.idle;
      others = rw (← c.self.view_is) e.others;
      live = rw (← c.self.view_is) e.live;
      slots = rw (← c.self.view_is) e.slots;
      none = search rules;
    }
