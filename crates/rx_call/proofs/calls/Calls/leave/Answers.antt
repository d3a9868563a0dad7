use Rattle.std.proofs.Common.{◌≡◌, ◌++◌, ◌∷◌, [], arith, refl, rules}
use Rattle.rx_call.proofs.KeyLaws.{leaves, of_calls}
use Rattle.rx_call.proofs.calls.Calls.leave.Goals as goal

pub invariant_of-self : goal.invariant_of-self
invariant_of-self c =
    let after = c.push_reserved.new.self.items in
    let items : after ≡ c.self.inside.free.items ++ c.args.key ∷ [] = grind (arith, rules) in
    let idle = of_calls c.args.self.now c.args.key c.requires.idle c.requires.pace in
    rw c.push_reserved.ensures.capacity
    (leaves c.self.inside.entries.slots c.self.inside.pace _ c.self.inside.free.items after c.args.key items
    (rw (← c.self.view_is) at idle) c.self.invariant).kept

pub returns : goal.returns
returns c =
    let after = c.push_reserved.new.self.items in
    let items : after ≡ c.self.inside.free.items ++ c.args.key ∷ [] = grind (arith, rules) in
    let idle = of_calls c.args.self.now c.args.key c.requires.idle c.requires.pace in
    let f = (
    leaves c.self.inside.entries.slots c.self.inside.pace _ c.self.inside.free.items after c.args.key items
    (rw (← c.self.view_is) at idle) c.self.invariant).frees in
    record {
      absent = f.absent;
      others = rw (← c.self.view_is) (record { others = f.others; room = refl; pace = refl });
      live = rw (← c.self.view_is) f.live;
      slots = rw (← c.self.view_is) f.slots;
    }
