use Rattle.std.proofs.Common.{◌≡◌, ◌<◌, ◌++◌, ◌∷◌, [], arith, length, sym, subst, rules}
use Rattle.rx_pool.specs.Pool.{HasNoRepeat, AllBelow}
use Rattle.rx_pool.proofs.Numbers.{few, no_repeat_push, below_push}
use Rattle.rx_pool.proofs.Taking.{pushed}
use Rattle.rx_pool.proofs.pool.Pool.give.Goals as goal

pub push_reserved-requires : goal.push_reserved-requires
push_reserved-requires c =
    let of = (rw (← c.self.view_is) at c.requires) in
    let so = c.self.invariant in
    let free = c.self.inside.free.items in
    let slots = length c.self.inside.slots.items in
    let few : length free < slots = few slots (c.args.slot ∷ free) (of.held, so.apart) (of.within, so.below) in
    omega (arith, few, so.room, c.self.inside.free.ok.0)

pub invariant_of-self : goal.invariant_of-self
invariant_of-self c =
    let of = (rw (← c.self.view_is) at c.requires) in
    let so = c.self.invariant in
    let free = c.self.inside.free.items in
    let n = length c.self.inside.slots.items in
    let items : c.push_reserved.new.self.items ≡ free ++ c.args.slot ∷ [] = grind (arith, rules) in
    record {
      apart = subst HasNoRepeat (sym items) (no_repeat_push c.args.slot free so.apart of.held);
      below = subst (AllBelow n) (sym items) (below_push n c.args.slot free so.below of.within);
      room = search rules;
      most = so.most;
      full = so.full;
    }

pub returns-clause-given : goal.returns-clause-given
returns-clause-given c =
    let of = (rw (← c.self.view_is) at c.requires) in
    let free = c.self.inside.free.items in
    let items : c.push_reserved.new.self.items ≡ free ++ c.args.slot ∷ [] = grind (arith, rules) in
    rw (← c.self.view_is)
    (pushed c.self.inside.slots.items free c.push_reserved.new.self.items c.args.slot items of)
