use Rattle.std.proofs.Common.{◌≡◌, ◌++◌, ◌∷◌, [], length, subst, rules}
use Rattle.rx_pool.specs.Pool.{HasNoRepeat, AllBelow}
use Rattle.rx_pool.proofs.Numbers.{no_repeat_front, below_front}
use Rattle.rx_pool.proofs.Taking.{popped}
use Rattle.rx_pool.proofs.pool.Pool.get.Goals as goal

pub invariant_of-self-2 : goal.invariant_of-self-2
invariant_of-self-2 c =
    let number = c.in_ok-number.number in
    let left = c.pop.new.self.items in
    let items : c.self.inside.free.items ≡ left ++ number ∷ [] = c.in_ok-number.ensures.items in
    let so = c.self.invariant in
    record {
      apart = no_repeat_front number left (subst HasNoRepeat items so.apart);
      below = let n = length c.self.inside.slots.items in below_front n number left (subst (AllBelow n) items so.below);
      room = search rules;
      most = so.most;
      full = so.full;
    }

pub returns-clause-taken : goal.returns-clause-taken
returns-clause-taken c =
    let number = c.in_ok-number.number in
    let left = c.pop.new.self.items in
    let items : c.self.inside.free.items ≡ left ++ number ∷ [] = c.in_ok-number.ensures.items in
    let so = c.self.invariant in
    rw (← c.self.view_is, c.of.ensures)
    (popped c.self.inside.slots.items c.self.inside.free.items left number items so.apart so.below so.full)
