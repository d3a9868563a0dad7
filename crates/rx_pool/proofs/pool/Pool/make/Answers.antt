use Rattle.std.proofs.Common.{◌≡◌, ◌++◌, ◌∷◌, ◌+◌, [], ℕ, arith, length, sym, ap, subst, ◌∙◌, rules}
use Rattle.std.proofs.lemmas.List.{length_push, length-replicate}
use Rattle.rx_pool.specs.Pool.{HasNoRepeat, AllBelow}
use Rattle.rx_pool.proofs.Numbers.{no_repeat_push, below_push, below_more, below_not, has_next}
use Rattle.rx_pool.proofs.Taking.{full_push}
use Rattle.rx_pool.proofs.pool.Pool.make.Goals as goal

pub loop-number-preserved : goal.loop-number-preserved
loop-number-preserved c =
    let so = c.loop-number.invariant in
    let n = c.loop-number.number in
    let free = c.loop-number.free.items in
    let items : c.push-in-loop-number.new.self.items ≡ free ++ n ∷ [] = grind (arith, rules) in
    record {
      slots = search rules;
      count = ap length items ∙ length_push free n ∙ omega (arith, so.count);
      free = has_next n free c.push-in-loop-number.new.self.items items so.free;
      apart = subst HasNoRepeat (sym items) (no_repeat_push n free so.apart (below_not n free so.below));
      below =
          subst (AllBelow (n + 1)) (sym items) (below_push (n + 1) n free (below_more n free so.below) (omega arith));
      full =
          full_push c.loop-number.slots.items c.push.new.self.items _ c.in_ok-push.ensures.items
          (length-replicate {A = ℕ} 1444 0) so.full;
      room = search rules;
    }
