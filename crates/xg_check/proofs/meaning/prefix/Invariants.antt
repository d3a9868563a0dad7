use Rattle.std.proofs.Common.{◌≡◌, drop, option_map}
use Rattle.xg_check.specs.Meant.{prefix_in}
use Rattle.xg_check.proofs.MeantLaws.{or_before}
use Rattle.xg_check.proofs.meaning.prefix.Given as goal

abbrev pub invariant-loop-item : goal.invariant-loop-item
invariant-loop-item l = or_before (prefix_in (drop l.item-index l.item-items)) (option_map (λ t. t.now) l.last)
    ≡ prefix_in l.item-items
