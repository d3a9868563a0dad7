use Rattle.std.proofs.Common.{◌≡◌, drop, option_map}
use Rattle.xg_check.specs.Meant.{package_in}
use Rattle.xg_check.proofs.MeantLaws.{or_before}
use Rattle.xg_check.proofs.meaning.package.Given as goal

abbrev pub invariant-loop-item : goal.invariant-loop-item
invariant-loop-item l = or_before (package_in (drop l.item-index l.item-items)) (option_map (λ t. t.now) l.last)
    ≡ package_in l.item-items
