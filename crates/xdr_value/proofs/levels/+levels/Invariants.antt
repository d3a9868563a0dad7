use Rattle.std.proofs.Common.{◌≤◌, ◌↔◌, drop}
use Rattle.xdr_value.specs.View.{values_of}
use Rattle.xdr_value.specs.Fits.{depths}
use Rattle.xdr_value.proofs.levels.+levels.Given as goal

abbrev pub invariant-are_within-loop-item : goal.invariant-are_within-loop-item
invariant-are_within-loop-item l = (depths (values_of (drop l.item-index l.item-items)) ≤ l.levels) ↔
    (depths (values_of l.items.items) ≤ l.levels)
