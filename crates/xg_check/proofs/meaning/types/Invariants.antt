use Rattle.std.proofs.Common.{◌≡◌, take}
use Rattle.xdr_value.specs.View.{types_of}
use Rattle.xg_check.specs.Meant.{types_meant}
use Rattle.xg_check.proofs.meaning.types.Given as goal

abbrev pub invariant-loop-item : goal.invariant-loop-item
invariant-loop-item l = types_of l.types.items ≡ types_meant l.constants (take l.item-index l.item-items)
