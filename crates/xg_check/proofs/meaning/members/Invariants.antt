use Rattle.std.proofs.Common.{◌≡◌, map, take}
use Rattle.xdr_value.specs.View.{member_of}
use Rattle.xg_check.specs.Meant.{member_meant}
use Rattle.xg_check.proofs.meaning.members.Given as goal

abbrev pub invariant-loop-item : goal.invariant-loop-item
invariant-loop-item l = map member_of l.members.items ≡ map (member_meant l.constants) (take l.item-index l.items)
