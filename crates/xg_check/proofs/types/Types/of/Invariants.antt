use Rattle.std.proofs.Common.{◌≡◌, take, map}
use Rattle.xg_check.specs.Typed.{types_in, type_names}
use Rattle.xg_check.proofs.types.Types.of.Given as goal

abbrev pub invariant-loop-item : goal.invariant-loop-item
invariant-loop-item l = record {
  parts_are : map (λ p. p.now) l.parts.items ≡ types_in (take l.item-index l.item-items);
  names_are : l.names ≡ type_names (map (λ p. p.now) l.parts.items);
}
