use Rattle.std.proofs.Common.{◌≡◌, ◌++◌, ◌+◌, ◌^◌, ℕ, ℤ, List, Option, map, drop}
use Rattle.xg_parse.specs.declared.tree.Part.{Part}
use Rattle.xg_check.specs.Opcodes.{opcodes_behind, opcodes_in}
use Rattle.xg_check.specs.Counts.{count_behind, IsCountBelow}
use Rattle.xg_check.proofs.opcodes.opcodes.Given as goal

abbrev pub invariant-loop-item : goal.invariant-loop-item
invariant-loop-item l = record {
  front : List Part;
  count_is : l.count ≡ count_behind l.constants front;
  list_is : l.list.items
      ++ map (λ (p : List ℕ × Option ℤ). p.1) (opcodes_behind l.constants front (drop l.item-index l.item-items))
      ≡ map (λ (p : List ℕ × Option ℤ). p.1) (opcodes_in l.constants l.item-items);
  below : IsCountBelow (2 ^ 66 + l.item-index) l.count;
}
