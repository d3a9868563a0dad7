use Rattle.std.proofs.Common.{◌≡◌, ◌++◌, ℕ, ℤ, List, Option, map, drop, length}
use Rattle.xdr_value.specs.View.{procs_of}
use Rattle.xg_parse.specs.declared.tree.Part.{Part}
use Rattle.xg_check.specs.Opcodes.{opcodes_behind}
use Rattle.xg_check.specs.Meant.{procs_behind, procs_meant}
use Rattle.xg_check.proofs.procs.procs.Given as goal

abbrev pub invariant-loop-item : goal.invariant-loop-item
invariant-loop-item l = record {
  front : List Part;
  procs_are : procs_of l.procs.items ++ procs_behind l.constants front (drop l.item-index l.item-items)
      ≡ procs_meant l.constants l.item-items;
  left_are : drop (length l.procs.items) l.opcodes
      ≡ map (λ (p : List ℕ × Option ℤ). p.1) (opcodes_behind l.constants front (drop l.item-index l.item-items));
}
