use Rattle.std.proofs.Common.{◌≡◌, ◌+◌, ◌∷◌, ◌++◌, ℕ, ℤ, [], List, Option, length, drop, map, slice_get, sym, ap, ◌∙◌}
use Rattle.std.proofs.Common.{arith}
use Rattle.std.proofs.lemmas.List.{length-map, length-append}
use Rattle.xdr_value.specs.View.{proc_of, procs_of}
use Rattle.xg_parse.specs.declared.tree.Item.{Item}
use Rattle.xg_check.specs.Counting.{part_proc}
use Rattle.xg_check.specs.Held.{flat, held_value}
use Rattle.xg_check.specs.Meant.{procs_behind, procs_meant}
use Rattle.xg_check.specs.Opcodes.{opcodes_in}
use Rattle.xdr_value.specs.declared.def.Proc.{Proc}
use Rattle.xg_check.proofs.StepLaws.{procs_more, left_more, procs_last}
use Rattle.xg_check.proofs.procs.procs.Goals as goal

pub loop-item-init : goal.loop-item-init
loop-item-init c =
    let cs = c.args.constants.now in
    let items = c.as_slice-item-items.result.now in
    record {
      front = [];
      procs_are = ap (λ (ps : List Proc). procs_of ps ++ procs_behind cs [] items) c.new-procs.ensures.items;
      left_are = ap (λ (ps : List Proc). drop (length ps) c.args.opcodes.now) c.new-procs.ensures.items ∙ c.requires
          ∙ ap (λ (xs : List Item). map (λ (p : List ℕ × Option ℤ). p.1) (opcodes_in cs xs))
          (sym c.as_slice-item-items.ensures);
    }

pub loop-item-preserved : goal.loop-item-preserved
loop-item-preserved c =
    let cs = c.args.constants.now in
    let list = c.args.opcodes.now in
    let items = c.as_slice-item-items.result.now in
    let i = c.loop-item.item-index in
    let d = c.item-item.result in
    let inv = c.loop-item.invariant in
    let old = c.loop-item.procs.items in
    let new = c.add_proc.new.procs.items in
    let n = length old in
    let count : c.len.result ≡ length old = omega (arith, c.len.ensures, c.loop-item.procs.ok.0) in
    let opcode = c.value_in-opcode.result in
    let is : opcode ≡ flat (slice_get list n) = c.value_in-opcode.ensures ∙ ap (held_value list) count in
    let made = c.in_ok-add_proc.ensures in
    let longer : length new ≡ n + length (part_proc cs opcode d.part) =
    omega (
      arith,
      ap length made,
      length-map new proc_of,
      length-map old proc_of,
      length-append (procs_of old) (part_proc cs opcode d.part),
    ) in
    record {
      front = d.part ∷ inv.front;
      procs_are = procs_more cs inv.front list n opcode is items i d c.loop-item-test.true c.item-item.is inv.left_are
          (procs_of old) (procs_of new) _ inv.procs_are made;
      left_are = left_more cs inv.front list n opcode is items i d c.loop-item-test.true c.item-item.is inv.left_are
          (length new) longer;
    }

pub returns : goal.returns
returns c =
    procs_last c.args.constants.now c.loop-item.invariant.front c.as_slice-item-items.result.now c.loop-item.item-index
    (procs_of c.loop-item.procs.items) _ c.loop-item-test.false c.loop-item.invariant.procs_are
    ∙ ap (procs_meant c.args.constants.now) c.as_slice-item-items.ensures
