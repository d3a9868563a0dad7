use Rattle.std.proofs.Common.{◌≡◌, ◌+◌, ◌*◌, ◌≤◌, map, drop}
use Rattle.serde_json.specs.Data.{items_depth}
use Rattle.serde_json.specs.View.{items_view, members_view}
use Rattle.xdr_value.specs.View.{kind_of, types_of, values_of, part_of}
use Rattle.xdr_json.specs.Judging.{parts_judged, elements_judged, member_judge}
use Rattle.xdr_json.proofs.Loop.{with_front}
use Rattle.xdr_json.proofs.judging.+judge.Given as goal

abbrev pub decreases-judge : goal.decreases-judge
decreases-judge l = 5 * l.levels + 1

abbrev pub decreases-judge_member : goal.decreases-judge_member
decreases-judge_member l = 5 * l.levels + 2

abbrev pub decreases-elements : goal.decreases-elements
decreases-elements l = 5 * l.levels + 2

abbrev pub decreases-judge_optional : goal.decreases-judge_optional
decreases-judge_optional l = 5 * l.levels + 2

abbrev pub decreases-judge_list : goal.decreases-judge_list
decreases-judge_list l = 5 * l.levels + 3

abbrev pub decreases-judge_array : goal.decreases-judge_array
decreases-judge_array l = 5 * l.levels + 4

abbrev pub decreases-parts : goal.decreases-parts
decreases-parts l = 5 * l.levels + 3

abbrev pub decreases-judge_arm : goal.decreases-judge_arm
decreases-judge_arm l = 5 * l.levels + 3

abbrev pub decreases-judge_union : goal.decreases-judge_union
decreases-judge_union l = 5 * l.levels + 4

abbrev pub decreases-judge_object : goal.decreases-judge_object
decreases-judge_object l = 5 * l.levels + 5

abbrev pub invariant-elements-loop-i : goal.invariant-elements-loop-i
invariant-elements-loop-i l = record {
  shallow : items_depth (items_view (drop l.i l.items.items)) ≤ l.levels;
  told : with_front (values_of l.values.items)
      (elements_judged (types_of l.iface.types.items) (items_view (drop l.i l.items.items)) (kind_of l.of) l.i)
      ≡ elements_judged (types_of l.iface.types.items) (items_view l.items.items) (kind_of l.of) 0;
}

abbrev pub invariant-parts-loop-field : goal.invariant-parts-loop-field
invariant-parts-loop-field l =
    with_front (values_of l.values.items) (parts_judged (map part_of (drop l.field-index l.field-items))
    (member_judge (types_of l.iface.types.items) (members_view l.members.entries)))
    ≡ parts_judged (map part_of l.fields.items)
    (member_judge (types_of l.iface.types.items) (members_view l.members.entries))
