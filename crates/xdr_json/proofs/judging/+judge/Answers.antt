use Rattle.std.proofs.Common.{◌≡◌, ℕ, ◌+◌, ◌≤◌, ◌∷◌, ◌<◌, List, drop, length, map, option_map, sym, ap, ◌∙◌, subst}
use Rattle.std.proofs.Common.{arith}
use Rattle.std.proofs.lemmas.List.{drop_all}
use Rattle.std.proofs.lemmas.Bool.{eqb-false}
use Rattle.std.proofs.Math.Nat.{le-max_right}
use Rattle.serde_json.specs.Data.{depth as nesting, items_depth}
use Rattle.serde_json.specs.View.{view, items_view, members_view}
use Rattle.serde_json.specs.declared.value.Value.{Value as Json}
use Rattle.xdr_value.specs.Data.{more, end}
use Rattle.xdr_value.specs.View.{kind_of, types_of, value_of, values_of, part_of}
use Rattle.xdr_value.proofs.Lists.{append, in_left, values_of-push}
use Rattle.xdr_json.specs.Judging.{judged, parts_judged, elements_judged, member_judge}
use Rattle.xdr_json.specs.Judged.{misfit}
use Rattle.xdr_json.proofs.Fields.{judge_of, member_depth, many}
use Rattle.serde_json.proofs.Views.{items_len-items_view}
use Rattle.serde_json.specs.Events.{items_len}
use Rattle.xdr_json.proofs.Loop.{elements_go_on, elements_done, parts_go_on, parts_done}
use Rattle.xdr_json.proofs.judging.+judge.Goals as goal

less_deep : (j : Json) (js left : List Json) (n : ℕ) → left ≡ j ∷ js → items_depth (items_view left) ≤ n
    → items_depth (items_view js) ≤ n
less_deep j js left n is deep =
    let all : items_depth (items_view (j ∷ js)) ≤ n = subst (λ xs. items_depth (items_view xs) ≤ n) is deep in
    let most = le-max_right (nesting (view j)) (items_depth (items_view js)) in
    omega (arith, all, most)

pub elements-loop-i-preserved : goal.elements-loop-i-preserved
elements-loop-i-preserved t c =
    let items = c.args.items.now.items in
    let types = types_of c.args.iface.now.types.items in
    let of = kind_of c.args.of.now in
    let len : c.len-i-end.result ≡ length items = c.len-i-end.ensures ∙ c.args.items.now.ok.0 in
    let test = c.loop-i-test.true in
    let left = in_left items c.loop-i.i c.index.result.now (omega (arith, test, len)) c.index.ensures in
    let met = c.in_ok-value.ensures (judged types (view c.index.result.now) of) c.judge-judged.ensures in
    let pushed : values_of c.push.new.self.items ≡ append (values_of c.loop-i.values.items)
    (more (value_of c.in_ok-value.value) end) =
    rw c.in_ok-push.ensures.items (values_of-push c.loop-i.values.items c.in_ok-value.value) in
    record {
      shallow =
          less_deep c.index.result.now (drop (c.loop-i.i + 1) items) (drop c.loop-i.i items) c.args.levels left
          c.loop-i.invariant.shallow;
      told =
          rw pushed (elements_go_on types of (values_of c.loop-i.values.items) c.loop-i.i c.index.result.now
          (drop c.loop-i.i items) (drop (c.loop-i.i + 1) items) (value_of c.in_ok-value.value)
          (elements_judged types (items_view items) of 0) left met c.loop-i.invariant.told);
    }

pub elements-returns : goal.elements-returns
elements-returns t c =
    let len : c.len-i-end.result ≡ length c.args.items.now.items = c.len-i-end.ensures ∙ c.args.items.now.ok.0 in
    let test = c.loop-i-test.false in
    elements_done (types_of c.args.iface.now.types.items) (kind_of c.args.of.now) (values_of c.loop-i.values.items)
    c.loop-i.i _ _
    (drop_all c.loop-i.i c.args.items.now.items (omega (arith, test, len))) c.loop-i.invariant.told

pub parts-loop-field-preserved : goal.parts-loop-field-preserved
parts-loop-field-preserved t c =
    let found = member_judge (types_of c.args.iface.now.types.items) (members_view c.args.members.now.entries) in
    let left = in_left c.deref-field-items.result.now c.loop-field.field-index c.field-item.result
    c.loop-field-test.true c.field-item.is in
    let met = c.in_ok-value.ensures in
    let pushed : values_of c.push.new.self.items ≡ append (values_of c.loop-field.values.items)
    (more (value_of c.in_ok-value.value) end) =
    rw c.in_ok-push.ensures.items (values_of-push c.loop-field.values.items c.in_ok-value.value) in
    rw pushed (parts_go_on found (values_of c.loop-field.values.items) c.field-item.result
    (drop c.loop-field.field-index c.deref-field-items.result.now) _ (value_of c.in_ok-value.value)
    (parts_judged (map part_of c.args.fields.now.items) found) left (rw c.as_str.ensures.value at met)
    c.loop-field.invariant)

pub parts-returns : goal.parts-returns
parts-returns t c =
    parts_done (member_judge (types_of c.args.iface.now.types.items) (members_view c.args.members.now.entries))
    (values_of c.loop-field.values.items) _ _
    (drop_all c.loop-field.field-index c.deref-field-items.result.now c.loop-field-test.false) c.loop-field.invariant

pub judge_member-judge-judged-requires : goal.judge_member-judge-judged-requires
judge_member-judge-judged-requires t c =
    let deep = member_depth c.args.name.now (view c.in-Some.json.now) (members_view c.args.members.now.entries)
    (sym c.in-Some.ensures) in
    let all = c.requires in
    omega (arith, deep, all)

pub judge_member-returns-in-None : goal.judge_member-returns-in-None
judge_member-returns-in-None t c =
    let types = types_of c.args.iface.now.types.items in
    let lacks = judge_of types (members_view c.args.members.now.entries) c.args.name.now
    ∙ ap (option_map (judged types)) (sym c.in-None.ensures) in
    rw lacks (c.above_field.ensures (misfit (kind_of c.args.ty.now)) c.unfit.ensures)

pub judge_member-returns-in-Some : goal.judge_member-returns-in-Some
judge_member-returns-in-Some t c =
    let types = types_of c.args.iface.now.types.items in
    let json = view c.in-Some.json.now in
    let has = judge_of types (members_view c.args.members.now.entries) c.args.name.now
    ∙ ap (option_map (judged types)) (sym c.in-Some.ensures) in
    rw has (c.above_field-in-Some.ensures (judged types json (kind_of c.args.ty.now)) c.judge-judged.ensures)

pub judge_object-returns-in-Basic : goal.judge_object-returns-in-Basic
judge_object-returns-in-Basic t c =
    rw c.in-Basic.is (c.judge_hex.ensures (types_of c.args.iface.now.types.items)
    (member_judge (types_of c.args.iface.now.types.items) (members_view c.args.members.now.entries)))

pub judge_optional-returns-then-not-is_single : goal.judge_optional-returns-then-not-is_single
judge_optional-returns-then-not-is_single t c =
    let items = c.args.items.now.items in
    let len : c.len-is_single.result ≡ length items = c.len-is_single.ensures ∙ c.args.items.now.ok.0 in
    let filled = eqb-false _ _ (sym c.is_empty.ensures ∙ c.if-is_empty.false) in
    let several = c.if-not-is_single.true in
    let longer : 1 < items_len (items_view items) =
    omega (arith, filled, several, len, c.args.items.now.ok.0, items_len-items_view items) in
    rw (many (kind_of c.args.ty.now) (items_len (items_view items)) _ longer) c.unfit.ensures
