use Rattle.std.proofs.Common.{List, refl, sym, ap, ◌∙◌}
use Rattle.std.proofs.lemmas.Result.{err_from_is_err_and}
use Rattle.xg_parse.specs.declared.tree.Item.{Item}
use Rattle.xg_parse.specs.Reading.{read_rule}
use Rattle.xg_parse.specs.Grammar.{file, item, named_item, package_item, prefix_item, number_item, stat_index_item}
use Rattle.xg_parse.specs.Grammar.{starting_opcode_item, const_item, type_item, typedef_item, enum_item, struct_item}
use Rattle.xg_parse.specs.Grammar.{union_item, proc_item, optional}
use Rattle.xg_parse.specs.Gives.{cursor_place}
use Rattle.xg_parse.proofs.LoopLaws.{with_front, shorter, loop_goes_on, loop_ends, loop_stops, loop_gives}
use Rattle.xg_parse.proofs.parser.items.Goals as goal

pub returns-in_err-item : goal.returns-in_err-item
unfolding file item named_item package_item prefix_item number_item stat_index_item starting_opcode_item const_item
    type_item typedef_item enum_item struct_item union_item proc_item optional
returns-in_err-item c =
    let p = err_from_is_err_and c.from_residual.result c.from_residual.ensures.1 in
    rw (p.1, p.2)
    (loop_stops item c.each.items.items (cursor_place c.each.place) _ c.in_err-item.field-0.0 c.each.invariant
    (sym c.begins_item.ensures ∙ c.each-test.true) c.in_err-item.ensures)

pub each-smaller : goal.each-smaller
unfolding file item named_item package_item prefix_item number_item stat_index_item starting_opcode_item const_item
    type_item typedef_item enum_item struct_item union_item proc_item optional
each-smaller c = shorter item refl (cursor_place c.each.place) _ c.in_ok-item.ensures

pub each-preserved : goal.each-preserved
unfolding file item named_item package_item prefix_item number_item stat_index_item starting_opcode_item const_item
    type_item typedef_item enum_item struct_item union_item proc_item optional
each-preserved c =
    ap (λ (xs : List Item). with_front xs (read_rule file (cursor_place c.in_ok-item.behind)))
    c.in_ok-push.ensures.items
    ∙ loop_goes_on item refl c.each.items.items (cursor_place c.each.place) (cursor_place c.in_ok-item.behind)
    c.in_ok-item.item _
    c.each.invariant (sym c.begins_item.ensures ∙ c.each-test.true) c.in_ok-item.ensures

pub returns : goal.returns
unfolding file item named_item package_item prefix_item number_item stat_index_item starting_opcode_item const_item
    type_item typedef_item enum_item struct_item union_item proc_item optional
returns c =
    loop_gives _ _ _ _ _ (loop_ends item c.each.items.items (cursor_place c.each.place) _ c.each.invariant
    (sym c.begins_item.ensures ∙ c.each-test.false))
    c.of.ensures c.without.ensures
