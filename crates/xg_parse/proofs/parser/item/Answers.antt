use Rattle.std.proofs.Common.{sym, ◌∙◌}
use Rattle.xg_parse.specs.Rules.{◌∣◌}
use Rattle.xg_parse.specs.Grammar.{item, named_item, package_item, prefix_item, number_item, stat_index_item}
use Rattle.xg_parse.specs.Grammar.{starting_opcode_item, const_item, type_item, typedef_item, enum_item, struct_item}
use Rattle.xg_parse.specs.Grammar.{union_item, proc_item}
use Rattle.xg_parse.specs.Gives.{cursor_place}
use Rattle.xg_parse.proofs.LoopLaws.{choose_first, choose_other, gives_at}
use Rattle.xg_parse.proofs.parser.item.Goals as goal

pub returns-then-begins_number : goal.returns-then-begins_number
unfolding item named_item package_item prefix_item number_item stat_index_item starting_opcode_item const_item
    type_item typedef_item enum_item struct_item union_item
returns-then-begins_number c =
    gives_at _ _ _ _
    (choose_other named_item (number_item ∣ type_item ∣ proc_item) (cursor_place c.args.cursor)
    (cursor_place c.without-cursor.result)
    (sym c.begins_named.ensures ∙ c.if-begins_named.false) c.without-cursor.ensures
    ∙ choose_first number_item (type_item ∣ proc_item) (cursor_place c.without-cursor.result)
    (sym c.begins_number.ensures ∙ c.if-begins_number.true))
    c.number_item.ensures

pub returns-then-begins_type : goal.returns-then-begins_type
unfolding item named_item package_item prefix_item number_item stat_index_item starting_opcode_item const_item
    type_item typedef_item enum_item struct_item union_item
returns-then-begins_type c =
    gives_at _ _ _ _
    (choose_other named_item (number_item ∣ type_item ∣ proc_item) (cursor_place c.args.cursor)
    (cursor_place c.without-cursor.result)
    (sym c.begins_named.ensures ∙ c.if-begins_named.false) c.without-cursor.ensures
    ∙ (choose_other number_item (type_item ∣ proc_item) (cursor_place c.without-cursor.result)
    (cursor_place c.without-cursor-2.result)
    (sym c.begins_number.ensures ∙ c.if-begins_number.false) c.without-cursor-2.ensures
    ∙ choose_first type_item proc_item (cursor_place c.without-cursor-2.result)
    (sym c.begins_type.ensures ∙ c.if-begins_type.true)))
    c.type_item.ensures

pub returns : goal.returns
unfolding item named_item package_item prefix_item number_item stat_index_item starting_opcode_item const_item
    type_item typedef_item enum_item struct_item union_item
returns c =
    gives_at _ _ _ _
    (choose_other named_item (number_item ∣ type_item ∣ proc_item) (cursor_place c.args.cursor)
    (cursor_place c.without-cursor.result)
    (sym c.begins_named.ensures ∙ c.if-begins_named.false) c.without-cursor.ensures
    ∙ (choose_other number_item (type_item ∣ proc_item) (cursor_place c.without-cursor.result)
    (cursor_place c.without-cursor-2.result)
    (sym c.begins_number.ensures ∙ c.if-begins_number.false) c.without-cursor-2.ensures
    ∙ choose_other type_item proc_item (cursor_place c.without-cursor-2.result) (cursor_place c.without.result)
    (sym c.begins_type.ensures ∙ c.if-begins_type.false) c.without.ensures))
    c.proc_item.ensures
