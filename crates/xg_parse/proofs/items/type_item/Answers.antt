use Rattle.std.proofs.Common.{refl, sym, ◌∙◌}
use Rattle.xg_parse.specs.declared.terminal.Terminal.TheVariants as terms
use Rattle.xg_parse.specs.Rules.{◌▹◌, ◌∣◌}
use Rattle.xg_parse.specs.Grammar.{the, name, members, decl_line, decl_lines, typedef_item, enum_item, struct_item}
use Rattle.xg_parse.specs.Grammar.{union_item, type_item}
use Rattle.xg_parse.specs.Gives.{cursor_place}
use Rattle.xg_parse.proofs.LoopLaws.{first_of, choose_first, choose_other, gives_at}
use Rattle.xg_parse.proofs.items.type_item.Goals as goal

pub returns-then-is-2 : goal.returns-then-is-2
unfolding type_item typedef_item enum_item
returns-then-is-2 c =
    gives_at _ _ _ _
    (choose_other typedef_item (enum_item ∣ struct_item ∣ union_item) (cursor_place c.args.cursor)
    (cursor_place c.without-cursor.result)
    (first_of (the terms.Typedef) (decl_line) refl c.args.cursor.next ∙ (sym c.is.ensures ∙ c.if-is.false))
    c.without-cursor.ensures
    ∙ choose_first enum_item (struct_item ∣ union_item) (cursor_place c.without-cursor.result)
    (first_of (the terms.Enum) (name ▹ the terms.LeftBrace ▹ members ▹ the terms.RightBrace ▹ the terms.Semicolon)
    refl c.without-cursor.result.next ∙ (sym c.is-2.ensures ∙ c.if-is-2.true)))
    c.enum_item.ensures

pub returns-then-is-3 : goal.returns-then-is-3
unfolding type_item typedef_item enum_item struct_item
returns-then-is-3 c =
    gives_at _ _ _ _
    (choose_other typedef_item (enum_item ∣ struct_item ∣ union_item) (cursor_place c.args.cursor)
    (cursor_place c.without-cursor.result)
    (first_of (the terms.Typedef) (decl_line) refl c.args.cursor.next ∙ (sym c.is.ensures ∙ c.if-is.false))
    c.without-cursor.ensures
    ∙ (choose_other enum_item (struct_item ∣ union_item) (cursor_place c.without-cursor.result)
    (cursor_place c.without-cursor-2.result)
    (first_of (the terms.Enum) (name ▹ the terms.LeftBrace ▹ members ▹ the terms.RightBrace ▹ the terms.Semicolon)
    refl c.without-cursor.result.next ∙ (sym c.is-2.ensures ∙ c.if-is-2.false)) c.without-cursor-2.ensures
    ∙ choose_first struct_item union_item (cursor_place c.without-cursor-2.result)
    (first_of (the terms.Struct) (name ▹ the terms.LeftBrace ▹ decl_lines ▹ the terms.RightBrace ▹ the
    terms.Semicolon) refl c.without-cursor-2.result.next ∙ (sym c.is-3.ensures ∙ c.if-is-3.true))))
    c.struct_item.ensures
