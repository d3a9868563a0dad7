-- The next terminal decides at each place of the grammar.
use Rattle.std.proofs.Common.{◌≡◌, true, refl}
use Rattle.xg_parse.specs.Reading.{is_decided}
use Rattle.xg_parse.specs.Grammar.{file, item, named_item, number_item, type_item, case_list, argument_list, optional}
use Rattle.xg_parse.specs.Grammar.{optional_integer, optional_tag, optional_bound, optional_value, more_cases}
use Rattle.xg_parse.specs.Grammar.{optional_otherwise, all_cases, optional_mode, next_arguments, optional_kind}
use Rattle.xg_parse.specs.Grammar.{next_members, decl_lines, name, const_word, value, type_word, fixed, bounded, bound}
use Rattle.xg_parse.specs.Grammar.{declared, decl, decl_line, member, case, arm, cases, otherwise, mode, argument}
use Rattle.xg_parse.specs.Grammar.{next_argument, arguments, kind, package_item, prefix_item, stat_index_item}
use Rattle.xg_parse.specs.Grammar.{starting_opcode_item, const_item, typedef_item, next_member, members, enum_item}
use Rattle.xg_parse.specs.Grammar.{struct_item, tag, arms, union_item, proc_item}

pub file_is_decided : is_decided file ≡ true
unfolding file named_item number_item type_item case_list argument_list optional optional_integer optional_tag
    optional_bound optional_value more_cases optional_otherwise all_cases optional_mode next_arguments
    optional_kind next_members decl_lines name const_word value type_word fixed bounded bound declared decl
    decl_line member case arm cases otherwise mode argument next_argument arguments kind package_item prefix_item
    stat_index_item starting_opcode_item const_item typedef_item next_member members enum_item struct_item tag arms
    union_item proc_item item
file_is_decided = refl
