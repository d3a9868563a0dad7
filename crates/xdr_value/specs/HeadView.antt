-- What an answer of `resolve` stands for. Public clauses cite this module.
use Rattle.std.specs.Prelude.{map}
use Rattle.xdr_value.specs.View.{kind_of, part_of, member_of, choice_of}
use Rattle.xdr_value.specs.Heads.{Tag, tag_int, tag_uint, tag_bool, tag_enum, tag_other, Head, is_basic, is_enum}
use Rattle.xdr_value.specs.Heads.{is_struct, is_union, is_array, is_array_up_to, is_maybe, is_unknown}
use Rattle.xdr_value.specs.declared.head.Head.{Head as CodeHead}
use Rattle.xdr_value.specs.declared.head.Head.TheVariants as code
use Rattle.xdr_value.specs.declared.head.Tag.{Tag as CodeTag}
use Rattle.xdr_value.specs.declared.head.Tag.TheVariants as tags

-- the tag
abbrev pub tag_view : CodeTag → Tag
tag_view tags.Int = tag_int
tag_view tags.Uint = tag_uint
tag_view tags.Bool = tag_bool
tag_view (tags.Enum ms) = tag_enum (map member_of ms.now.items)
tag_view tags.Other = tag_other

-- the type, its names followed
abbrev pub head_view : CodeHead → Head
head_view (code.Basic b) = is_basic b
head_view (code.Enum ms) = is_enum (map member_of ms.now.items)
head_view (code.Struct fs) = is_struct (map part_of fs.now.items)
head_view (code.Union t arms) = is_union (tag_view t) (map choice_of arms.now.items)
head_view (code.Array t n) = is_array (kind_of t.now) n
head_view (code.ArrayUpTo t n) = is_array_up_to (kind_of t.now) n
head_view (code.Maybe t) = is_maybe (kind_of t.now)
head_view code.Unknown = is_unknown
