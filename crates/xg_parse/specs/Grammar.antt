-- The grammar of interface files. Each alternative is told by its first terminal. Public clauses cite this module.
use Rattle.std.specs.Prelude.{ℕ, Bool, true, false, ◌&&◌, ◌||◌, nat_le, List, [], ◌∷◌, ◌++◌, Option, Some, None}
use Rattle.xg_lex.specs.declared.token.TokenKind.{TokenKind}
use Rattle.xg_lex.specs.declared.token.TokenKind.TheVariants as kinds
use Rattle.xg_lex.specs.declared.token.Token.{Token}
use Rattle.xg_parse.specs.declared.terminal.Terminal.{Terminal}
use Rattle.xg_parse.specs.declared.terminal.Terminal.TheVariants as terms
use Rattle.xg_parse.specs.declared.tree.ConstWord.{ConstWord}
use Rattle.xg_parse.specs.declared.tree.ConstWord.TheVariants as consts
use Rattle.xg_parse.specs.declared.tree.TypeWord.{TypeWord}
use Rattle.xg_parse.specs.declared.tree.TypeWord.TheVariants as types
use Rattle.xg_parse.specs.declared.tree.KindWord.{KindWord}
use Rattle.xg_parse.specs.declared.tree.KindWord.TheVariants as kind_words
use Rattle.xg_parse.specs.declared.tree.ModeWord.{ModeWord}
use Rattle.xg_parse.specs.declared.tree.ModeWord.TheVariants as modes
use Rattle.xg_parse.specs.declared.tree.Bound.{Bound}
use Rattle.xg_parse.specs.declared.tree.Bound.TheVariants as bounds
use Rattle.xg_parse.specs.declared.tree.Suffix.{Suffix}
use Rattle.xg_parse.specs.declared.tree.Suffix.TheVariants as suffixes
use Rattle.xg_parse.specs.declared.tree.Form.{Form}
use Rattle.xg_parse.specs.declared.tree.Form.TheVariants as forms
use Rattle.xg_parse.specs.declared.tree.Decl.{Decl}
use Rattle.xg_parse.specs.declared.tree.MembItem.{MembItem}
use Rattle.xg_parse.specs.declared.tree.ArmItem.{ArmItem}
use Rattle.xg_parse.specs.declared.tree.ArgItem.{ArgItem}
use Rattle.xg_parse.specs.declared.tree.Part.TheVariants as parts
use Rattle.xg_parse.specs.declared.tree.Item.{Item}
use Rattle.xg_parse.specs.declared.tree.Tree.{Tree}
use Rattle.xg_parse.specs.Terminals.{order_of, same}
use Rattle.xg_parse.specs.Rules.{Rule, word, maybe, many, change, ◌▹◌, ◌∣◌, Derives}

-- the terminal alone
abbrev pub the : Terminal → Rule Token
the t = word (same t)

-- the terminal, or nothing
unfoldable pub optional : Terminal → Rule (Option Token)
optional t = maybe (the t)

-- a terminal from the one to the other, in their order
abbrev pub is_between : Terminal → Terminal → Terminal → Bool
is_between low high t = nat_le (order_of low) (order_of t) && nat_le (order_of t) (order_of high)

-- NAME, by its text
unfoldable pub name : Rule (List ℕ)
name = change (λ t. t.text) (the terms.Name)

-- the value of a number
abbrev pub number_in : TokenKind → ℕ
number_in kinds.Name = 0
number_in (kinds.Number n) = n
number_in kinds.Sign = 0

-- CONST = [ "-" ] NUM | NAME
unfoldable pub const_word : Rule ConstWord
const_word =
    change (λ x. consts.Literal true (number_in x.1.kind)) (the terms.Minus ▹ the terms.Number)
    ∣ change (λ t. consts.Literal false (number_in t.kind)) (the terms.Number)
    ∣ change (λ n. consts.Name n) name

-- "=" CONST
unfoldable pub value : Rule ConstWord
value = change (λ x. x.1) (the terms.Equals ▹ const_word)

-- [ "=" CONST ]
unfoldable pub optional_value : Rule (Option ConstWord)
optional_value = maybe value

-- int to bool, or u_int to afs_uint64
abbrev pub is_simple : Terminal → Bool
is_simple t = is_between terms.Int terms.Bool t || is_between terms.UInt terms.AfsUint64 t

-- int, long, short, char or hyper
abbrev pub is_integer : Terminal → Bool
is_integer t = is_between terms.Int terms.Hyper t

-- struct, enum or union
abbrev pub is_tag_word : Terminal → Bool
is_tag_word t = same terms.Struct t || (same terms.Enum t || same terms.Union t)

-- the words with a space between them
abbrev pub two_words : List ℕ → Option Token → List ℕ
two_words first None = first
two_words first (Some second) = first ++ 32 ∷ second.text

-- [ "int" | "long" | "short" | "char" | "hyper" ]
unfoldable pub optional_integer : Rule (Option Token)
optional_integer = maybe (word is_integer)

-- [ "struct" | "enum" | "union" ]
unfoldable pub optional_tag : Rule (Option Token)
optional_tag = maybe (word is_tag_word)

-- TYPE
unfoldable pub type_word : Rule TypeWord
type_word =
    change (λ t. types.Base t.text) (word is_simple)
    ∣ change (λ x. types.Base (two_words x.0.text x.1)) (the terms.Unsigned ▹ optional_integer)
    ∣ change (λ x. types.Name x.1) (optional_tag ▹ name)

-- "[" CONST "]"
unfoldable pub fixed : Rule ConstWord
fixed = change (λ x. x.1.0) (the terms.LeftBracket ▹ const_word ▹ the terms.RightBracket)

-- "<" [ CONST ] ">"
unfoldable pub bounded : Rule (Option ConstWord)
bounded =
    change (λ x. x.1) (the terms.Less
    ▹ (change (λ t. None) (the terms.Greater) ∣ change (λ x. Some x.0) (const_word ▹ the terms.Greater)))

-- "[" CONST "]" | "<" [ CONST ] ">"
unfoldable pub bound : Rule Bound
bound = change (λ c. bounds.Fixed c) fixed ∣ change (λ c. bounds.UpTo c) bounded

-- [ "[" CONST "]" | "<" [ CONST ] ">" ]
unfoldable pub optional_bound : Rule (Option Bound)
optional_bound = maybe bound

-- the form of an opaque with the bound
abbrev pub opaque_form : Bound → Form
opaque_form (bounds.Fixed size) = forms.Opaque size
opaque_form (bounds.UpTo most) = forms.OpaqueUpTo most

-- the form of a type with what is added to it
abbrev pub typed_form : TypeWord → Suffix → Form
typed_form ty suffixes.Star = forms.Star ty
typed_form ty (suffixes.Bound None) = forms.Plain ty
typed_form ty (suffixes.Bound (Some (bounds.Fixed size))) = forms.Fixed ty size
typed_form ty (suffixes.Bound (Some (bounds.UpTo most))) = forms.UpTo ty most

-- "*" NAME | NAME [ "[" CONST "]" | "<" [ CONST ] ">" ]
unfoldable pub declared : Rule (List ℕ × Suffix)
declared =
    change (λ x. (x.1, suffixes.Star)) (the terms.Star ▹ name)
    ∣ change (λ x. (x.0, suffixes.Bound x.1)) (name ▹ optional_bound)

-- DECL
unfoldable pub decl : Rule Decl
decl =
    change (λ x. record { name = x.1.0; form = opaque_form x.1.1 }) (the terms.Opaque ▹ name ▹ bound)
    ∣ change (λ x. record { name = x.1.0; form = forms.Text x.1.1 }) (the terms.StringWord ▹ name ▹ bounded)
    ∣ change (λ x. record { name = x.1.0; form = typed_form x.0 x.1.1 }) (type_word ▹ declared)

-- DECL ";"
unfoldable pub decl_line : Rule Decl
decl_line = change (λ x. x.0) (decl ▹ the terms.Semicolon)

-- MEMB = NAME [ "=" CONST ]
unfoldable pub member : Rule MembItem
member = change (λ x. record { name = x.0; value = x.1 }) (name ▹ optional_value)

-- CASE = "case" CONST ":"
unfoldable pub case : Rule ConstWord
case = change (λ x. x.1.0) (the terms.Case ▹ const_word ▹ the terms.Colon)

-- { CASE }
unfoldable pub more_cases : Rule (List ConstWord)
more_cases = many case

-- ARM = DECL ";" | "void" ";"
unfoldable pub arm : Rule (Option Decl)
arm = change (λ x. None) (the terms.Void ▹ the terms.Semicolon) ∣ change (λ d. Some d) decl_line

-- CASE { CASE }
unfoldable pub case_list : Rule (List ConstWord)
case_list = change (λ x. x.0 ∷ x.1) (case ▹ more_cases)

-- CASE { CASE } ARM
unfoldable pub cases : Rule ArmItem
cases = change (λ x. record { cases = x.0; decl = x.1 }) (case_list ▹ arm)

-- "default" ":" ARM
unfoldable pub otherwise : Rule ArmItem
otherwise = change (λ x. record { cases = []; decl = x.1.1 }) (the terms.Default ▹ the terms.Colon ▹ arm)

-- [ "default" ":" ARM ]
unfoldable pub optional_otherwise : Rule (Option ArmItem)
optional_otherwise = maybe otherwise

-- { CASE { CASE } ARM }
unfoldable pub all_cases : Rule (List ArmItem)
all_cases = many cases

-- "IN" | "OUT" | "INOUT"
unfoldable pub mode : Rule ModeWord
mode =
    change (λ t. modes.In) (the terms.In) ∣ change (λ t. modes.Out) (the terms.Out)
    ∣ change (λ t. modes.InOut) (the terms.InOut)

-- [ "IN" | "OUT" | "INOUT" ]
unfoldable pub optional_mode : Rule (Option ModeWord)
optional_mode = maybe mode

-- ARG = [ "IN" | "OUT" | "INOUT" ] DECL
unfoldable pub argument : Rule ArgItem
argument = change (λ x. record { mode = x.0; decl = x.1 }) (optional_mode ▹ decl)

-- "," ARG
unfoldable pub next_argument : Rule ArgItem
next_argument = change (λ x. x.1) (the terms.Comma ▹ argument)

-- { "," ARG }
unfoldable pub next_arguments : Rule (List ArgItem)
next_arguments = many next_argument

-- ARG { "," ARG }
unfoldable pub argument_list : Rule (List ArgItem)
argument_list = change (λ x. x.0 ∷ x.1) (argument ▹ next_arguments)

-- "(" [ ARG { "," ARG } ] ")"
unfoldable pub arguments : Rule (List ArgItem)
arguments =
    change (λ x. x.1) (the terms.LeftParen
    ▹ (change (λ t. []) (the terms.RightParen)
    ∣ change (λ x. x.0) (argument_list ▹ the terms.RightParen)))

-- "split" | "multi"
unfoldable pub kind : Rule KindWord
kind = change (λ t. kind_words.Split) (the terms.Split) ∣ change (λ t. kind_words.Multi) (the terms.Multi)

-- [ "split" | "multi" ]
unfoldable pub optional_kind : Rule (Option KindWord)
optional_kind = maybe kind

-- "package" NAME [ ";" ]
unfoldable pub package_item : Rule Item
package_item =
    change (λ x. record { line = x.0.line; part = parts.Package x.1.0 })
    (the terms.Package ▹ name ▹ optional terms.Semicolon)

-- "prefix" NAME [ ";" ]
unfoldable pub prefix_item : Rule Item
prefix_item =
    change (λ x. record { line = x.0.line; part = parts.Prefix x.1.0 })
    (the terms.Prefix ▹ name ▹ optional terms.Semicolon)

-- "statindex" CONST [ ";" ]
unfoldable pub stat_index_item : Rule Item
stat_index_item =
    change (λ x. record { line = x.0.line; part = parts.StatIndex x.1.0 })
    (the terms.StatIndex ▹ const_word ▹ optional terms.Semicolon)

-- "startingopcode" CONST [ ";" ]
unfoldable pub starting_opcode_item : Rule Item
starting_opcode_item =
    change (λ x. record { line = x.0.line; part = parts.StartingOpcode x.1.0 })
    (the terms.StartingOpcode ▹ const_word ▹ optional terms.Semicolon)

-- "const" NAME "=" CONST ";"
unfoldable pub const_item : Rule Item
const_item =
    change (λ x. record { line = x.0.line; part = parts.Const x.1.0 x.1.1.0 })
    (the terms.Const ▹ name ▹ value ▹ the terms.Semicolon)

-- "typedef" DECL ";"
unfoldable pub typedef_item : Rule Item
typedef_item =
    change (λ x. record { line = x.0.line; part = parts.Typedef x.1 }) (the terms.Typedef ▹ decl_line)

-- "," MEMB
unfoldable pub next_member : Rule MembItem
next_member = change (λ x. x.1) (the terms.Comma ▹ member)

-- { "," MEMB }
unfoldable pub next_members : Rule (List MembItem)
next_members = many next_member

-- MEMB { "," MEMB }
unfoldable pub members : Rule (List MembItem)
members = change (λ x. x.0 ∷ x.1) (member ▹ next_members)

-- "enum" NAME "{" MEMB { "," MEMB } "}" ";"
unfoldable pub enum_item : Rule Item
enum_item =
    change (λ x. record { line = x.0.line; part = parts.Enum x.1.0 x.1.1.1.0 })
    (the terms.Enum ▹ name ▹ the terms.LeftBrace ▹ members ▹ the terms.RightBrace ▹ the terms.Semicolon)

-- { DECL ";" }
unfoldable pub decl_lines : Rule (List Decl)
decl_lines = many decl_line

-- "struct" NAME "{" { DECL ";" } "}" ";"
unfoldable pub struct_item : Rule Item
struct_item =
    change (λ x. record { line = x.0.line; part = parts.Struct x.1.0 x.1.1.1.0 })
    (the terms.Struct ▹ name ▹ the terms.LeftBrace ▹ decl_lines ▹ the terms.RightBrace ▹ the terms.Semicolon)

-- "switch" "(" TYPE NAME ")"
unfoldable pub tag : Rule (TypeWord × List ℕ)
tag =
    change (λ x. (x.1.1.0, x.1.1.1.0))
    (the terms.Switch ▹ the terms.LeftParen ▹ type_word ▹ name ▹ the terms.RightParen)

-- "{" { CASE { CASE } ARM } [ "default" ":" ARM ] "}"
unfoldable pub arms : Rule (List ArmItem × Option ArmItem)
arms =
    change (λ x. (x.1.0, x.1.1.0))
    (the terms.LeftBrace ▹ all_cases ▹ optional_otherwise ▹ the terms.RightBrace)

-- "union" NAME "switch" "(" TYPE NAME ")" "{" { CASE { CASE } ARM } [ "default" ":" ARM ] "}" ";"
unfoldable pub union_item : Rule Item
union_item =
    change
    (λ x. record {
      line = x.0.line;
      part = parts.Union x.1.0 x.1.1.0.0 x.1.1.0.1 x.1.1.1.0.0 x.1.1.1.0.1;
    })
    (the terms.Union ▹ name ▹ tag ▹ arms ▹ the terms.Semicolon)

-- the line of the word before a procedure's name, or of the name
abbrev pub proc_line : Option Token → Token → ℕ
proc_line None named = named.line
proc_line (Some first) named = first.line

-- [ "proc" ] NAME "(" [ ARG { "," ARG } ] ")" [ "split" | "multi" ] [ "=" CONST ] ";"
unfoldable pub proc_item : Rule Item
proc_item =
    change
    (λ x. record {
      line = proc_line x.0 x.1.0;
      part = parts.Proc x.1.0.text x.1.1.0 x.1.1.1.0 x.1.1.1.1.0;
    })
    (optional terms.Proc ▹ the terms.Name ▹ arguments ▹ optional_kind ▹ optional_value ▹ the terms.Semicolon)

-- what the file is called
unfoldable pub named_item : Rule Item
named_item = package_item ∣ prefix_item

-- a number of the file, or a constant
unfoldable pub number_item : Rule Item
number_item = stat_index_item ∣ starting_opcode_item ∣ const_item

-- a type
unfoldable pub type_item : Rule Item
type_item = typedef_item ∣ enum_item ∣ struct_item ∣ union_item

-- an item: what the file is called, a number or a constant, a type, or a procedure
unfoldable pub item : Rule Item
item = named_item ∣ number_item ∣ type_item ∣ proc_item

-- file = { item }
unfoldable pub file : Rule (List Item)
file = many item

-- the tokens are a text of the grammar, and that is its tree
abbrev pub IsTreeOf : List Token → Tree → Type 0
IsTreeOf tokens tree = Derives file tree.items tokens
