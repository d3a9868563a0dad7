-- The terminals of the grammar and their order. Public clauses cite this module.
use Rattle.std.specs.Prelude.{ℕ, Bool, ◌==◌, List, [], ◌∷◌, codes}
use Rattle.xg_parse.specs.declared.terminal.Terminal.{Terminal}
use Rattle.xg_parse.specs.declared.terminal.Terminal.TheVariants as terms

-- the terminals, in the order in which each first appears in the grammar
abbrev pub terminals : List Terminal
terminals =
    terms.Package ∷ terms.Name ∷ terms.Semicolon ∷ terms.Prefix ∷ terms.StatIndex ∷ terms.StartingOpcode ∷
    terms.Const ∷ terms.Equals ∷
    terms.Typedef ∷ terms.Enum ∷ terms.LeftBrace ∷ terms.Comma ∷ terms.RightBrace ∷ terms.Struct ∷ terms.Union ∷
    terms.Switch ∷ terms.LeftParen ∷
    terms.RightParen ∷ terms.Default ∷ terms.Colon ∷ terms.Proc ∷ terms.Split ∷ terms.Multi ∷ terms.Case ∷
    terms.Void ∷ terms.In ∷ terms.Out ∷
    terms.InOut ∷ terms.Star ∷ terms.LeftBracket ∷ terms.RightBracket ∷ terms.Less ∷ terms.Greater ∷ terms.Opaque ∷
    terms.StringWord ∷
    terms.Minus ∷ terms.Number ∷ terms.Int ∷ terms.Long ∷ terms.Short ∷ terms.Char ∷ terms.Hyper ∷ terms.Bool ∷
    terms.Unsigned ∷ terms.UInt ∷
    terms.ULong ∷ terms.UShort ∷ terms.UChar ∷ terms.AfsInt32 ∷ terms.AfsUint32 ∷ terms.AfsInt64 ∷ terms.AfsUint64 ∷ []

-- the place of a terminal in that order, from 0
abbrev pub order_of : Terminal → ℕ
order_of terms.Package = 0
order_of terms.Name = 1
order_of terms.Semicolon = 2
order_of terms.Prefix = 3
order_of terms.StatIndex = 4
order_of terms.StartingOpcode = 5
order_of terms.Const = 6
order_of terms.Equals = 7
order_of terms.Typedef = 8
order_of terms.Enum = 9
order_of terms.LeftBrace = 10
order_of terms.Comma = 11
order_of terms.RightBrace = 12
order_of terms.Struct = 13
order_of terms.Union = 14
order_of terms.Switch = 15
order_of terms.LeftParen = 16
order_of terms.RightParen = 17
order_of terms.Default = 18
order_of terms.Colon = 19
order_of terms.Proc = 20
order_of terms.Split = 21
order_of terms.Multi = 22
order_of terms.Case = 23
order_of terms.Void = 24
order_of terms.In = 25
order_of terms.Out = 26
order_of terms.InOut = 27
order_of terms.Star = 28
order_of terms.LeftBracket = 29
order_of terms.RightBracket = 30
order_of terms.Less = 31
order_of terms.Greater = 32
order_of terms.Opaque = 33
order_of terms.StringWord = 34
order_of terms.Minus = 35
order_of terms.Number = 36
order_of terms.Int = 37
order_of terms.Long = 38
order_of terms.Short = 39
order_of terms.Char = 40
order_of terms.Hyper = 41
order_of terms.Bool = 42
order_of terms.Unsigned = 43
order_of terms.UInt = 44
order_of terms.ULong = 45
order_of terms.UShort = 46
order_of terms.UChar = 47
order_of terms.AfsInt32 = 48
order_of terms.AfsUint32 = 49
order_of terms.AfsInt64 = 50
order_of terms.AfsUint64 = 51

-- whether a terminal is the first one
abbrev pub same : Terminal → Terminal → Bool
same a b = order_of b == order_of a

-- a terminal as it is printed: a word or a sign stands for itself
abbrev pub terminal_text : Terminal → List ℕ
terminal_text terms.Package = codes "package"
terminal_text terms.Name = codes "NAME"
terminal_text terms.Semicolon = codes ";"
terminal_text terms.Prefix = codes "prefix"
terminal_text terms.StatIndex = codes "statindex"
terminal_text terms.StartingOpcode = codes "startingopcode"
terminal_text terms.Const = codes "const"
terminal_text terms.Equals = codes "="
terminal_text terms.Typedef = codes "typedef"
terminal_text terms.Enum = codes "enum"
terminal_text terms.LeftBrace = codes "{"
terminal_text terms.Comma = codes ","
terminal_text terms.RightBrace = codes "}"
terminal_text terms.Struct = codes "struct"
terminal_text terms.Union = codes "union"
terminal_text terms.Switch = codes "switch"
terminal_text terms.LeftParen = codes "("
terminal_text terms.RightParen = codes ")"
terminal_text terms.Default = codes "default"
terminal_text terms.Colon = codes ":"
terminal_text terms.Proc = codes "proc"
terminal_text terms.Split = codes "split"
terminal_text terms.Multi = codes "multi"
terminal_text terms.Case = codes "case"
terminal_text terms.Void = codes "void"
terminal_text terms.In = codes "IN"
terminal_text terms.Out = codes "OUT"
terminal_text terms.InOut = codes "INOUT"
terminal_text terms.Star = codes "*"
terminal_text terms.LeftBracket = codes "["
terminal_text terms.RightBracket = codes "]"
terminal_text terms.Less = codes "<"
terminal_text terms.Greater = codes ">"
terminal_text terms.Opaque = codes "opaque"
terminal_text terms.StringWord = codes "string"
terminal_text terms.Minus = codes "-"
terminal_text terms.Number = codes "NUM"
terminal_text terms.Int = codes "int"
terminal_text terms.Long = codes "long"
terminal_text terms.Short = codes "short"
terminal_text terms.Char = codes "char"
terminal_text terms.Hyper = codes "hyper"
terminal_text terms.Bool = codes "bool"
terminal_text terms.Unsigned = codes "unsigned"
terminal_text terms.UInt = codes "u_int"
terminal_text terms.ULong = codes "u_long"
terminal_text terms.UShort = codes "u_short"
terminal_text terms.UChar = codes "u_char"
terminal_text terms.AfsInt32 = codes "afs_int32"
terminal_text terms.AfsUint32 = codes "afs_uint32"
terminal_text terms.AfsInt64 = codes "afs_int64"
terminal_text terms.AfsUint64 = codes "afs_uint64"
