-- The terminal that a token is. Public clauses cite this module.
use Rattle.std.specs.Prelude.{ℕ, cond, List, [], ◌∷◌, Option, Some, None, codes}
use Rattle.std.specs.Str.{bytes_eq}
use Rattle.xg_lex.specs.declared.token.TokenKind.{TokenKind}
use Rattle.xg_lex.specs.declared.token.TokenKind.TheVariants as kinds
use Rattle.xg_lex.specs.declared.token.Token.{Token}
use Rattle.xg_parse.specs.declared.terminal.Terminal.{Terminal}
use Rattle.xg_parse.specs.declared.terminal.Terminal.TheVariants as terms
use Rattle.xg_parse.specs.declared.out_word.OutWord.{OutWord}
use Rattle.xg_parse.specs.declared.out_word.OutWord.TheVariants as outs

-- what stands beside the text in a table
abbrev pub looked_up : {A : Type 0} → List ℕ → List (List ℕ × A) → Option A
looked_up text [] = None
looked_up text (e ∷ es) = cond (bytes_eq text e.0) (Some e.1) (looked_up text es)

-- the first of two that is there
abbrev pub first_there_of : {A : Type 0} → Option A → Option A → Option A
first_there_of None o = o
first_there_of (Some a) o = Some a

-- the words of items
abbrev pub item_words : List (List ℕ × Terminal)
item_words =
    (codes "package", terms.Package) ∷ (codes "prefix", terms.Prefix) ∷ (codes "statindex", terms.StatIndex) ∷
    (codes "startingopcode", terms.StartingOpcode) ∷ (codes "const", terms.Const) ∷
    (codes "typedef", terms.Typedef) ∷ (codes "enum", terms.Enum) ∷ (codes "struct", terms.Struct) ∷
    (codes "union", terms.Union) ∷ (codes "proc", terms.Proc) ∷ []

-- the words within items
abbrev pub part_words : List (List ℕ × Terminal)
part_words =
    (codes "switch", terms.Switch) ∷ (codes "case", terms.Case) ∷ (codes "default", terms.Default) ∷
    (codes "void", terms.Void) ∷ (codes "split", terms.Split) ∷ (codes "multi", terms.Multi) ∷
    (codes "IN", terms.In) ∷ (codes "OUT", terms.Out) ∷ (codes "INOUT", terms.InOut) ∷ []

-- the words of types
abbrev pub type_words : List (List ℕ × Terminal)
type_words =
    (codes "int", terms.Int) ∷ (codes "long", terms.Long) ∷ (codes "short", terms.Short) ∷
    (codes "char", terms.Char) ∷ (codes "hyper", terms.Hyper) ∷ (codes "bool", terms.Bool) ∷
    (codes "unsigned", terms.Unsigned) ∷ (codes "u_int", terms.UInt) ∷ (codes "u_long", terms.ULong) ∷
    (codes "u_short", terms.UShort) ∷ (codes "u_char", terms.UChar) ∷ (codes "afs_int32", terms.AfsInt32) ∷
    (codes "afs_uint32", terms.AfsUint32) ∷ (codes "afs_int64", terms.AfsInt64) ∷
    (codes "afs_uint64", terms.AfsUint64) ∷ (codes "opaque", terms.Opaque) ∷
    (codes "string", terms.StringWord) ∷ []

-- the words that are out by name: no text of the grammar has them, and they are no names
abbrev pub out_words : List (List ℕ × OutWord)
out_words =
    (codes "customized", outs.Customized) ∷ (codes "special", outs.Special) ∷
    (codes "splitprefix", outs.SplitPrefix) ∷ (codes "float", outs.Float) ∷ (codes "double", outs.Double) ∷
    (codes "quadruple", outs.Quadruple) ∷ (codes "program", outs.Program) ∷ (codes "version", outs.Version) ∷ []

-- the signs
abbrev pub signs : List (List ℕ × Terminal)
signs =
    (codes "{", terms.LeftBrace) ∷ (codes "}", terms.RightBrace) ∷ (codes "(", terms.LeftParen) ∷
    (codes ")", terms.RightParen) ∷ (codes "[", terms.LeftBracket) ∷ (codes "]", terms.RightBracket) ∷
    (codes "<", terms.Less) ∷ (codes ">", terms.Greater) ∷ (codes ";", terms.Semicolon) ∷
    (codes ",", terms.Comma) ∷ (codes ":", terms.Colon) ∷ (codes "=", terms.Equals) ∷ (codes "*", terms.Star) ∷
    (codes "-", terms.Minus) ∷ []

-- any other word is a name
abbrev pub name_unless : Option OutWord → Option Terminal
name_unless None = Some terms.Name
name_unless (Some word) = None

-- a word stands for itself, and any other but those that are out by name is a name
unfoldable pub word_terminal : List ℕ → Option Terminal
word_terminal text =
    first_there_of (looked_up text item_words) (first_there_of (looked_up text part_words)
    (first_there_of (looked_up text type_words) (name_unless (looked_up text out_words))))

-- the terminal that a token of this kind with this text is
unfoldable pub terminal_by : TokenKind → List ℕ → Option Terminal
terminal_by kinds.Name text = word_terminal text
terminal_by (kinds.Number n) text = Some terms.Number
terminal_by kinds.Sign text = looked_up text signs

-- the terminal that a token is
abbrev pub terminal_of : Token → Option Terminal
terminal_of token = terminal_by token.kind token.text

-- the word that a token of this kind with this text is, if it is one that is out by name
abbrev pub out_by : TokenKind → List ℕ → Option OutWord
out_by kinds.Name text = looked_up text out_words
out_by (kinds.Number n) text = None
out_by kinds.Sign text = None

-- the word that is out by name
abbrev pub out_word_of : Token → Option OutWord
out_word_of token = out_by token.kind token.text

-- the word as it is written
abbrev pub out_word_text : OutWord → List ℕ
out_word_text outs.Customized = codes "customized"
out_word_text outs.Special = codes "special"
out_word_text outs.SplitPrefix = codes "splitprefix"
out_word_text outs.Float = codes "float"
out_word_text outs.Double = codes "double"
out_word_text outs.Quadruple = codes "quadruple"
out_word_text outs.Program = codes "program"
out_word_text outs.Version = codes "version"
