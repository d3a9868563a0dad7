-- A token for each terminal.
use Rattle.std.proofs.Common.{◌≡◌, Some, refl}
use Rattle.xg_lex.specs.declared.token.TokenKind.TheVariants as kinds
use Rattle.xg_lex.specs.declared.token.Token.{Token}
use Rattle.xg_parse.specs.declared.terminal.Terminal.{Terminal}
use Rattle.xg_parse.specs.declared.terminal.Terminal.TheVariants as terms
use Rattle.xg_parse.specs.Terminals.{terminal_text}
use Rattle.xg_parse.specs.Words.{terminal_of, terminal_by, word_terminal}
use Rattle.xg_lex.specs.declared.token.TokenKind.{TokenKind}

abbrev kind_for : Terminal → TokenKind
kind_for terms.Package = kinds.Name
kind_for terms.Name = kinds.Name
kind_for terms.Semicolon = kinds.Sign
kind_for terms.Prefix = kinds.Name
kind_for terms.StatIndex = kinds.Name
kind_for terms.StartingOpcode = kinds.Name
kind_for terms.Const = kinds.Name
kind_for terms.Equals = kinds.Sign
kind_for terms.Typedef = kinds.Name
kind_for terms.Enum = kinds.Name
kind_for terms.LeftBrace = kinds.Sign
kind_for terms.Comma = kinds.Sign
kind_for terms.RightBrace = kinds.Sign
kind_for terms.Struct = kinds.Name
kind_for terms.Union = kinds.Name
kind_for terms.Switch = kinds.Name
kind_for terms.LeftParen = kinds.Sign
kind_for terms.RightParen = kinds.Sign
kind_for terms.Default = kinds.Name
kind_for terms.Colon = kinds.Sign
kind_for terms.Proc = kinds.Name
kind_for terms.Split = kinds.Name
kind_for terms.Multi = kinds.Name
kind_for terms.Case = kinds.Name
kind_for terms.Void = kinds.Name
kind_for terms.In = kinds.Name
kind_for terms.Out = kinds.Name
kind_for terms.InOut = kinds.Name
kind_for terms.Star = kinds.Sign
kind_for terms.LeftBracket = kinds.Sign
kind_for terms.RightBracket = kinds.Sign
kind_for terms.Less = kinds.Sign
kind_for terms.Greater = kinds.Sign
kind_for terms.Opaque = kinds.Name
kind_for terms.StringWord = kinds.Name
kind_for terms.Minus = kinds.Sign
kind_for terms.Number = kinds.Number 0
kind_for terms.Int = kinds.Name
kind_for terms.Long = kinds.Name
kind_for terms.Short = kinds.Name
kind_for terms.Char = kinds.Name
kind_for terms.Hyper = kinds.Name
kind_for terms.Bool = kinds.Name
kind_for terms.Unsigned = kinds.Name
kind_for terms.UInt = kinds.Name
kind_for terms.ULong = kinds.Name
kind_for terms.UShort = kinds.Name
kind_for terms.UChar = kinds.Name
kind_for terms.AfsInt32 = kinds.Name
kind_for terms.AfsUint32 = kinds.Name
kind_for terms.AfsInt64 = kinds.Name
kind_for terms.AfsUint64 = kinds.Name

-- a token that is the terminal
abbrev pub token_for : Terminal → Token
token_for t = record { text = terminal_text t; kind = kind_for t; line = 1 }

pub token_for_is : (t : Terminal) → terminal_of (token_for t) ≡ Some t
unfolding terminal_by word_terminal
token_for_is terms.Package = refl
token_for_is terms.Name = refl
token_for_is terms.Semicolon = refl
token_for_is terms.Prefix = refl
token_for_is terms.StatIndex = refl
token_for_is terms.StartingOpcode = refl
token_for_is terms.Const = refl
token_for_is terms.Equals = refl
token_for_is terms.Typedef = refl
token_for_is terms.Enum = refl
token_for_is terms.LeftBrace = refl
token_for_is terms.Comma = refl
token_for_is terms.RightBrace = refl
token_for_is terms.Struct = refl
token_for_is terms.Union = refl
token_for_is terms.Switch = refl
token_for_is terms.LeftParen = refl
token_for_is terms.RightParen = refl
token_for_is terms.Default = refl
token_for_is terms.Colon = refl
token_for_is terms.Proc = refl
token_for_is terms.Split = refl
token_for_is terms.Multi = refl
token_for_is terms.Case = refl
token_for_is terms.Void = refl
token_for_is terms.In = refl
token_for_is terms.Out = refl
token_for_is terms.InOut = refl
token_for_is terms.Star = refl
token_for_is terms.LeftBracket = refl
token_for_is terms.RightBracket = refl
token_for_is terms.Less = refl
token_for_is terms.Greater = refl
token_for_is terms.Opaque = refl
token_for_is terms.StringWord = refl
token_for_is terms.Minus = refl
token_for_is terms.Number = refl
token_for_is terms.Int = refl
token_for_is terms.Long = refl
token_for_is terms.Short = refl
token_for_is terms.Char = refl
token_for_is terms.Hyper = refl
token_for_is terms.Bool = refl
token_for_is terms.Unsigned = refl
token_for_is terms.UInt = refl
token_for_is terms.ULong = refl
token_for_is terms.UShort = refl
token_for_is terms.UChar = refl
token_for_is terms.AfsInt32 = refl
token_for_is terms.AfsUint32 = refl
token_for_is terms.AfsInt64 = refl
token_for_is terms.AfsUint64 = refl
