-- The part at the front of a text, as it is found byte by byte. No public clause cites this module.
use Rattle.std.specs.Prelude.{ℕ, ◌+◌, ◌^◌, Bool, false, ◌==◌, ◌&&◌, if◌then◌else◌, nat_lt, List, [], ◌∷◌, length}
use Rattle.std.specs.Prelude.{slice_index, take, drop, Option, Some, None, option_map, option_and_then, Result, Ok, Err}
use Rattle.std.specs.Prelude.{⊤}
use Rattle.std.specs.List.{prefix_len, list_any, list_all}
use Rattle.std.specs.Str.Parse.{digits_value}
use Rattle.std.specs.Char.{digit_value, is_ascii_digit}
use Rattle.xg_lex.specs.Bytes.{line_feed, quote, hash, percent, star, slash, zero_digit, hex_mark, is_space, is_blank}
use Rattle.xg_lex.specs.Bytes.{is_in_line, begins_name, is_in_name, is_in_number, is_sign}
use Rattle.xg_lex.specs.declared.token.TokenKind.{TokenKind}
use Rattle.xg_lex.specs.declared.token.TokenKind.TheVariants as kinds
use Rattle.xg_lex.specs.declared.token.Token.{Token}
use Rattle.xg_lex.specs.declared.token.Tokens.{Tokens}
use Rattle.xg_lex.specs.declared.fault.LexFault.{LexFault}
use Rattle.xg_lex.specs.declared.fault.LexFault.TheVariants.{BadLine, BadNumber, BadChar, OutOfMemory}
use Rattle.xg_lex.specs.Grammar.{IsTokensOf, IsFirstFault, line_feeds, line_after}
use Rattle.xg_lex.specs.declared.part.Step.{Step}
use Rattle.xg_lex.specs.declared.part.Why.{Why}
use Rattle.xg_lex.specs.declared.part.Why.TheVariants as whys

-- the step over a part of so many bytes that is no token
abbrev pub gap_step : ℕ → Result Step Why
gap_step len = Ok (record { len = len; kind = None })

-- the step over a token of the kind that has so many bytes
abbrev pub token_step : TokenKind → ℕ → Result Step Why
token_step kind len = Ok (record { len = len; kind = Some kind })

-- the digits write a number of at most 64 bits in the radix
abbrev pub is_numeral : ℕ → List ℕ → Bool
is_numeral radix digits =
    (nat_lt 0 (length digits) && list_all (λ c. nat_lt (digit_value c) radix) digits)
    && nat_lt (digits_value radix digits) (2 ^ 64)

-- and which
unfoldable pub numeral : ℕ → List ℕ → Option ℕ
numeral radix digits = if is_numeral radix digits then Some (digits_value radix digits) else None

-- the number of a word
unfoldable pub number_of : List ℕ → Option ℕ
number_of word =
    if slice_index word 0 == zero_digit && slice_index word 1 == hex_mark then numeral 16 (drop 2 word)
    else if slice_index word 0 == zero_digit then numeral 8 word
    else numeral 10 word

-- the step over a word of so many bytes that writes this number, or the fault where it writes none
abbrev pub numbered : ℕ → Option ℕ → Result Step Why
numbered len None = Err whys.Number
numbered len (Some n) = token_step (kinds.Number n) len

-- at a digit: all letters and digits that stand there are one number
abbrev pub number_step : List ℕ → Result Step Why
number_step text = numbered (prefix_len is_in_number text) (number_of (take (prefix_len is_in_number text) text))

-- the bytes begin with this one
abbrev pub begins_with : ℕ → List ℕ → Bool
begins_with c [] = false
begins_with c (b ∷ bs) = b == c

-- how many bytes there are up to and with the first `*/`
unfoldable pub close_len : List ℕ → Option ℕ
close_len [] = None
close_len (b ∷ bs) = if b == star && begins_with slash bs then Some 2 else option_map (λ n. 1 + n) (close_len bs)

-- the step over a comment that closes so many bytes behind its `/*`, or the fault where it doesn't close
abbrev pub closed : Option ℕ → Result Step Why
closed None = Err whys.Char
closed (Some n) = gap_step (2 + n)

-- at a `/`
abbrev pub comment_step : List ℕ → Result Step Why
comment_step [] = Err whys.Char
comment_step (a ∷ []) = Err whys.Char
comment_step (a ∷ b ∷ bs) = if b == star then closed (close_len bs) else Err whys.Char

-- what follows a run of one byte or more
abbrev pub past_run : (ℕ → Bool) → List ℕ → Option (List ℕ)
past_run test bytes = if prefix_len test bytes == 0 then None else Some (drop (prefix_len test bytes) bytes)

-- a text in double quotes stands there
abbrev pub is_quoted : List ℕ → Bool
is_quoted [] = false
is_quoted (b ∷ bs) = b == quote && list_any (λ c. c == quote) bs

-- bytes are left, and a text in double quotes stands there
abbrev pub has_quoted : Option (List ℕ) → Bool
has_quoted None = false
has_quoted (Some bytes) = is_quoted bytes

-- what follows the spaces, the digits and the spaces of a line mark
abbrev pub after_mark : List ℕ → Option (List ℕ)
after_mark bytes = option_and_then (past_run is_space) (option_and_then (past_run is_ascii_digit)
    (past_run is_space bytes))

-- what follows the `#` of a line mark
unfoldable pub is_mark_rest : List ℕ → Bool
is_mark_rest bytes = has_quoted (after_mark bytes)

-- at a `#` that begins a line
abbrev pub mark_step : List ℕ → Result Step Why
mark_step text =
    if is_mark_rest (drop 1 (take (prefix_len is_in_line text) text)) then gap_step (prefix_len is_in_line text)
    else Err whys.Line

-- by the first byte: a line to skip, or nothing
abbrev pub line_or_nothing : Bool → ℕ → List ℕ → Result Step Why
line_or_nothing starts b text =
    if starts && b == percent then gap_step (prefix_len is_in_line text)
    else if starts && b == hash then mark_step text
    else Err whys.Char

-- or a sign or a comment
abbrev pub sign_or_comment : Bool → ℕ → List ℕ → Result Step Why
sign_or_comment starts b text =
    if is_sign b then token_step kinds.Sign 1
    else if b == slash then comment_step text else line_or_nothing starts b text

-- or a name or a number
abbrev pub name_or_number : Bool → ℕ → List ℕ → Result Step Why
name_or_number starts b text =
    if begins_name b then token_step kinds.Name (prefix_len is_in_name text)
    else if is_ascii_digit b then number_step text else sign_or_comment starts b text

-- or a blank
abbrev pub step_from : Bool → ℕ → List ℕ → Result Step Why
step_from starts b text = if is_blank b then gap_step 1 else name_or_number starts b text

-- the part at the front, which is as long and of that kind, or why there is none
unfoldable pub step_at : Bool → List ℕ → Result Step Why
step_at starts [] = Err whys.Char
step_at starts (b ∷ bs) = step_from starts b (b ∷ bs)

-- whether the bytes are one line end
abbrev pub is_line_end : List ℕ → Bool
is_line_end [] = false
is_line_end (b ∷ []) = b == line_feed
is_line_end (b ∷ c ∷ bs) = false

-- the token of that kind, with that text
abbrev pub token_with : ℕ → Option TokenKind → List ℕ → List Token
token_with feeds None text = []
token_with feeds (Some kind) text = record { text = text; kind = kind; line = line_after feeds } ∷ []

-- how many line feeds a part has: a token has none
abbrev pub feeds_of : Option TokenKind → List ℕ → ℕ
feeds_of None text = line_feeds text
feeds_of (Some kind) text = 0

-- the fault of that cause
abbrev pub fault_of : Why → ℕ → LexFault
fault_of whys.Line line = BadLine line
fault_of whys.Number line = BadNumber line
fault_of whys.Char line = BadChar line

-- the answer is right, if it isn't that there is no memory
abbrev pub IsLexed : List ℕ → Result Tokens LexFault → Type 0
IsLexed text (Ok tokens) = IsTokensOf text tokens
IsLexed text (Err (BadLine line)) = IsFirstFault text (BadLine line)
IsLexed text (Err (BadNumber line)) = IsFirstFault text (BadNumber line)
IsLexed text (Err (BadChar line)) = IsFirstFault text (BadChar line)
IsLexed text (Err OutOfMemory) = ⊤
