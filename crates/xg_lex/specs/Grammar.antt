-- What an interface file is made of, and the tokens that it has. Public clauses cite this module.
use Rattle.std.specs.Prelude.{◌≡◌, ◌≢◌, ℕ, ◌+◌, ◌-◌, ◌^◌, ◌<◌, ◌⊎◌, Bool, true, false, ◌==◌, ◌&&◌, if◌then◌else◌, List}
use Rattle.std.specs.Prelude.{[], ◌∷◌, ◌++◌, length, slice_index, take, count_by, nat_lt, ⊤}
use Rattle.std.specs.List.{list_all, flat_map}
use Rattle.std.specs.Str.Parse.{IsNumeral, digits_value}
use Rattle.std.specs.Char.{is_ascii_digit}
use Rattle.xg_lex.specs.Bytes.{line_feed, quote, hash, percent, star, slash, zero_digit, hex_mark, is_space, is_blank}
use Rattle.xg_lex.specs.Bytes.{is_in_line, begins_name, is_in_name, is_in_number, is_sign}
use Rattle.xg_lex.specs.declared.token.TokenKind.TheVariants.{Name, Number, Sign}
use Rattle.xg_lex.specs.declared.token.Token.{Token}
use Rattle.xg_lex.specs.declared.token.Tokens.{Tokens}
use Rattle.xg_lex.specs.declared.fault.LexFault.{LexFault}
use Rattle.xg_lex.specs.declared.fault.LexFault.TheVariants.{BadLine, BadNumber, BadChar}

-- a lexeme: a part of a file
pub data Lexeme : Type 0 where
  -- a space, a tab or a line end
  blank : ℕ → Lexeme
  -- a comment, with what stands in it
  comment : List ℕ → Lexeme
  -- a line that counts for nothing, without its end
  skipped : List ℕ → Lexeme
  -- a name, a number with its value, a sign
  name : List ℕ → Lexeme
  number : ℕ → List ℕ → Lexeme
  sign : ℕ → Lexeme

-- the bytes of a part
abbrev pub spelling : Lexeme → List ℕ
spelling (blank b) = b ∷ []
spelling (comment body) = slash ∷ star ∷ (body ++ star ∷ slash ∷ [])
spelling (skipped text) = text
spelling (name text) = text
spelling (number n text) = text
spelling (sign b) = b ∷ []

-- no `*/` stands in the bytes
abbrev pub HasNoClose : List ℕ → Type 0
HasNoClose body = (before after : List ℕ) → body ≢ before ++ star ∷ slash ∷ after

-- each byte passes the test
abbrev pub AllOf : (ℕ → Bool) → List ℕ → Type 0
AllOf test bytes = list_all test bytes ≡ true

-- one byte or more, and each passes the test
abbrev pub IsRun : (ℕ → Bool) → List ℕ → Type 0
IsRun test run = (0 < length run) × AllOf test run

-- `#`, spaces, digits, spaces, a text in double quotes, and anything after it
pub record IsLineMark (text : List ℕ) : Type 0 where
  pub spaces : List ℕ
  pub digits : List ℕ
  pub more_spaces : List ℕ
  pub quoted : List ℕ
  pub after : List ℕ
  pub spaces_run : IsRun is_space spaces
  pub digits_run : IsRun is_ascii_digit digits
  pub more_spaces_run : IsRun is_space more_spaces
  pub whole : text ≡ hash ∷ (spaces ++ (digits ++ (more_spaces ++ quote ∷ (quoted ++ quote ∷ after))))

-- a line counts for nothing that begins with `%`, or is a line mark
abbrev pub IsSkipped : List ℕ → Type 0
IsSkipped text = ((rest : List ℕ) × (text ≡ percent ∷ rest)) ⊎ IsLineMark text

-- a letter or `_`, and then letters, digits and `_`
abbrev pub IsName : List ℕ → Type 0
IsName text = (begins_name (slice_index text 0) ≡ true) × IsRun is_in_name text

-- the digits write the number, which has at most 64 bits
abbrev pub Denotes : ℕ → List ℕ → ℕ → Type 0
Denotes radix digits n = IsNumeral radix digits × (n < 2 ^ 64) × (n ≡ digits_value radix digits)

-- decimal, octal with a leading 0, or hexadecimal with `0x`
abbrev pub IsNumber : ℕ → List ℕ → Type 0
IsNumber n text =
    ((slice_index text 0 ≢ zero_digit) × Denotes 10 text n)
    ⊎ (((digits : List ℕ) × (text ≡ zero_digit ∷ digits) × Denotes 8 text n)
    ⊎ ((digits : List ℕ) × (text ≡ zero_digit ∷ hex_mark ∷ digits) × Denotes 16 digits n))

-- a run of bytes that pass the test ends before these
abbrev pub Stops : (ℕ → Bool) → List ℕ → Type 0
Stops test [] = ⊤
Stops test (b ∷ bs) = test b ≡ false

-- the part can stand before these bytes, at the start of a line or elsewhere
abbrev pub CanStand : Bool → Lexeme → List ℕ → Type 0
CanStand starts (blank b) more = is_blank b ≡ true
CanStand starts (comment body) more = HasNoClose body
CanStand starts (skipped text) more = (starts ≡ true) × IsSkipped text × AllOf is_in_line text × Stops is_in_line more
CanStand starts (name text) more = IsName text × Stops is_in_name more
CanStand starts (number n text) more = IsNumber n text × AllOf is_in_number text × Stops is_in_number more
CanStand starts (sign b) more = is_sign b ≡ true

-- a line begins after the part
abbrev pub begins_line : Lexeme → Bool
begins_line (blank b) = b == line_feed
begins_line (comment body) = false
begins_line (skipped text) = false
begins_line (name text) = false
begins_line (number n text) = false
begins_line (sign b) = false

-- the text is these parts, and then the rest
abbrev pub Reads : Bool → List ℕ → List Lexeme → List ℕ → Type 0
Reads starts text [] rest = text ≡ rest
Reads starts text (p ∷ ps) rest =
    (more : List ℕ) × (text ≡ spelling p ++ more) × CanStand starts p more × Reads (begins_line p) more ps rest

-- whether a line begins after the parts
abbrev pub starts_after : Bool → List Lexeme → Bool
starts_after starts [] = starts
starts_after starts (p ∷ ps) = starts_after (begins_line p) ps

-- how many line feeds stand in the bytes
abbrev pub line_feeds : List ℕ → ℕ
line_feeds bytes = count_by (λ b. b == line_feed) bytes

-- the line after so many line feeds, counted from 1; the count stands still at its type's end
abbrev pub line_after : ℕ → ℕ
line_after feeds = if nat_lt feeds (2 ^ 32 - 1) then feeds + 1 else 2 ^ 32 - 1

-- the token that a part is, on the line after so many line feeds
abbrev pub token_of : ℕ → Lexeme → List Token
token_of feeds (blank b) = []
token_of feeds (comment body) = []
token_of feeds (skipped text) = []
token_of feeds (name text) = record { text = text; kind = Name; line = line_after feeds } ∷ []
token_of feeds (number n text) = record { text = text; kind = Number n; line = line_after feeds } ∷ []
token_of feeds (sign b) = record { text = b ∷ []; kind = Sign; line = line_after feeds } ∷ []

-- the tokens of the parts, where so many line feeds stand before them
abbrev pub tokens_of : ℕ → List Lexeme → List Token
tokens_of feeds [] = []
tokens_of feeds (p ∷ ps) = token_of feeds p ++ tokens_of (feeds + line_feeds (spelling p)) ps

-- the number of the last line: a line feed at the very end begins none
abbrev pub last_line : List ℕ → ℕ
last_line text = line_after (line_feeds (take (length text - 1) text))

-- the text is made of parts, and these are its tokens
pub record IsTokensOf (text : List ℕ) (tokens : Tokens) : Type 0 where
  pub parts : List Lexeme
  pub reads : Reads true text parts []
  pub are : tokens ≡ record { items = tokens_of 0 parts; last = last_line text }

-- no part can stand at the front of the text
abbrev pub IsStuck : Bool → List ℕ → Type 0
IsStuck starts text = (p : Lexeme) (more : List ℕ) → text ≡ spelling p ++ more → CanStand starts p more → ⊥

-- the fault where no part stands: at a digit it is a number, at a `#` that begins a line the line, else the character
abbrev pub fault_from : Bool → ℕ → ℕ → LexFault
fault_from starts b line =
    if is_ascii_digit b then BadNumber line else if starts && b == hash then BadLine line else BadChar line

-- the text begins with parts, and then none can stand there: the fault is of that place
pub record IsFirstFault (text : List ℕ) (fault : LexFault) : Type 0 where
  pub parts : List Lexeme
  pub first : ℕ
  pub rest : List ℕ
  pub reads : Reads true text parts (first ∷ rest)
  pub stuck : IsStuck (starts_after true parts) (first ∷ rest)
  pub is : fault ≡ fault_from (starts_after true parts) first (line_after (line_feeds (flat_map spelling parts)))
