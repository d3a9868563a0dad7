-- The bytes of an interface file by their kinds. Public clauses cite this module.
use Rattle.std.specs.Prelude.{ℕ, Bool, ◌==◌, ◌||◌, not, codes}
use Rattle.std.specs.List.{list_any}
use Rattle.std.specs.Char.{is_ascii_alphabetic, is_ascii_alphanumeric}

-- the code of a tab
abbrev pub tab : ℕ
tab = 9

-- the code that ends a line
abbrev pub line_feed : ℕ
line_feed = 10

-- the code of a space
abbrev pub space : ℕ
space = 32

-- the code of `"`, which opens and closes the text of a line mark
abbrev pub quote : ℕ
quote = 34

-- the code of `#`, with which a line mark begins
abbrev pub hash : ℕ
hash = 35

-- the code of `%`, with which a line begins that counts for nothing
abbrev pub percent : ℕ
percent = 37

-- the code of `*`, which opens a comment behind a `/` and closes it before one
abbrev pub star : ℕ
star = 42

-- the code of `/`, with which a comment begins and ends
abbrev pub slash : ℕ
slash = 47

-- the code of `0`, with which a number begins that isn't decimal
abbrev pub zero_digit : ℕ
zero_digit = 48

-- the code of `_`, which names may have beside letters and digits
abbrev pub underscore : ℕ
underscore = 95

-- the `x` of a hexadecimal number
abbrev pub hex_mark : ℕ
hex_mark = 120

-- a space
abbrev pub is_space : ℕ → Bool
is_space b = b == space

-- a space, a tab or a line end
abbrev pub is_blank : ℕ → Bool
is_blank b = b == space || b == tab || b == line_feed

-- what a line is made of, up to its end
abbrev pub is_in_line : ℕ → Bool
is_in_line b = not (b == line_feed)

-- a name begins with a letter or `_`
abbrev pub begins_name : ℕ → Bool
begins_name b = is_ascii_alphabetic b || b == underscore

-- and has letters, digits and `_`
abbrev pub is_in_name : ℕ → Bool
is_in_name b = is_ascii_alphanumeric b || b == underscore

-- a letter or a digit
abbrev pub is_in_number : ℕ → Bool
is_in_number b = is_ascii_alphanumeric b

-- { } ( ) [ ] < > ; , : = * -
abbrev pub is_sign : ℕ → Bool
is_sign b = list_any (λ c. c == b) (codes "{}()[]<>;,:=*-")
