-- Words: values of int and unsigned (RFC 4506, sections 4.1 and 4.2), which are numbers of four bytes.
-- No public clause cites this module.
use Rattle.std.specs.Prelude.{ℕ, ◌<◌, ◌^◌, Bool, true, false, ◌&&◌, List, [], ◌∷◌, ◌++◌, ⊤}
use Rattle.std.specs.Int.{w32, cast_unsigned}
use lib.IntN.{pos, negsuc}
use Rattle.xdr_value.specs.declared.ty.Basic.TheVariants as basics
use Rattle.xdr_value.specs.Data.{Kind, basic, Part, Datum, number, items, Data, end, more}
use Rattle.xdr_value.specs.Spelling.{word}

-- each value of the type is a word
abbrev pub is_word : Kind → Bool
is_word (basic basics.Int) = true
is_word (basic basics.Uint) = true
is_word _ = false

-- so is each field's
abbrev pub are_words : List Part → Bool
are_words [] = true
are_words (p ∷ ps) = is_word p.kind && are_words ps

-- a number that four bytes hold, be it of an int or of an unsigned
abbrev pub IsWord : Datum → Type 0
IsWord (number (pos n)) = n < 2 ^ 32
IsWord (number (negsuc n)) = n < 2 ^ 31
IsWord _ = ⊥

-- its four bytes
abbrev pub word_spelling : Datum → List ℕ
word_spelling (number z) = word (cast_unsigned w32 z)
word_spelling _ = []

-- each of the values is a word
abbrev pub AreWords : Data → Type 0
AreWords end = ⊤
AreWords (more v vs) = IsWord v × AreWords vs

-- their bytes
abbrev pub words_spelling : Data → List ℕ
words_spelling end = []
words_spelling (more v vs) = word_spelling v ++ words_spelling vs

-- each of the values is a struct of words
abbrev pub AreRows : Data → Type 0
AreRows end = ⊤
AreRows (more (items ws) vs) = AreWords ws × AreRows vs
AreRows (more _ vs) = ⊥

-- their bytes
abbrev pub rows_spelling : Data → List ℕ
rows_spelling end = []
rows_spelling (more (items ws) vs) = words_spelling ws ++ rows_spelling vs
rows_spelling (more _ vs) = []
