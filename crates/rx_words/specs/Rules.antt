-- The texts of the words, and the rules that the words of all commands share. Public clauses cite this module.
use Rattle.std.specs.Prelude.{◌&&◌, nat_le, if◌then◌else◌, ℕ, Bool, true, false, List, [], ◌∷◌, length}
use Rattle.std.specs.Prelude.{Option, Some, None, bytes_eq}
use Rattle.std.specs.List.{filter_map, list_all, list_any}
use Rattle.rx_words.specs.declared.names.CommandName.{CommandName}
use Rattle.rx_words.specs.declared.names.OptionName.{OptionName}
use Rattle.rx_words.specs.declared.rules.Wanted.{Wanted}
use Rattle.rx_words.specs.declared.rules.Wanted.TheVariants as wanted
use Rattle.rx_words.specs.Names.{option_text, options_of}
use Rattle.rx_words.specs.Parts.{Part, Plain, Given, Bad}

-- ---- texts

-- a plain word, where plain words are looked for
abbrev pub plain_text : Wanted → List ℕ → Option (List ℕ)
plain_text wanted.Plain word = Some word
plain_text (wanted.Values option) word = None

-- the value of an option, where its values are looked for
abbrev pub value_text : Wanted → List ℕ → List ℕ → Option (List ℕ)
value_text wanted.Plain name value = None
value_text (wanted.Values option) name value = if bytes_eq name (option_text option) then Some value else None

-- the text of a part, if it is looked for
abbrev pub text_of : Wanted → Part → Option (List ℕ)
text_of which (Plain word) = plain_text which word
text_of which (Given name value) = value_text which name value
text_of which Bad = None

-- the texts that are looked for
abbrev pub texts_of : Wanted → List Part → List (List ℕ)
texts_of which parts = filter_map (text_of which) parts

-- the plain words
abbrev pub plain_of : List Part → List (List ℕ)
plain_of parts = texts_of wanted.Plain parts

-- the only one of some texts
abbrev pub one_of : List (List ℕ) → Option (List ℕ)
one_of (a ∷ []) = Some a
one_of _ = None

-- both of two texts
abbrev pub two_of : List (List ℕ) → Option (List ℕ × List ℕ)
two_of (a ∷ b ∷ []) = Some (a, b)
two_of _ = None

-- all of three texts
abbrev pub three_of : List (List ℕ) → Option (List ℕ × List ℕ × List ℕ)
three_of (a ∷ b ∷ c ∷ []) = Some (a, b, c)
three_of _ = None

-- the plain word, where there is one and no more
abbrev pub one_plain : List Part → Option (List ℕ)
one_plain parts = one_of (plain_of parts)

-- the two plain words, where there are two and no more
abbrev pub two_plain : List Part → Option (List ℕ × List ℕ)
two_plain parts = two_of (plain_of parts)

-- the three plain words, where there are three and no more
abbrev pub three_plain : List Part → Option (List ℕ × List ℕ × List ℕ)
three_plain parts = three_of (plain_of parts)

-- the first of some texts
abbrev pub first : List (List ℕ) → Option (List ℕ)
first [] = None
first (text ∷ more) = Some text

-- the value of an option, if it is given
abbrev pub value_of : List Part → OptionName → Option (List ℕ)
value_of parts option = first (texts_of (wanted.Values option) parts)

-- ---- rules

-- whether a name is that of one of the options
abbrev pub has_name : List OptionName → List ℕ → Bool
has_name options name = list_any (λ option. bytes_eq name (option_text option)) options

-- a part that is plain, or one of the command's options
abbrev pub is_known : CommandName → Part → Bool
is_known command (Plain word) = true
is_known command (Given name value) = has_name (options_of command) name
is_known command Bad = false

-- an option that is given at most once
abbrev pub is_once : List Part → OptionName → Bool
is_once parts option = nat_le (length (texts_of (wanted.Values option) parts)) 1

-- the rules that all commands share: no part is bad or an unknown option, and no option is given twice
abbrev pub meets_rules : CommandName → List Part → Bool
meets_rules command parts = list_all (is_known command) parts && list_all (is_once parts) (options_of command)
