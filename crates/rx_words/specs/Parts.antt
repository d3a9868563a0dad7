-- Which words behind the command are options, and which are plain. Public clauses cite this module.
use Rattle.std.specs.Prelude.{◌==◌, if◌then◌else◌, codes, nat_eq, ℕ, Bool, false, List, [], ◌∷◌, drop, map}
use Rattle.std.specs.Prelude.{Option, Some, None, bytes_eq}
use Rattle.std.specs.List.{after_first, before_first, list_any, starts_with}

-- a part of the words: a plain word; an option by its name, with its value; or what no command has
pub data Part : Type 0 where
  Plain : List ℕ → Part
  Given : List ℕ → List ℕ → Part
  Bad : Part

-- a word that begins with `-`
abbrev pub is_dashed : List ℕ → Bool
is_dashed [] = false
is_dashed (b ∷ bs) = b == 45

-- a word that begins with `--`
abbrev pub is_option : List ℕ → Bool
is_option word = starts_with nat_eq word (codes "--")

-- whether an `=` stands in the text of an option
abbrev pub has_value : List ℕ → Bool
has_value text = list_any (λ b. b == 61) text

-- the next word as the value of an option: it doesn't begin with `-`
abbrev pub valued : List ℕ → List ℕ → Part
valued name word = if is_dashed word then Bad else Given name word

-- the parts from an option on: its value stands behind its first `=`, or is the next word
abbrev pub from_option : List ℕ → (Option (List ℕ) → List Part) → List Part
from_option text more =
    if has_value text then Given (before_first (λ b. b == 61) text) (after_first (λ b. b == 61) text) ∷ more None
    else more (Some text)

-- the parts from a word on that is no value: behind `--` all words are plain, and a plain word has no single `-`
-- before it
abbrev pub from_word : List ℕ → List (List ℕ) → (Option (List ℕ) → List Part) → List Part
from_word word words more =
    if bytes_eq word (codes "--") then map Plain words
    else if is_option word then from_option (drop 2 word) more
    else if is_dashed word then Bad ∷ more None
    else Plain word ∷ more None

-- the parts of words, the first of which may be the value that an option waits for
abbrev pub parts_after : List (List ℕ) → Option (List ℕ) → List Part
parts_after [] None = []
parts_after [] (Some name) = Bad ∷ []
parts_after (word ∷ words) None = from_word word words (parts_after words)
parts_after (word ∷ words) (Some name) = valued name word ∷ parts_after words None

-- the parts of the words behind the command
abbrev pub parts_of : List (List ℕ) → List Part
parts_of words = parts_after words None
