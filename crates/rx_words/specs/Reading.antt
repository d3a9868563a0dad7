-- What readers have left. No public clause cites this module.
use Rattle.std.specs.Prelude.{◌==◌, ℕ, Bool, true, false, List, [], Option, Some, None, map}
use Rattle.std.specs.List.{slice_split}
use Rattle.rx_words.specs.declared.parts.WordPart.{WordPart}
use Rattle.rx_words.specs.declared.parts.WordPart.TheVariants as words
use Rattle.rx_words.specs.Parts.{Part, Plain, Given, Bad, parts_after}

-- the pieces of what is left of a text, if anything is
abbrev pub pieces_left : ℕ → Option (List ℕ) → List (List ℕ)
pieces_left separator None = []
pieces_left separator (Some rest) = slice_split (λ b. b == separator) rest

-- a part of the words as the definition has it
abbrev pub part_of : WordPart → Part
part_of (words.Plain word) = Plain word.now
part_of (words.Given name value) = Given name.now value.now
part_of words.Bad = Bad

-- the parts of the words that are left, all of them plain once `--` stood
abbrev pub parts_left : Bool → List (List ℕ) → List Part
parts_left true words = map Plain words
parts_left false words = parts_after words None
