-- Texts as lines, and lines as words. Public clauses cite this module.
use Rattle.std.specs.Prelude.{◌==◌, if◌then◌else◌, ℕ, List, [], ◌∷◌, length}
use Rattle.std.specs.List.{slice_split}
use Rattle.rx_script.specs.declared.marks.TheConstants.{LINE_FEED, SPACE}

-- an empty last part is no line
abbrev pub without_empty_last : List (List ℕ) → List (List ℕ)
without_empty_last [] = []
without_empty_last (part ∷ []) = if length part == 0 then [] else part ∷ []
without_empty_last (part ∷ next ∷ more) = part ∷ without_empty_last (next ∷ more)

-- the lines of a text: a line feed ends a line and begins none
abbrev pub lines_of : List ℕ → List (List ℕ)
lines_of text = without_empty_last (slice_split (λ b. b == LINE_FEED) text)

-- the words of a line: what stands between single spaces
abbrev pub words_of : List ℕ → List (List ℕ)
words_of line = slice_split (λ b. b == SPACE) line
