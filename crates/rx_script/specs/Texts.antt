-- Texts read line by line: what all grammars share. Public clauses cite this module.
use Rattle.std.specs.Prelude.{◌==◌, ◌&&◌, if◌then◌else◌, nat_lt, ℕ, suc, Bool, true, false, List, [], ◌∷◌, length}
use Rattle.std.specs.Prelude.{reverse, Result, Ok, Err}
use Rattle.rx_script.specs.declared.fault.LineFault.{LineFault}
use Rattle.rx_script.specs.declared.fault.LineFault.TheVariants.{BadLine}
use Rattle.rx_script.specs.declared.fault.LineWhy.TheVariants as whys
use Rattle.rx_script.specs.declared.limits.TheConstants.{MAX_LINES}
use Rattle.rx_script.specs.declared.marks.TheConstants.{HASH, SPACE}
use Rattle.rx_script.specs.Pieces.{lines_of}

-- an empty line, or a comment
abbrev pub is_skipped : List ℕ → Bool
is_skipped [] = true
is_skipped (b ∷ []) = false
is_skipped (b ∷ c ∷ bs) = (b == HASH) && (c == SPACE)

-- what was read so far, or the first fault
abbrev pub Given : Type 0 → Type 0
Given S = Result S LineFault

-- the next step, if there was no fault so far
abbrev pub after : {S R : Type 0} → Given S → (S → Given R) → Given R
after (Ok before) next = next before
after (Err fault) next = Err fault

-- how a grammar takes one more line at this place of the text
abbrev pub Step : Type 0 → Type 0
Step S = ℕ → List ℕ → S → Given S

-- one more line of the text: beyond the greatest number it is `TooMany` whatever it holds, and an empty line or a
-- comment says nothing
abbrev pub with_line : {S : Type 0} → Step S → Step S
with_line step n line before =
    if nat_lt MAX_LINES n then Err (BadLine n whys.TooMany)
    else if is_skipped line then Ok before
    else step n line before

-- what lines say, newest first: each is judged after those before it, and has the number after theirs
abbrev pub read_back : {S : Type 0} → Step S → S → List (List ℕ) → Given S
read_back step start [] = Ok start
read_back step start (line ∷ before) =
    after (read_back step start before) (with_line step (suc (length before)) line)

-- what a text says, or its first fault
abbrev pub text_given : {S : Type 0} → Step S → S → List ℕ → Given S
text_given step start text = read_back step start (reverse (lines_of text))
