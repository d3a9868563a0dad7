-- The script that a text gives, or its first fault. Public clauses cite this module.
use Rattle.std.specs.Prelude.{◌&&◌, ◌||◌, not, if◌then◌else◌, ℕ, suc, Bool, false, List, [], ◌∷◌, ◌++◌, map, slice_get}
use Rattle.std.specs.Prelude.{Option, Some, None, Result, Ok, Err, bytes_eq}
use Rattle.std.specs.List.{list_any}
use Rattle.std.specs.Option.{ok_or}
use Rattle.xdr_value.specs.Data.{Procedure, Procs, Types}
use Rattle.rx_script.specs.declared.fault.LineFault.TheVariants.{BadLine}
use Rattle.rx_script.specs.declared.fault.LineWhy.{LineWhy}
use Rattle.rx_script.specs.declared.fault.LineWhy.TheVariants as whys
use Rattle.rx_script.specs.declared.verb.Verb.{Verb}
use Rattle.rx_script.specs.declared.verb.Verb.TheVariants as verbs
use Rattle.rx_script.specs.declared.verb.TheConstants.{VERBS}
use Rattle.rx_script.specs.Pieces.{words_of}
use Rattle.rx_script.specs.Saying.{Saying, up, down, count, echo, send, Answering}
use Rattle.rx_script.specs.ScriptRows.{is_up, is_down, script_line}
use Rattle.rx_script.specs.Texts.{Given, Step, after, text_given}
use Rattle.rx_script.specs.Verbs.{verb_in}
use Rattle.rx_script.specs.Words.{LineForm, and_then, word, end}

-- ---- a block while it is read

-- a line of a block with its number
abbrev pub Marked : Type 0
Marked = ℕ × Saying

-- lines without their numbers
abbrev pub sayings : List Marked → List Saying
sayings ls = map (λ (l : Marked). l.1) ls

-- a block: the place of its procedure, its name, whether it is split, and the lines so far
pub record Opened : Type 0 where
  pub place : ℕ
  pub name : List ℕ
  pub split : Bool
  pub lines : List Marked

-- the blocks that ended, and the one that didn't
pub record Draft : Type 0 where
  pub done : List Answering
  pub block : Option Opened

-- ---- the checks at a block's end

-- whether a stream line lacks what it needs: a split procedure, and `up` or `down` in the block
abbrev pub lacks : Bool → Bool → Bool → Saying → Bool
lacks split has_up has_down up = not split
lacks split has_up has_down down = not split
lacks split has_up has_down (count arg) = not (split && has_up)
lacks split has_up has_down echo = not (split && has_up && has_down)
lacks split has_up has_down (send bytes) = not (split && has_down)
lacks split has_up has_down _ = false

-- the number of the first line that the test says yes of
abbrev pub first_marked : (Saying → Bool) → List Marked → Option ℕ
first_marked test [] = None
first_marked test (l ∷ ls) = if test l.1 then Some l.0 else first_marked test ls

-- the first line of the block that lacks what it needs
abbrev pub lacking : Opened → Option ℕ
lacking b =
    first_marked (lacks b.split (list_any is_up (sayings b.lines)) (list_any is_down (sayings b.lines))) b.lines

-- the blocks with the one that ends here, whose first lacking line is this
abbrev pub with_block : List Answering → Opened → Option ℕ → Given (List Answering)
with_block done b (Some n) = Err (BadLine n whys.Kind)
with_block done b None = Ok (done ++ record { proc = b.name; lines = sayings b.lines } ∷ [])

-- the blocks, where the last one ends here
abbrev pub closed_from : List Answering → Option Opened → Given (List Answering)
closed_from done None = Ok done
closed_from done (Some b) = with_block done b (lacking b)

-- the blocks of a script that ends here: the open one is checked and closed
abbrev pub closed : Draft → Given (List Answering)
closed d = closed_from d.done d.block

-- ---- a block's beginning

-- the first procedure of the name with its place, where the first of the list has the place i
abbrev pub placed_from : ℕ → List ℕ → Procs → Option (ℕ × Procedure)
placed_from i name [] = None
placed_from i name (p ∷ ps) = if bytes_eq p.name name then Some (i, p) else placed_from (suc i) name ps

-- whether one of the blocks is that of the procedure
abbrev pub has_block : List Answering → List ℕ → Bool
has_block [] name = false
has_block (b ∷ bs) name = bytes_eq b.proc name || has_block bs name

-- a block of the procedure, which has none among these
abbrev pub new_block : List Answering → ℕ × Procedure → Result Opened LineWhy
new_block done found =
    if has_block done found.1.name then Err whys.Twice
    else Ok (record { place = found.0; name = found.1.name; split = found.1.split; lines = [] })

-- PROC of a block: an empty word is `Word`, another text than a procedure's name `Proc`, a second block `Twice`
abbrev pub block_word : Procs → List Answering → List ℕ → Result Opened LineWhy
block_word ps done [] = Err whys.Word
block_word ps done (b ∷ bs) = and_then (ok_or (placed_from 0 (b ∷ bs) ps) whys.Proc) (new_block done)

-- on PROC
abbrev pub on_line : Procs → List Answering → LineForm Opened
on_line ps done = word (block_word ps done) end

-- the draft with a block that begins at this line
abbrev pub block_begun : ℕ → List Answering → Result Opened LineWhy → Given Draft
block_begun n done (Err why) = Err (BadLine n why)
block_begun n done (Ok b) = Ok (record { done = done; block = Some b })

-- ---- one more line

-- the draft with one more line of its block, which says this
abbrev pub with_saying : ℕ → List Answering → Opened → Result Saying LineWhy → Given Draft
with_saying n done b (Err why) = Err (BadLine n why)
with_saying n done b (Ok said) =
    Ok (record { done = done; block = Some (record b { lines = b.lines ++ (n, said) ∷ [] }) })

-- one more line of the block of a procedure
abbrev pub said_in : Types → ℕ → List Answering → Opened → Verb → List (List ℕ) → Option Procedure → Given Draft
said_in t n done b verb words None = Err (BadLine n whys.Word)
said_in t n done b verb words (Some p) = with_saying n done b (script_line t p (sayings b.lines) verb words)

-- one more line of a block; where there is none it is `Word`
abbrev pub in_block : Types → Procs → ℕ → List Answering → Option Opened → Verb → List (List ℕ) → Given Draft
in_block t ps n done None verb words = Err (BadLine n whys.Word)
in_block t ps n done (Some b) verb words = said_in t n done b verb words (slice_get ps b.place)

-- one more line, by its first word: `on` ends the block before it
abbrev pub by_verb : Types → Procs → ℕ → Draft → Verb → List (List ℕ) → Given Draft
by_verb t ps n d verbs.On words = after (closed d) (λ done. block_begun n done (on_line ps done words))
by_verb t ps n d verb words = in_block t ps n d.done d.block verb words

-- one more line, whose first word may be one of the table
abbrev pub by_word : Types → Procs → ℕ → Draft → Option Verb → List (List ℕ) → Given Draft
by_word t ps n d None words = Err (BadLine n whys.Word)
by_word t ps n d (Some verb) words = by_verb t ps n d verb words

-- a script with one more line, by its words
abbrev pub by_words : Types → Procs → ℕ → Draft → List (List ℕ) → Given Draft
by_words t ps n d [] = Err (BadLine n whys.Word)
by_words t ps n d (first ∷ words) = by_word t ps n d (verb_in VERBS first) words

-- a script with one more line
abbrev pub script_step : Types → Procs → Step Draft
script_step t ps n line d = by_words t ps n d (words_of line)

-- nothing was read
abbrev pub no_lines : Draft
no_lines = record { done = []; block = None }

-- the script that a text gives, or its first fault
abbrev pub script_of : Types → Procs → List ℕ → Given (List Answering)
script_of t ps text = after (text_given (script_step t ps) no_lines text) closed
