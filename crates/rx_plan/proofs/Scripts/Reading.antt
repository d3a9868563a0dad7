-- The lines of a script that was read answer no code 0, and wait no longer than a script may say.
use Rattle.std.proofs.Common.{Err, List, None, Ok, Option, Result, Some, [], length, pos, reverse, subst}
use Rattle.std.proofs.Common.{suc, ℕ, ◌∷◌, ◌≡◌, ◌≢◌, ◌≤◌}
use Rattle.std.specs.List.{All, list_any}
use Rattle.std.specs.Option.{ok_or}
use Rattle.std.specs.Prelude.{IfOk, IfSome, nat_lt, slice_get}
use Rattle.std.proofs.lemmas.List.Elements.{All-map, All-nil, All-push}
use Rattle.xdr_value.specs.Data.{Procedure, Procs, Types}
use Rattle.rx_script.specs.declared.fault.LineWhy.{LineWhy}
use Rattle.rx_script.specs.declared.fault.LineWhy.TheVariants as whys
use Rattle.rx_script.specs.declared.limits.TheConstants.{MAX_LINES, MAX_WAIT}
use Rattle.rx_script.specs.declared.verb.Verb.{Verb}
use Rattle.rx_script.specs.declared.verb.Verb.TheVariants as verbs
use Rattle.rx_script.specs.declared.verb.TheConstants.{VERBS}
use Rattle.rx_script.specs.Numbers.{code_in}
use Rattle.rx_script.specs.Pieces.{lines_of, words_of}
use Rattle.rx_script.specs.Procs.{arg_word, comes, counts, is_counted, is_source, json_word, returns}
use Rattle.rx_script.specs.Saying.{Answering, Saying, copy, count, down, echo, fail, send, set, size, up, wait, when}
use Rattle.rx_script.specs.ScriptRows.{is_down, is_up, is_wait, script_line, wait_line}
use Rattle.rx_script.specs.Scripts.{Draft, Marked, Opened, block_begun, by_verb, by_word, by_words, closed, closed_from}
use Rattle.rx_script.specs.Scripts.{in_block, lacking, new_block, no_lines, on_line, block_word, said_in, sayings}
use Rattle.rx_script.specs.Scripts.{script_of}
use Rattle.rx_script.specs.Scripts.{placed_from, has_block, script_step, with_block, with_saying}
use Rattle.rx_script.specs.Texts.{Given, after, is_skipped, read_back, with_line}
use Rattle.rx_script.specs.Verbs.{verb_in}
use Rattle.rx_script.specs.Words.{and_then, bytes_word, end, fault_word, not_zero, number_word, word}
use Rattle.rx_plan.proofs.Givings.Given.{fault_well}
use Rattle.rx_plan.proofs.Reading.{after_well, given_either}
use Rattle.rx_plan.proofs.Words.{Within, if_any, if_either, if_end, if_value, if_word, number_well}

-- ---- a line

-- a line whose wait, or code, the reader of scripts gives
abbrev pub InBounds : Saying → Type 0
InBounds (wait turns) = turns ≤ MAX_WAIT
InBounds (when arg value code) = code ≢ pos 0
InBounds (fail code) = code ≢ pos 0
InBounds _ = Unit {0}

some_code : (w : List ℕ) → IfOk (fault_word w) (λ code. code ≢ pos 0)
some_code w = if_value (λ v. not_zero (code_in v)) (λ code. code ≢ pos 0) (λ v. fault_well (code_in v)) w

line_bounded : (t : Types) (p : Procedure) (before : List Saying) (verb : Verb) (words : List (List ℕ))
    → IfOk (script_line t p before verb words) InBounds
line_bounded t p before verbs.Wait words =
    if_either (list_any is_wait before) (Err whys.Twice) (wait_line words) InBounds tt
    (if_word (number_word 0 MAX_WAIT) (λ turns. end (wait turns)) (Within 0 MAX_WAIT) InBounds (number_well 0 MAX_WAIT)
    (λ turns within. if_end (wait turns) InBounds within.1) words)
line_bounded t p before verbs.Up words =
    if_either (list_any is_up before) (Err whys.Twice) (end up words) InBounds tt
    (if_end up InBounds tt words)
line_bounded t p before verbs.Down words =
    if_either (list_any is_down before) (Err whys.Twice) (end down words) InBounds tt
    (if_end down InBounds tt words)
line_bounded t p before verbs.When words =
    if_any (arg_word comes p.params)
    (λ arg. word (json_word t arg.kind) (λ value. word fault_word (λ code. end (when arg.name value code))))
    InBounds
    (λ arg. if_any (json_word t arg.kind) (λ value. word fault_word (λ code. end (when arg.name value code)))
    InBounds
    (λ value. if_word fault_word (λ code. end (when arg.name value code)) (λ code. code ≢ pos 0) InBounds some_code
    (λ code other. if_end (when arg.name value code) InBounds other))) words
line_bounded t p before verbs.Fail words =
    if_word fault_word (λ code. end (fail code)) (λ code. code ≢ pos 0) InBounds some_code
    (λ code other. if_end (fail code) InBounds other) words
line_bounded t p before verbs.Set words =
    if_any (arg_word returns p.params) (λ arg. word (json_word t arg.kind) (λ value. end (set arg.name value)))
    InBounds
    (λ arg. if_any (json_word t arg.kind) (λ value. end (set arg.name value)) InBounds
    (λ value. if_end (set arg.name value) InBounds tt)) words
line_bounded t p before verbs.Copy words =
    if_any (arg_word returns p.params)
    (λ arg. word (arg_word (is_source arg.kind) p.params) (λ from. end (copy arg.name from.name))) InBounds
    (λ arg. if_any (arg_word (is_source arg.kind) p.params) (λ from. end (copy arg.name from.name)) InBounds
    (λ from. if_end (copy arg.name from.name) InBounds tt)) words
line_bounded t p before verbs.Size words =
    if_any (arg_word (counts t) p.params)
    (λ arg. word (arg_word (is_counted t) p.params) (λ from. end (size arg.name from.name))) InBounds
    (λ arg. if_any (arg_word (is_counted t) p.params) (λ from. end (size arg.name from.name)) InBounds
    (λ from. if_end (size arg.name from.name) InBounds tt)) words
line_bounded t p before verbs.Count words =
    if_any (arg_word (counts t) p.params) (λ arg. end (count arg.name)) InBounds
    (λ arg. if_end (count arg.name) InBounds tt) words
line_bounded t p before verbs.Echo words = if_end echo InBounds tt words
line_bounded t p before verbs.Send words =
    if_any bytes_word (λ bytes. end (send bytes)) InBounds (λ bytes. if_end (send bytes) InBounds tt) words
line_bounded t p before verb words = tt

-- ---- blocks

-- its lines are so
abbrev IsBounded : Answering → Type 0
IsBounded b = All InBounds b.lines

abbrev IsOpen : Opened → Type 0
IsOpen b = All (λ (l : Marked). InBounds l.1) b.lines

-- those of the blocks that were read so far, and of the one that is open
record AreBounded (d : Draft) : Type 0 where
  done : All IsBounded d.done
  block : IfSome d.block IsOpen

ended_bounded : (done : List Answering) (b : Opened) (o : Option ℕ) → All IsBounded done → IsOpen b
    → IfOk (with_block done b o) (All IsBounded)
ended_bounded done b (Some n) all own = tt
ended_bounded done b None all own =
    All-push IsBounded done (record { proc = b.name; lines = sayings b.lines }) all
    (All-map InBounds (λ (l : Marked). l.1) b.lines own)

closed_bounded : (done : List Answering) (o : Option Opened) → All IsBounded done → IfSome o IsOpen
    → IfOk (closed_from done o) (All IsBounded)
closed_bounded done None all own = all
closed_bounded done (Some b) all own = ended_bounded done b (lacking b) all own

-- a block begins without lines
begun_bounded : (n : ℕ) (done : List Answering) (r : Result Opened LineWhy) → IfOk r IsOpen → All IsBounded done
    → IfOk (block_begun n done r) AreBounded
begun_bounded n done (Err why) own all = tt
begun_bounded n done (Ok b) own all = record { done = all; block = own }

block_bounded : (ps : Procs) (done : List Answering) (w : List ℕ) → IfOk (block_word ps done w) IsOpen
block_bounded ps done [] = tt
block_bounded ps done (b ∷ bs) = of (placed_from 0 (b ∷ bs) ps)
  where
    none : List Marked
    none = []

    new : (found : ℕ × Procedure) → IfOk (new_block done found) IsOpen
    new found =
        if_either (has_block done found.1.name) (Err whys.Twice) (Ok _) IsOpen tt
        (All-nil (λ (l : Marked). InBounds l.1))

    of : (o : Option (ℕ × Procedure)) → IfOk (and_then (ok_or o whys.Proc) (new_block done))
        IsOpen
    of None = tt
    of (Some found) = new found

-- ---- one more line

more_bounded : (n : ℕ) (done : List Answering) (b : Opened) (r : Result Saying LineWhy) → All IsBounded done → IsOpen b
    → IfOk r InBounds → IfOk (with_saying n done b r) AreBounded
more_bounded n done b (Err why) all own said = tt
more_bounded n done b (Ok line) all own said =
    record { done = all; block = All-push (λ (l : Marked). InBounds l.1) b.lines (n, line) own said }

module _ (t : Types) (ps : Procs) where
  saying_bounded : (n : ℕ) (done : List Answering) (b : Opened) (verb : Verb) (words : List (List ℕ))
      (o : Option Procedure) → All IsBounded done → IsOpen b → IfOk (said_in t n done b verb words o) AreBounded
  saying_bounded n done b verb words None all own = tt
  saying_bounded n done b verb words (Some p) all own =
      more_bounded n done b (script_line t p (sayings b.lines) verb words) all own
      (line_bounded t p (sayings b.lines) verb words)

  in_bounded : (n : ℕ) (done : List Answering) (o : Option Opened) (verb : Verb) (words : List (List ℕ))
      → All IsBounded done → IfSome o IsOpen → IfOk (in_block t ps n done o verb words) AreBounded
  in_bounded n done None verb words all own = tt
  in_bounded n done (Some b) verb words all own = saying_bounded n done b verb words (slice_get ps b.place) all own

  verb_bounded : (n : ℕ) (d : Draft) (verb : Verb) (words : List (List ℕ)) → AreBounded d
      → IfOk (by_verb t ps n d verb words) AreBounded
  verb_bounded n d verbs.On words a =
      on_bounded (closed d) (closed_bounded d.done d.block a.done a.block)
    where
      on_bounded : (r : Given (List Answering)) → IfOk r (All IsBounded)
          → IfOk (after r (λ done. block_begun n done (on_line ps done words))) AreBounded
      on_bounded (Err fault) all = tt
      on_bounded (Ok done) all =
          begun_bounded n done (on_line ps done words)
          (if_word (block_word ps done) end IsOpen IsOpen (block_bounded ps done) (λ b own. if_end b IsOpen own) words)
          all
  verb_bounded n d verb words a = in_bounded n d.done d.block verb words a.done a.block

  word_bounded : (n : ℕ) (d : Draft) (o : Option Verb) (words : List (List ℕ)) → AreBounded d
      → IfOk (by_word t ps n d o words) AreBounded
  word_bounded n d None words a = tt
  word_bounded n d (Some verb) words a = verb_bounded n d verb words a

  words_bounded : (n : ℕ) (d : Draft) (words : List (List ℕ)) → AreBounded d → IfOk (by_words t ps n d words) AreBounded
  words_bounded n d [] a = tt
  words_bounded n d (first ∷ words) a = word_bounded n d (verb_in VERBS first) words a

  -- ---- a text

  taken_bounded : (n : ℕ) (line : List ℕ) (d : Draft) → AreBounded d
      → IfOk (with_line (script_step t ps) n line d) AreBounded
  taken_bounded n line d a =
      given_either (nat_lt MAX_LINES n) (Err _) _ AreBounded tt
      (given_either (is_skipped line) (Ok d) (script_step t ps n line d) AreBounded a
      (words_bounded n d (words_of line) a))

  back_bounded : (before : List (List ℕ)) → IfOk (read_back (script_step t ps) no_lines before) AreBounded
  back_bounded [] = record { done = All-nil IsBounded; block = tt }
  back_bounded (line ∷ before) =
      after_well (read_back (script_step t ps) no_lines before)
      (with_line (script_step t ps) (suc (length before)) line) AreBounded (back_bounded before)
      (λ d a. taken_bounded (suc (length before)) line d a)

  -- those of a script that was read
  pub script_bounded : (text : List ℕ) (s : List Answering) → script_of t ps text ≡ Ok s
      → All (λ (b : Answering). All InBounds b.lines) s
  script_bounded text s read =
      subst (λ (r : Given (List Answering)). IfOk r (All IsBounded)) read
      (ends (read_back (script_step t ps) no_lines (reverse (lines_of text))) (back_bounded (reverse (lines_of text))))
    where
      ends : (r : Given Draft) → IfOk r AreBounded → IfOk (after r closed) (All IsBounded)
      ends (Err fault) a = tt
      ends (Ok d) a = closed_bounded d.done d.block a.done a.block
