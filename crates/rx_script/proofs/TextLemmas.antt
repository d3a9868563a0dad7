-- A text read line by line is the text read.
use Rattle.std.proofs.Common.{◌≡◌, ℕ, suc, ◌+◌, ◌≤◌, add-one, ◌++◌, List, [], ◌∷◌, length, reverse, Ok, Err, refl, ap}
use Rattle.std.proofs.Common.{sym, ◌∙◌, append_assoc, lit≤}
use Rattle.std.proofs.lemmas.List.{append-nil, reverse-append}
use Rattle.rx_script.specs.declared.fault.LineFault.{LineFault}
use Rattle.rx_script.specs.declared.fault.LineFault.TheVariants.{BadLine, OutOfMemory}
use Rattle.rx_script.specs.declared.limits.TheConstants.{MAX_LINES}
use Rattle.rx_script.specs.Pieces.{lines_of}
use Rattle.rx_script.specs.Reading.{IsFaultOf}
use Rattle.rx_script.specs.Texts.{Given, Step, after, read_back, text_given, with_line}

-- ---- from the first line on

-- what was read with these lines of the text behind the n that gave it
abbrev pub read_after : {S : Type 0} → Step S → S → ℕ → List (List ℕ) → Given S
read_after step before n [] = Ok before
read_after step before n (line ∷ more) =
    after (with_line step (suc n) line before) (λ next. read_after step next (suc n) more)

after_Ok : {S : Type 0} (r : Given S) → after r (λ before. Ok before) ≡ r
after_Ok (Ok before) = refl
after_Ok (Err fault) = refl

after_after : {S R Q : Type 0} (r : Given S) (f : S → Given R) (g : R → Given Q)
    → after (after r f) g ≡ after r (λ before. after (f before) g)
after_after (Ok before) f g = refl
after_after (Err fault) f g = refl

reverse-cons : (line : List ℕ) (more done : List (List ℕ))
    → reverse (line ∷ more) ++ done ≡ reverse more ++ (line ∷ done)
reverse-cons line more done = rw (reverse-append (line ∷ []) more, append_assoc) refl

-- lines behind others, which stand newest first
pub read_back-behind : {S : Type 0} (step : Step S) (start : S) (more done : List (List ℕ))
    → read_back step start (reverse more ++ done)
    ≡ after (read_back step start done) (λ before. read_after step before (length done) more)
read_back-behind step start [] done = sym (after_Ok (read_back step start done))
read_back-behind {S} step start (line ∷ more) done =
    let next = λ (before : S). read_after step before (suc (length done)) more in
    rw (reverse-cons line more done)
    (read_back-behind step start more (line ∷ done)
    ∙ after_after (read_back step start done) (with_line step (suc (length done)) line) next)

-- ---- the cases of a reader

-- n lines of a text gave what was read, and with those that are left it gives what the text says
pub record IsReadSoFar {S : Type 0} (step : Step S) (start : S) (text : List ℕ) (before : S) (n : ℕ)
    (left : List (List ℕ)) : Type 0 where
  pub few : n ≤ MAX_LINES
  pub whole : read_after step before n left ≡ text_given step start text

-- no line was read
pub read_none : {S : Type 0} (step : Step S) (start : S) (text : List ℕ)
    → IsReadSoFar step start text start 0 (lines_of text)
read_none step start text =
    let behind = read_back-behind step start (lines_of text) [] in
    record { few = lit≤ tt; whole = sym behind ∙ ap (read_back step start) (append-nil (reverse (lines_of text))) }

-- one more line was taken
pub read_one : {S : Type 0} {step : Step S} {start : S} {text line : List ℕ} {more : List (List ℕ)} {n : ℕ}
    {before next : S}
    → IsReadSoFar step start text before n (line ∷ more)
    → n + 1 ≤ MAX_LINES
    → with_line step (n + 1) line before ≡ Ok next
    → IsReadSoFar step start text next (n + 1) more
read_one {S} {step} {start} {text} {line} {more} {n} {before} {next} so_far few taken =
    let here : with_line step (suc n) line before ≡ Ok next = rw add-one at taken in
    record { few = few; whole = rw add-one (rw here at so_far.whole) }

-- no line is left
pub read_all : {S : Type 0} {step : Step S} {start : S} {text : List ℕ} {n : ℕ} {before : S}
    → IsReadSoFar step start text before n []
    → text_given step start text ≡ Ok before
read_all so_far = sym so_far.whole

-- a line was refused, so the text is
pub read_refused : {S : Type 0} {step : Step S} {start : S} {text line : List ℕ} {more : List (List ℕ)} {n : ℕ}
    {before : S} (fault : LineFault)
    → IsReadSoFar step start text before n (line ∷ more)
    → IsFaultOf (with_line step (n + 1) line before) fault
    → IsFaultOf (text_given step start text) fault
read_refused {S} {step} {start} {text} {line} {more} {n} {before} (BadLine place why) so_far refused =
    let here : with_line step (suc n) line before ≡ Err (BadLine place why) = rw add-one at refused in
    sym (rw here at so_far.whole)
read_refused OutOfMemory so_far refused = tt

-- a fault of what was read is that of what comes after it
pub fault_after : {S R : Type 0} (given : Given S) (next : S → Given R) (fault : LineFault) → IsFaultOf given fault
    → IsFaultOf (after given next) fault
fault_after given next (BadLine place why) h = rw h refl
fault_after given next OutOfMemory h = tt
