-- What follows of the lines of a script that was read: it answers no code 0, and no request waits too long.
use Rattle.std.proofs.Common.{◌≡◌, ◌≤◌, ℕ, true, List, Option, Some, None, Ok, refl, subst, arith, unwrap_or, slice_get}
use Rattle.std.specs.List.{All}
use Rattle.std.proofs.lemmas.List.Elements.{All-weaker}
use Rattle.xdr_value.specs.Data.{Procedure, Procs, Types}
use Rattle.stub_table.specs.Requests.{RequestAnswer, whole, more_wanted, refused}
use Rattle.rx_script.specs.declared.limits.TheConstants.{MAX_WAIT}
use Rattle.rx_script.specs.Answers.{block_named, first_given}
use Rattle.rx_script.specs.Saying.{Answering, Saying, fail, wait, when}
use Rattle.rx_script.specs.Scripts.{script_of}
use Rattle.rx_jobs.specs.Handlers.{Handlers, answer_to, block_wait, proc_wait, turns_of, wait_from}
use Rattle.rx_plan.specs.Answering.{AnswersNoZero, WaitsShort}
use Rattle.rx_plan.proofs.Replying.{block_in, first_given_is}
use Rattle.rx_plan.proofs.Scripts.Reading.{InBounds, script_bounded}

-- ---- codes

no_zero : (l : Saying) → InBounds l → AnswersNoZero l
no_zero (when arg value code) bounded = bounded
no_zero (fail code) bounded = bounded
no_zero l bounded = tt

-- no line answers a code 0
pub script_codes : (t : Types) (ps : Procs) (text : List ℕ) (s : List Answering) → script_of t ps text ≡ Ok s
    → All (λ (b : Answering). All AnswersNoZero b.lines) s
script_codes t ps text s read =
    All-weaker (λ (b : Answering). All InBounds b.lines) (λ b. All AnswersNoZero b.lines)
    (λ b lines. All-weaker InBounds AnswersNoZero no_zero b.lines lines) s (script_bounded t ps text s read)

-- ---- waits

turns_few : (l : Saying) (n : ℕ) → InBounds l → turns_of l ≡ Some n → n ≤ MAX_WAIT
turns_few (wait turns) n bounded is = (let same : turns ≡ n = cc in subst (λ (m : ℕ). m ≤ MAX_WAIT) same bounded)
turns_few l n bounded is = absurd cc

block_short : (b : Answering) → All InBounds b.lines → block_wait (Some b) ≤ MAX_WAIT
block_short b lines = by (first_given turns_of b.lines) refl
  where
    by : (o : Option ℕ) → first_given turns_of b.lines ≡ o → unwrap_or o 0 ≤ MAX_WAIT
    by None none = omega arith
    by (Some n) some = first_given_is turns_of InBounds (λ m. m ≤ MAX_WAIT) turns_few b.lines n lines some

module _ (g : Handlers) (blocks : All (λ (b : Answering). All InBounds b.lines) g.script) where
  proc_short : (o : Option Procedure) → proc_wait g o ≤ MAX_WAIT
  proc_short None = omega arith
  proc_short (Some p) = by (block_named p.name g.script) refl
    where
      by : (o : Option Answering) → block_named p.name g.script ≡ o → block_wait o ≤ MAX_WAIT
      by None none = omega arith
      by (Some b) some = block_short b (block_in (All InBounds) p.name g.script b blocks some)

  asked_short : (a : RequestAnswer) → wait_from g a ≤ MAX_WAIT
  asked_short (whole index args used) = proc_short (slice_get g.procs index)
  asked_short more_wanted = omega arith
  asked_short (refused c) = omega arith

-- no request waits longer than a script may say
pub script_waits : (g : Handlers) (text : List ℕ) → script_of g.types g.procs text ≡ Ok g.script → WaitsShort g
script_waits g text read request =
    asked_short g (script_bounded g.types g.procs text g.script read) (answer_to g request true)
