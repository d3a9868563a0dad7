-- What `sim` makes and leaves, by how it ended. Public clauses cite this module.
use Rattle.std.specs.Prelude.{◌≡◌, ◌⊎◌, ℕ, List, reverse, All, Option, Some, Ok, IsSomeAnd}
use Rattle.rx_jobs.specs.Handlers.{Handlers}
use Rattle.rx_law.specs.Promises.{ServerForgotNone}
use Rattle.rx_law.specs.Times.{Timely}
use Rattle.rx_model.specs.declared.event.Noted.{Noted}
use Rattle.rx_model.specs.Telling.{IsToldNoted}
use Rattle.rx_script.specs.declared.outcome.Outcome.{Outcome}
use Rattle.rx_script.specs.declared.outcome.Outcome.TheVariants as runs
use Rattle.rx_script.specs.declared.plan.Numbered.{Numbered}
use Rattle.rx_script.specs.Saying.{Answering, plan_rows}
use Rattle.rx_plan.specs.Answering.{AbortedAsServed, AreDriven, EndedAsServed, EndedByLaw, OkAsAnswered}
use Rattle.rx_plan.specs.Follows.{Went, Whole}
use Rattle.rx_plan.specs.Promises.{AreDistinct, Promises, plan_nodes}
use Rattle.rx_rounds.specs.Arriving.{ArrivesBy, WritesRequest}
use Rattle.rx_rounds.specs.Completing.{CompletesBy, InvokesOnce}
use Rattle.rx_closing.specs.Ended.{ClosesBy}
use Rattle.rx_closing.specs.EndedAll.{ClosesAllBy}
use Rattle.rx_stage.specs.Runs.{RunIs}
use Rattle.rx_plan.specs.Stages.{Stage}
use Rattle.rx_stage.specs.Tells.{Told}
use Rattle.xg_check.specs.Meaning.{Meant}
use Rattle.rx_top.specs.declared.cause.Cause.TheVariants as causes
use Rattle.rx_top.specs.declared.outcome.SimOutcome.{SimOutcome}
use Rattle.rx_top.specs.declared.outcome.SimOutcome.TheVariants as outcomes
use Rattle.rx_words.specs.declared.command.SimFiles.{SimFiles}
use Rattle.rx_top.specs.declared.status.Status.{Status}
use Rattle.rx_top.specs.Inputs.{BadPlan, BadScript, BadXg, EndsAt, IsInterface, IsPlan, IsScript, ReadNone, Reads}
use Rattle.rx_top.specs.Inputs.{behind, plan_given, said_of, status_of}

-- what serves the calls of a plan: an interface and a script
abbrev pub handlers_with : Meant → List Answering → Handlers
handlers_with m s = record { types = m.types; procs = m.procs; script = s }

-- these are the lines of a plan that a text gives
abbrev pub IsRead : Meant → List Numbered → Type 0
IsRead m lines = (text : List ℕ) × (plan_given m text ≡ Ok (plan_rows lines))

-- the invokes of a plan: each `ok` line says what the script answers, each handler ended with what is served for its
-- request, each caller ended as its call did, and with a code for one of the causes of that
pub record Answered (g : Handlers) (lines : List Numbered) (es : List Noted) (s : Stage) : Type 0 where
  pub ok : OkAsAnswered g lines s
  pub served : EndedAsServed g lines (plan_nodes lines) (reverse es) s
  pub ends : EndedByLaw (plan_nodes lines) (reverse es) s
  pub aborts : AbortedAsServed g lines (plan_nodes lines) (reverse es) s

-- that is said of a driven plan all lines of which were made, no two of whose clients share host and epoch, where no
-- record was forgotten or no datagram is old
abbrev pub AnswersInvokes : Handlers → List Numbered → List Noted → Went → Type 0
AnswersInvokes g lines es went =
    (s : Stage) → went ≡ Whole s → AreDriven lines → AreDistinct (plan_nodes lines)
    → ServerForgotNone (plan_nodes lines) (reverse es) ⊎ Timely (plan_nodes lines) (reverse es)
    → Answered g lines es s

-- the lines of a plan were run, and the events of that keep the promises of a plan; each is one that its line tells, so
-- no other events have their text; its invokes are answered; a request that it writes before rounds arrives; one invoke
-- before so many rounds comes to its end; and behind losses so many rounds end the one call that lives, and all that
-- live, where there is room for all
pub record Played (g : Handlers) (lines : List Numbered) (ran : Outcome) (before after : Told) : Type 0 where
  pub run : RunIs g lines ran before after
  pub promises : Promises lines run.events
  pub told : All IsToldNoted run.events
  pub answers : AnswersInvokes g lines run.events run.went
  pub arrives : (offer : List ℕ) (n : ℕ) → WritesRequest lines offer n → ArrivesBy lines offer run.went
  pub completes : (key : Option (List ℕ)) (n : ℕ) → InvokesOnce lines key n → CompletesBy g lines key n run.went
  pub closes : ClosesBy g lines run.events run.went
  pub all_close : ClosesAllBy g lines run.events run.went

-- `sim` ended as the run of the plan of this file did
abbrev pub EndsAs : SimOutcome → List ℕ → (Outcome → Type 0) → Type 0
EndsAs outcomes.Ran name Ran = Ran runs.Ran
EndsAs (outcomes.Refused file line (causes.Run why)) name Ran = (file.now ≡ name) × Ran (runs.Refused line why)
EndsAs (outcomes.Refused file line causes.NoText) name Ran = ⊥
EndsAs (outcomes.Refused file line (causes.Xg why)) name Ran = ⊥
EndsAs (outcomes.Refused file line (causes.Line why)) name Ran = ⊥
EndsAs (outcomes.FileFault file) name Ran = ⊥
EndsAs outcomes.SinkFault name Ran = Ran runs.SinkFault
EndsAs outcomes.OutOfMemory name Ran = Ran runs.OutOfMemory

-- over an interface and a script, `sim` ends at the plan's file, and nothing was told; or the plan was run
abbrev pub PlanIs : Meant → List Answering → List ℕ → SimOutcome → Reads → Told → Told → Type 0
PlanIs m s name outcome r before after =
    (EndsAt outcome name (BadPlan m) r × (after ≡ before))
    ⊎ ((lines : List Numbered) × IsPlan r.contents m name lines × ReadNone (behind (Some name) r)
    × EndsAs outcome name (λ ran. Played (handlers_with m s) lines ran before after))

-- over an interface, it ends at the script's file, and nothing was told; or it went on with the script
abbrev pub ScriptIs : Meant → SimFiles → SimOutcome → Reads → Told → Told → Type 0
ScriptIs m names outcome r before after =
    (IsSomeAnd names.script (λ name. EndsAt outcome name (BadScript m) r) × (after ≡ before))
    ⊎ ((s : List Answering) × IsScript r.contents m names.script s
    × PlanIs m s names.plan outcome (behind names.script r) before after)

-- it ends at the interface's file, and nothing was told; or it went on with the interface
abbrev pub InterfaceIs : SimFiles → SimOutcome → Reads → Told → Told → Type 0
InterfaceIs names outcome r before after =
    (IsSomeAnd names.xg (λ name. EndsAt outcome name BadXg r) × (after ≡ before))
    ⊎ ((m : Meant) × IsInterface r.contents names.xg m × ScriptIs m names outcome (behind names.xg r) before after)

-- what `sim` of these files does: the files are read in the order interface, script, plan, each once and checked before
-- the next; or memory was wanted before
abbrev pub SimIs : SimOutcome → SimFiles → Reads → Told → Told → Type 0
SimIs outcome names r before after =
    ((outcome ≡ outcomes.OutOfMemory) × ReadNone r × (after ≡ before)) ⊎ InterfaceIs names outcome r before after

-- what the program leaves of it: the status of how it ended, and the line of that said
abbrev pub SimLeaves : Status → SimFiles → Reads → Told → Told → (List ℕ → Type 0) → Type 0
SimLeaves status names r before after IsSaid =
    (outcome : SimOutcome) × (status ≡ status_of outcome) × SimIs outcome names r before after
    × IsSaid (said_of outcome)
