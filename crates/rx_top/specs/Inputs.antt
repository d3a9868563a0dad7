-- What the files that a command names give, and how it ends at one that gives nothing. Public clauses cite this module.
use Rattle.std.specs.Prelude.{◌≡◌, ◌≢◌, ℕ, List, [], codes, false, Option, Some, None, Result, Ok, Err, ⊤}
use Rattle.std.specs.Str.{is_utf8}
use Rattle.rx_base.specs.Count.{one_more}
use Rattle.rx_base.specs.Files.{HasFile, IsNoted}
use Rattle.rx_script.specs.declared.fault.LineFault.TheVariants.{BadLine}
use Rattle.rx_script.specs.declared.plan.Numbered.{Numbered}
use Rattle.rx_script.specs.declared.plan.PlanLine.{PlanLine}
use Rattle.rx_script.specs.Causes.{line_why_text, plan_why_text}
use Rattle.rx_script.specs.Plans.{plan_of}
use Rattle.rx_script.specs.Saying.{Answering, Row, plan_rows}
use Rattle.rx_script.specs.Scripts.{script_of}
use Rattle.rx_script.specs.Texts.{Given}
use Rattle.xg_check.specs.Meaning.{Meant}
use Rattle.xg_compile.specs.declared.fault.CompileFault.{CompileFault}
use Rattle.xg_compile.specs.declared.fault.CompileFault.TheVariants.{OutOfMemory}
use Rattle.xg_compile.specs.Faults.{line_of, why_text}
use Rattle.xg_compile.specs.Means.{IsFirstFaultOf, Means}
use Rattle.rx_top.specs.declared.cause.Cause.{Cause}
use Rattle.rx_top.specs.declared.cause.Cause.TheVariants as causes
use Rattle.rx_top.specs.declared.outcome.SimOutcome.{SimOutcome}
use Rattle.rx_top.specs.declared.outcome.SimOutcome.TheVariants as outcomes
use Rattle.rx_top.specs.declared.status.Status.{Status}
use Rattle.rx_top.specs.declared.status.Status.TheVariants as statuses
use Rattle.rx_top.specs.Endings.{memory_text, refused_text, unread_text, unwritten_text}

-- ---- outcomes

-- a cause as it is printed
abbrev pub cause_text : Cause → List ℕ
cause_text causes.NoText = codes "word"
cause_text (causes.Xg why) = why
cause_text (causes.Line why) = line_why_text why
cause_text (causes.Run why) = plan_why_text why

-- how the program ends, by how `sim` ended
abbrev pub status_of : SimOutcome → Status
status_of outcomes.Ran = statuses.Ok
status_of (outcomes.Refused file line cause) = statuses.Refused
status_of (outcomes.FileFault file) = statuses.FileFault
status_of outcomes.SinkFault = statuses.SinkFault
status_of outcomes.OutOfMemory = statuses.Memory

-- what `sim` says of how it ended
abbrev pub said_of : SimOutcome → List ℕ
said_of outcomes.Ran = []
said_of (outcomes.Refused file line cause) = refused_text file.now line (cause_text cause)
said_of (outcomes.FileFault file) = unread_text file.now
said_of outcomes.SinkFault = unwritten_text
said_of outcomes.OutOfMemory = memory_text

-- how the program would end by a part of `sim`: it goes on, or the part ends it
abbrev pub status_in : {T : Type 0} → Result T SimOutcome → Status
status_in (Ok it) = statuses.Ok
status_in (Err outcome) = status_of outcome

-- ---- what files give

-- what files tell: their bytes; and the name whose read failed last, and how many were read, before and after
pub record Reads : Type 0 where
  pub contents : Option (List (List ℕ × List ℕ))
  pub failed_before : Option (Option (List ℕ))
  pub failed : Option (Option (List ℕ))
  pub count_before : ℕ
  pub count : ℕ

-- that of these files, by what such files tell
abbrev pub reads_by : {F : Type 0} → (F → Option (List (List ℕ × List ℕ))) → (F → Option (Option (List ℕ))) → (F → ℕ)
    → F → F → Reads
reads_by contents failed_last reads files_before files = record {
  contents = contents files_before;
  failed_before = failed_last files_before;
  failed = failed_last files;
  count_before = reads files_before;
  count = reads files;
}

-- no file was read
abbrev pub ReadNone : Reads → Type 0
ReadNone r = r.count ≡ r.count_before

-- one file was read
abbrev pub ReadOne : Reads → Type 0
ReadOne r = r.count ≡ one_more r.count_before

-- how many reads there were behind that of the named file, if one is named
abbrev pub read_on : Option (List ℕ) → ℕ → ℕ
read_on None count = count
read_on (Some name) count = one_more count

-- the reads behind that of the named file, if one is named
abbrev pub behind : Option (List ℕ) → Reads → Reads
behind name r = record r { count_before = read_on name r.count_before }

-- the file of this name is there, and this holds of its bytes
abbrev pub Gives : Option (List (List ℕ × List ℕ)) → List ℕ → (List ℕ → Type 0) → Type 0
Gives contents name Is = (bytes : List ℕ) × HasFile contents name bytes × Is bytes

-- the script that a text gives over an interface, or its first fault
abbrev pub script_given : Meant → List ℕ → Given (List Answering)
script_given m text = script_of m.types m.procs text

-- the same of a plan
abbrev pub plan_given : Meant → List ℕ → Given (List (Row PlanLine))
plan_given m text = plan_of m.types m.procs text

-- no types and no procedures
abbrev pub no_interface : Meant
no_interface = record { «package» = None; prefix = None; types = []; procs = [] }

-- the interface that the named text means, or the empty one where none is named
abbrev pub IsInterface : Option (List (List ℕ × List ℕ)) → Option (List ℕ) → Meant → Type 0
IsInterface contents None m = m ≡ no_interface
IsInterface contents (Some name) m = Gives contents name (λ text. Means text m)

-- the script that the named text gives, or the empty one where none is named
abbrev pub IsScript : Option (List (List ℕ × List ℕ)) → Meant → Option (List ℕ) → List Answering → Type 0
IsScript contents m None s = s ≡ []
IsScript contents m (Some name) s = Gives contents name (λ text. script_given m text ≡ Ok s)

-- the lines of the plan that the named text gives
abbrev pub IsPlan : Option (List (List ℕ × List ℕ)) → Meant → List ℕ → List Numbered → Type 0
IsPlan contents m name lines = Gives contents name (λ text. plan_given m text ≡ Ok (plan_rows lines))

-- ---- files that give nothing

-- the bytes of an interface file are refused: they are no text, or the fault of their text is the first
abbrev pub BadXg : List ℕ → ℕ → Cause → Type 0
BadXg bytes line causes.NoText = (line ≡ 0) × (is_utf8 bytes ≡ false)
BadXg bytes line (causes.Xg why) =
    (fault : CompileFault) × IsFirstFaultOf bytes fault × (line ≡ line_of fault) × (why ≡ why_text fault)
BadXg bytes line (causes.Line why) = ⊥
BadXg bytes line (causes.Run why) = ⊥

-- the bytes of a script or a plan are refused: they are no text, or this is the first line that gives nothing
abbrev pub BadLines : {S : Type 0} → (List ℕ → Given S) → List ℕ → ℕ → Cause → Type 0
BadLines given bytes line causes.NoText = (line ≡ 0) × (is_utf8 bytes ≡ false)
BadLines given bytes line (causes.Xg why) = ⊥
BadLines given bytes line (causes.Line why) = given bytes ≡ Err (BadLine line why)
BadLines given bytes line (causes.Run why) = ⊥

-- what the command refuses of a script, over an interface
abbrev pub BadScript : Meant → List ℕ → ℕ → Cause → Type 0
BadScript m = BadLines (script_given m)

-- what it refuses of a plan
abbrev pub BadPlan : Meant → List ℕ → ℕ → Cause → Type 0
BadPlan m = BadLines (plan_given m)

-- the command ends at a text of this file that is refused so, or memory was wanted
abbrev pub RefusesText : SimOutcome → List ℕ → (ℕ → Cause → Type 0) → Type 0
RefusesText outcomes.Ran name Bad = ⊥
RefusesText (outcomes.Refused file line cause) name Bad = (file.now ≡ name) × Bad line cause
RefusesText (outcomes.FileFault file) name Bad = ⊥
RefusesText outcomes.SinkFault name Bad = ⊥
RefusesText outcomes.OutOfMemory name Bad = ⊤

-- the command ends for this file: it can't be read, or its bytes are refused so, or memory was wanted
abbrev pub EndsFor : SimOutcome → List ℕ → (List ℕ → ℕ → Cause → Type 0) → Reads → Type 0
EndsFor outcomes.Ran name Bad r = ⊥
EndsFor (outcomes.Refused file line cause) name Bad r =
    (file.now ≡ name) × Gives r.contents name (λ bytes. Bad bytes line cause)
EndsFor (outcomes.FileFault file) name Bad r = (file.now ≡ name) × IsNoted r.failed_before r.failed name
EndsFor outcomes.SinkFault name Bad r = ⊥
EndsFor outcomes.OutOfMemory name Bad r = ⊤

-- the command reads this file, and ends for it
abbrev pub EndsAt : SimOutcome → List ℕ → (List ℕ → ℕ → Cause → Type 0) → Reads → Type 0
EndsAt outcome name Bad r = ReadOne r × EndsFor outcome name Bad r

-- the outcome of a text that has this fault first
abbrev pub IsFaultAt : CompileFault → ℕ → Cause → Type 0
IsFaultAt fault line causes.NoText = ⊥
IsFaultAt fault line (causes.Xg why) =
    (fault ≢ OutOfMemory) × (line ≡ line_of fault) × (why ≡ why_text fault)
IsFaultAt fault line (causes.Line why) = ⊥
IsFaultAt fault line (causes.Run why) = ⊥
