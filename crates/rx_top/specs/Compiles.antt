-- What `compile XG` leaves, by how it ended. Public clauses cite this module.
use Rattle.std.specs.Prelude.{◌≡◌, ◌≢◌, ◌⊎◌, ℕ, List, [], codes, false, string_bytes, ⊤}
use Rattle.std.specs.Str.{is_utf8}
use Rattle.rx_base.specs.Count.{one_more}
use Rattle.rx_base.specs.Files.{HasFile, IsNoted}
use Rattle.rx_base.specs.Sink.{Gained, GainedSome}
use Rattle.xg_check.specs.Meaning.{Meant}
use Rattle.xg_compile.specs.declared.fault.CompileFault.{CompileFault}
use Rattle.xg_compile.specs.declared.fault.CompileFault.TheVariants.{OutOfMemory}
use Rattle.xg_compile.specs.Faults.{line_of, why_text}
use Rattle.xg_compile.specs.Means.{IsFirstFaultOf, Means}
use Rattle.xg_compile.specs.Tables.{table_text}
use Rattle.rx_top.specs.declared.compile.CompileOutcome.{CompileOutcome}
use Rattle.rx_top.specs.declared.compile.CompileOutcome.TheVariants as outcomes
use Rattle.rx_top.specs.declared.status.Status.{Status}
use Rattle.rx_top.specs.declared.status.Status.TheVariants as statuses
use Rattle.rx_top.specs.Endings.{Seen, memory_text, refused_text, unread_text, unwritten_text}

-- the text of an interface file is told, and means this interface
pub record HasMeaning (name : List ℕ) (seen : Seen) (meant : Meant) : Type 0 where
  pub text : List ℕ
  pub there : HasFile seen.contents name text
  pub means : Means text meant

-- the bytes of the file are no text
pub record HasNoText (name : List ℕ) (seen : Seen) : Type 0 where
  pub bytes : List ℕ
  pub there : HasFile seen.contents name bytes
  pub no_text : is_utf8 bytes ≡ false

-- the text of the file has this fault first
pub record HasFault (name : List ℕ) (seen : Seen) (fault : CompileFault) : Type 0 where
  pub text : List ℕ
  pub there : HasFile seen.contents name text
  pub first : IsFirstFaultOf text fault

-- nothing was put
abbrev pub PutsNothing : Seen → Type 0
PutsNothing seen = seen.out ≡ seen.out_before

-- the table of what the text of the file means was put
pub record PutsTable (name : List ℕ) (seen : Seen) : Type 0 where
  pub meant : Meant
  pub has : HasMeaning name seen meant
  pub told : Gained seen.out_before seen.out (table_text meant)

-- first bytes of that table were put
pub record PutsSomeOfTable (name : List ℕ) (seen : Seen) : Type 0 where
  pub meant : Meant
  pub has : HasMeaning name seen meant
  pub told : GainedSome seen.out_before seen.out (table_text meant)

-- the text is refused at that line for that cause, which are those of its first fault
pub record Refuses (name : List ℕ) (seen : Seen) (line : ℕ) (why : List ℕ) : Type 0 where
  pub fault : CompileFault
  pub has : HasFault name seen fault
  pub place : line ≡ line_of fault
  pub cause : why ≡ why_text fault
  pub nothing : PutsNothing seen

-- the outcome of a text that has this fault first, unless memory was wanted
abbrev pub IsRefusalOf : CompileFault → CompileOutcome → Type 0
IsRefusalOf fault outcomes.Put = ⊥
IsRefusalOf fault outcomes.NoText = ⊥
IsRefusalOf fault (outcomes.Refused line why) =
    (fault ≢ OutOfMemory) × (line ≡ line_of fault) × (string_bytes why ≡ why_text fault)
IsRefusalOf fault outcomes.FileFault = ⊥
IsRefusalOf fault outcomes.SinkFault = ⊥
IsRefusalOf fault outcomes.OutOfMemory = ⊤

-- what `compile` of this file does, by how it ended
abbrev pub CompileIs : CompileOutcome → List ℕ → Seen → Type 0
CompileIs outcomes.Put name seen = PutsTable name seen
CompileIs outcomes.NoText name seen = HasNoText name seen × PutsNothing seen
CompileIs (outcomes.Refused line why) name seen = Refuses name seen line (string_bytes why)
CompileIs outcomes.FileFault name seen = IsNoted seen.failed_before seen.failed name × PutsNothing seen
CompileIs outcomes.SinkFault name seen = PutsSomeOfTable name seen
CompileIs outcomes.OutOfMemory name seen = PutsNothing seen

-- how the program ends, by how `compile` ended
abbrev pub compile_status : CompileOutcome → Status
compile_status outcomes.Put = statuses.Ok
compile_status outcomes.NoText = statuses.Refused
compile_status (outcomes.Refused line why) = statuses.Refused
compile_status outcomes.FileFault = statuses.FileFault
compile_status outcomes.SinkFault = statuses.SinkFault
compile_status outcomes.OutOfMemory = statuses.Memory

-- what `compile` of this file says of how it ended
abbrev pub compile_said : CompileOutcome → List ℕ → List ℕ
compile_said outcomes.Put name = []
compile_said outcomes.NoText name = refused_text name 0 (codes "word")
compile_said (outcomes.Refused line why) name = refused_text name line (string_bytes why)
compile_said outcomes.FileFault name = unread_text name
compile_said outcomes.SinkFault name = unwritten_text
compile_said outcomes.OutOfMemory name = memory_text

-- the file was read once, unless memory was wanted before
abbrev pub ReadsOnce : CompileOutcome → Seen → Type 0
ReadsOnce outcome seen =
    (seen.count ≡ one_more seen.count_before)
    ⊎ ((outcome ≡ outcomes.OutOfMemory) × (seen.count ≡ seen.count_before))

-- what the program leaves of it: the status of how it ended, and the line of that said
abbrev pub CompileLeaves : Status → List ℕ → Seen → (List ℕ → Type 0) → Type 0
CompileLeaves status name seen IsSaid =
    (outcome : CompileOutcome) × (status ≡ compile_status outcome) × CompileIs outcome name seen
    × ReadsOnce outcome seen
    × IsSaid (compile_said outcome name)
