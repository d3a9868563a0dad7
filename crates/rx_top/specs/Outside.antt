-- What is outside of a command tells, and what a part of a command leaves of it. Public clauses cite this module.
use Rattle.std.specs.Prelude.{◌≡◌, ◌≢◌, ℕ, Bool, true, false, List, Option, Result, Ok, Err}
use Rattle.rx_base.specs.Sink.{HasRisen, IsPut}
use Rattle.rx_base.specs.declared.files.ReadFault.{ReadFault}
use Rattle.rx_base.specs.declared.files.ReadFault.TheVariants as reads
use Rattle.rx_model.specs.declared.event.Noted.{Noted}
use Rattle.rx_stage.specs.Tells.{Told as PlanTold, told as told_of_plan}
use Rattle.rx_wire_loop.specs.Tells.{SinkTells, Told as WireTold, WireTells, told as told_of_wire}
use Rattle.rx_top.specs.declared.status.Status.{Status}
use Rattle.rx_top.specs.declared.status.Status.TheVariants as statuses
use Rattle.rx_top.specs.Endings.{Seen}
use Rattle.rx_top.specs.Inputs.{Reads}

-- what files tell: their bytes, the name whose read failed last, how many were read, and how many reads failed
pub record FilesTell : Type 0 where
  pub contents : Option (List (List ℕ × List ℕ))
  pub last : Option (Option (List ℕ))
  pub reads : ℕ
  pub faults : ℕ

-- by which references files, `out`, `err`, a wire and a journal are reached
pub record Names : Type 0 where
  pub files : ℕ
  pub out : ℕ
  pub err : ℕ
  pub wire : ℕ
  pub book : ℕ

-- what they tell
pub record Outside : Type 0 where
  pub files : FilesTell
  pub out : SinkTells
  pub err : SinkTells
  pub wire : WireTells
  pub noted : Option (List Noted)
  pub names : Names

-- ---- the parts of it that commands speak of

-- what files tell, before and after
abbrev pub reads_of : Outside → Outside → Reads
reads_of a b = record {
  contents = a.files.contents;
  failed_before = a.files.last;
  failed = b.files.last;
  count_before = a.files.reads;
  count = b.files.reads;
}

-- what files and `out` tell, before and after
abbrev pub seen_of : Outside → Outside → Seen
seen_of a b = record {
  contents = a.files.contents;
  failed_before = a.files.last;
  failed = b.files.last;
  count_before = a.files.reads;
  count = b.files.reads;
  out_before = a.out.put;
  out = b.out.put;
}

-- what a journal and `out` tell
abbrev pub plan_told : Outside → PlanTold
plan_told a = told_of_plan a.noted a.out.put a.out.faults

-- what a journal, `out` and a wire tell
abbrev pub wire_told : Outside → WireTold
wire_told a = told_of_wire a.noted a.out a.wire

-- these bytes were put on `err`, or the first of them
abbrev pub Says : Outside → Outside → List ℕ → Type 0
Says a b = IsPut a.err.put b.err.put a.err.faults b.err.faults

-- ---- what is left as it was

-- each fault has its status, and each such status its fault; and what files have stays, as do the references
pub record Counts (status : Status) (a b : Outside) : Type 0 where
  pub file_fault : status ≡ statuses.FileFault → HasRisen a.files.faults b.files.faults
  pub no_file_fault : status ≢ statuses.FileFault → b.files.faults ≡ a.files.faults
  pub sink_fault : status ≡ statuses.SinkFault → HasRisen a.out.faults b.out.faults
  pub no_sink_fault : status ≢ statuses.SinkFault → b.out.faults ≡ a.out.faults
  pub wire_fault : status ≡ statuses.WireFault → HasRisen a.wire.faults b.wire.faults
  pub no_wire_fault : status ≢ statuses.WireFault → b.wire.faults ≡ a.wire.faults
  pub contents : b.files.contents ≡ a.files.contents
  pub last : status ≢ statuses.FileFault → b.files.last ≡ a.files.last
  pub names : b.names ≡ a.names

-- all but files tells what it told
pub record OnlyFiles (a b : Outside) : Type 0 where
  pub out : b.out ≡ a.out
  pub err : b.err ≡ a.err
  pub wire : b.wire ≡ a.wire
  pub noted : b.noted ≡ a.noted

-- all but `out` does
pub record OnlyOut (a b : Outside) : Type 0 where
  pub files : b.files ≡ a.files
  pub err : b.err ≡ a.err
  pub wire : b.wire ≡ a.wire
  pub noted : b.noted ≡ a.noted
  pub names : b.names ≡ a.names

-- all but `err` does
pub record OnlyErr (a b : Outside) : Type 0 where
  pub files : b.files ≡ a.files
  pub out : b.out ≡ a.out
  pub wire : b.wire ≡ a.wire
  pub noted : b.noted ≡ a.noted
  pub names : b.names ≡ a.names

-- where bytes were put alone, no status of files or a wire comes
pub record CountsPut (status : Status) (a b : Outside) : Type 0 where
  pub no_file_fault : status ≢ statuses.FileFault
  pub sink_fault : status ≡ statuses.SinkFault → HasRisen a.out.faults b.out.faults
  pub no_sink_fault : status ≢ statuses.SinkFault → b.out.faults ≡ a.out.faults
  pub no_wire_fault : status ≢ statuses.WireFault
  pub only : OnlyOut a b

-- all but a journal and `out` tells what it told
pub record OnlyPlan (a b : Outside) : Type 0 where
  pub files : b.files ≡ a.files
  pub err : b.err ≡ a.err
  pub wire : b.wire ≡ a.wire
  pub names : b.names ≡ a.names

-- all but a journal, `out` and a wire does
pub record OnlyWire (a b : Outside) : Type 0 where
  pub files : b.files ≡ a.files
  pub err : b.err ≡ a.err
  pub names : b.names ≡ a.names

-- ---- the status of a step

-- how the program would end by a read
abbrev pub read_status : {T : Type 0} → Result T ReadFault → Status
read_status (Ok it) = statuses.Ok
read_status (Err reads.Failed) = statuses.FileFault
read_status (Err reads.OutOfMemory) = statuses.Memory

-- a status of no fault that is counted
abbrev pub is_plain : Status → Bool
is_plain statuses.FileFault = false
is_plain statuses.SinkFault = false
is_plain statuses.WireFault = false
is_plain _ = true
