-- How the program ends: its status, its line, and what it saw. Public clauses cite this module.
use Rattle.std.specs.Prelude.{◌++◌, ℕ, List, codes, decimal, Option}
use Rattle.rx_top.specs.declared.status.Status.{Status}
use Rattle.rx_top.specs.declared.status.Status.TheVariants as statuses

-- the exit status of the program, by how it ended
abbrev pub number_of : Status → ℕ
number_of statuses.Ok = 0
number_of statuses.Usage = 1
number_of statuses.Refused = 2
number_of statuses.Aborted = 3
number_of statuses.Dead = 4
number_of statuses.Memory = 5
number_of statuses.FileFault = 6
number_of statuses.SinkFault = 7
number_of statuses.WireFault = 8
number_of statuses.TurnsSpent = 9

-- what is said where the words are no command
abbrev pub usage_text : List ℕ
usage_text = codes "rx: usage\n"

-- what is said where memory is wanted
abbrev pub memory_text : List ℕ
memory_text = codes "rx: out of memory\n"

-- where in which file, and why
abbrev pub refused_text : List ℕ → ℕ → List ℕ → List ℕ
refused_text name line why = codes "rx: " ++ name ++ codes ":" ++ decimal line ++ codes ": " ++ why ++ codes "\n"

-- what is said of a file that can't be read
abbrev pub unread_text : List ℕ → List ℕ
unread_text name = codes "rx: cannot read " ++ name ++ codes "\n"

-- what is said where a sink takes no more bytes
abbrev pub unwritten_text : List ℕ
unwritten_text = codes "rx: cannot write\n"

-- what the files tell; and the name whose read failed last, how many were read, and what the sink tells, before and
-- after
pub record Seen : Type 0 where
  pub contents : Option (List (List ℕ × List ℕ))
  pub failed_before : Option (Option (List ℕ))
  pub failed : Option (Option (List ℕ))
  pub count_before : ℕ
  pub count : ℕ
  pub out_before : Option (List ℕ)
  pub out : Option (List ℕ)

-- that of these files and this sink, by what such files and sinks tell
abbrev pub seen_by : {F O : Type 0} → (F → Option (List (List ℕ × List ℕ))) → (F → Option (Option (List ℕ)))
    → (F → ℕ) → (O → Option (List ℕ)) → F → F → O → O → Seen
seen_by contents failed_last reads told files_before files out_before out = record {
  contents = contents files_before;
  failed_before = failed_last files_before;
  failed = failed_last files;
  count_before = reads files_before;
  count = reads files;
  out_before = told out_before;
  out = told out;
}
