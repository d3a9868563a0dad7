-- What a contract sees of a `MemFiles`. Public clauses cite this module.
use Rattle.std.specs.Prelude.{ℕ, List, Option, String, Vec, map}
use Rattle.std.specs.String.{string_bytes}
use Rattle.std.specs.declared.alloc.Global.{Global}

-- files in memory by name, which reads are to fail, numbered from 1, and the name whose read failed last
pub record MemFilesState : Type 0 where
  pub files : List (List ℕ × List ℕ)
  pub failing : List ℕ
  pub reads : ℕ
  pub failed_last : Option (List ℕ)
  pub faults : ℕ

-- the files as bytes by name
abbrev pub files_of : List (String Global × Vec ℕ Global) → List (List ℕ × List ℕ)
files_of files =
    map (λ (file : String Global × Vec ℕ Global). (string_bytes file.0, file.1.items)) files
